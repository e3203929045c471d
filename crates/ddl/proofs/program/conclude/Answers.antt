use Rattle.std.proofs.Common.{refl, subst}
use Rattle.dl_graph.specs.Numbers.{NetLists}
use Rattle.dl_files.specs.declared.theory_file.Loaded.{Loaded}
use Rattle.dl_files.specs.Theories.{IsLoaded}
use Rattle.dl_words.specs.Words.{Conclude}
use Rattle.ddl.specs.Run.{concluded, refused}
use Rattle.ddl.proofs.program.conclude.Goals as goal

pub returns-in_ok-concluded-in-Theory-clause-shown : goal.returns-in_ok-concluded-in-Theory-clause-shown
returns-in_ok-concluded-in-Theory-clause-shown c = λ holds file gives.
    concluded c.args.family file gives.0 c.in-Theory.theory.theory c.in_ok-concluded-in-Theory.concluded gives.1
    (subst (λ (x : Loaded NetLists). IsLoaded (λ (N : NetLists). N.theory) gives.0 x) c.in-Theory.is gives.2) c.in_ok-concluded-in-Theory.ensures

pub returns-in-Refused-clause-shown : goal.returns-in-Refused-clause-shown
returns-in-Refused-clause-shown c = λ holds file gives.
    refused (Conclude c.args.family file) file gives.0 c.in-Refused.refusal refl gives.1
    (subst (λ (x : Loaded NetLists). IsLoaded (λ (N : NetLists). N.theory) gives.0 x) c.in-Refused.is gives.2)
