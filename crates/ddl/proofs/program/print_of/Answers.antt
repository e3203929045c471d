use Rattle.std.proofs.Common.{refl, subst}
use Rattle.dl_theory.specs.Lists.{TheoryLists}
use Rattle.dl_files.specs.declared.theory_file.Loaded.{Loaded}
use Rattle.dl_files.specs.Theories.{IsLoaded}
use Rattle.dl_words.specs.Words.{Print}
use Rattle.ddl.specs.Run.{printed, refused}
use Rattle.ddl.proofs.program.print_of.Goals as goal

pub returns-in-Theory-clause-shown : goal.returns-in-Theory-clause-shown
returns-in-Theory-clause-shown c = λ holds file gives.
    printed file gives.0 c.in-Theory.theory gives.1 (subst (λ (x : Loaded TheoryLists). IsLoaded (λ (T : TheoryLists). T) gives.0 x) c.in-Theory.is gives.2)

pub returns-in-Refused-clause-shown : goal.returns-in-Refused-clause-shown
returns-in-Refused-clause-shown c = λ holds file gives.
    refused (Print file) file gives.0 c.in-Refused.refusal refl gives.1
    (subst (λ (x : Loaded TheoryLists). IsLoaded (λ (T : TheoryLists). T) gives.0 x) c.in-Refused.is gives.2)
