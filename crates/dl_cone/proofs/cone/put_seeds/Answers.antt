use Rattle.std.proofs.Common.{subst}
use Rattle.std.proofs.lemmas.List.Elements.{All-contains}
use Rattle.dl_theory.specs.declared.edit.Edit.{Edit}
use Rattle.dl_theory.specs.Edits.{IsAccepted, HasBoth}
use Rattle.dl_cone.proofs.cone.put_seeds.Goals as goal

pub put_pair-requires-in-DropPair-clause-there : goal.put_pair-requires-in-DropPair-clause-there
put_pair-requires-in-DropPair-clause-there c =
    All-contains (HasBoth c.args.net.now.theory) c.args.net.now.theory.pairs c.in-DropPair.pair c.requires.formed.pairs_label_rules
    (subst (λ (e : Edit). IsAccepted c.args.net.now.theory e) c.in-DropPair.is c.requires.accepted)
