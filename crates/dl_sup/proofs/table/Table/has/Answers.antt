use Rattle.std.proofs.Common.{List, is_some, subst, sym, ◌∙◌, ap}
use Rattle.std.specs.Prelude.{◌↔◌, IsTrue, Contains}
use Rattle.dl_sup.specs.declared.link.Link.{Link}
use Rattle.dl_sup.specs.Slots.{live}
use Rattle.dl_sup.proofs.Slots.{is_some_iff, found_has}
use Rattle.dl_sup.proofs.table.Table.has.Goals as goal

pub returns : goal.returns
returns c =
    subst (λ b. IsTrue b ↔ Contains c.args.self.now c.args.pair) (sym c.is_some.ensures)
    (subst (λ (ps : List Link). IsTrue (is_some c.find.result) ↔ Contains ps c.args.pair) (ap live c.as_slice.ensures.value ∙ c.self.view_is)
    (is_some_iff c.find.result c.find.ensures (found_has c.as_slice.result.now c.args.pair)))
