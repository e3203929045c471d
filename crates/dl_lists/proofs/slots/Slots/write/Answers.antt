use Rattle.std.proofs.Common.{Option, Some, ℕ, map, set, ap, ◌∙◌}
use Rattle.std.proofs.lemmas.List.{map-set}
use Rattle.dl_pages.specs.Paged.{PagedItems}
use Rattle.dl_lists.specs.KeptSlots.{slot_of}
use Rattle.dl_lists.proofs.SlotLemmas.{slot_some}
use Rattle.dl_lists.proofs.slots.Slots.write.Goals as goal

pub returns-clause-items : goal.returns-clause-items
returns-clause-items c =
    ap (map slot_of) c.put.ensures.items ∙ map-set slot_of c.self.inside.numbers.items c.args.at c.args.number
    ∙ ap (λ (o : Option ℕ). set (map slot_of c.self.inside.numbers.items) c.args.at o) (slot_some c.args.number c.requires.few)
    ∙ ap (λ (v : PagedItems (Option ℕ)). set v.items c.args.at (Some c.args.number)) c.self.view_is
