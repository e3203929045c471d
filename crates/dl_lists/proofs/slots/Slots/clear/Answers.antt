use Rattle.std.proofs.Common.{Option, None, ℕ, map, set, ap, ◌∙◌}
use Rattle.std.proofs.lemmas.List.{map-set}
use Rattle.dl_pages.specs.Paged.{PagedItems}
use Rattle.dl_lists.specs.KeptSlots.{slot_of}
use Rattle.dl_lists.proofs.slots.Slots.clear.Goals as goal

pub returns-clause-items : goal.returns-clause-items
returns-clause-items c =
    ap (map slot_of) c.put.ensures.items ∙ map-set slot_of c.self.inside.numbers.items c.args.at 4294967295
    ∙ ap (λ (v : PagedItems (Option ℕ)). set v.items c.args.at None) c.self.view_is
