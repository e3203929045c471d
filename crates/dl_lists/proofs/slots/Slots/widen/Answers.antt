use Rattle.std.proofs.Common.{Option, None, ℕ, get_or, ap, ◌∙◌, length, arith}
use Rattle.std.proofs.lemmas.List.{length-map}
use Rattle.dl_pages.specs.Paged.{PagedItems}
use Rattle.dl_lists.specs.KeptSlots.{slot_of}
use Rattle.dl_lists.proofs.SlotLemmas.{widened}
use Rattle.dl_lists.proofs.slots.Slots.widen.Goals as goal

pub returns-clause-kept : goal.returns-clause-kept
returns-clause-kept c = λ n.
    widened c.self.inside.numbers.items c.widen.new.self.items c.args.len
    (omega (arith, c.requires, length-map c.self.inside.numbers.items slot_of, ap (λ (v : PagedItems (Option ℕ)). length v.items) c.self.view_is))
    c.in_ok-widen.ensures.items n
    ∙ ap (λ (v : PagedItems (Option ℕ)). get_or v.items n None) c.self.view_is
