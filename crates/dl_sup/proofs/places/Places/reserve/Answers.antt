use Rattle.std.proofs.Common.{ℕ, List, ap, ◌∙◌}
use Rattle.dl_sup.specs.declared.link.Link.{Link}
use Rattle.dl_sup.specs.Slots.{place_of}
use Rattle.dl_sup.proofs.places.Places.reserve.Goals as goal

pub returns : goal.returns
returns c = λ q.
    c.reserve.ensures.entries.2 q
    ∙ ap (λ (es : List (Link × ℕ)). place_of es q) c.self.view_is
