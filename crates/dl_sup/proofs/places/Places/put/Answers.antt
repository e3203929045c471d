use Rattle.std.proofs.Common.{ℕ, List, Some, cond, ap, ◌∙◌}
use Rattle.dl_sup.specs.declared.link.Link.{Link}
use Rattle.dl_sup.specs.Slots.{place_of}
use Rattle.dl_sup.specs.Links.{same_link}
use Rattle.dl_sup.proofs.places.Places.put.Goals as goal

pub returns-clause-put : goal.returns-clause-put
returns-clause-put c = λ q.
    c.in_ok-insert.ensures.updates.0 q
    ∙ ap (λ (es : List (Link × ℕ)). cond (same_link c.args.link q) (Some c.args.at) (place_of es q)) c.self.view_is
