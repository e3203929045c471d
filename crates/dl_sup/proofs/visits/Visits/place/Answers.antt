use Rattle.std.proofs.Common.{◌≡◌, ℕ, ◌<◌, List, length, subst}
use Rattle.std.specs.Prelude.{MatchOption, Contains}
use Rattle.dl_sup.specs.Searching.{items_of, item_at}
use Rattle.dl_sup.proofs.VisitLemmas.{place_answer}
use Rattle.dl_sup.proofs.visits.Visits.place.Goals as goal

pub returns : goal.returns
returns c =
    subst (λ (vs : List (ℕ × ℕ)). MatchOption c.get_index_of.result (¬ Contains (items_of vs) c.args.item) (λ at. (at < length vs) × (item_at vs at ≡ c.args.item))) c.self.view_is
    (place_answer c.self.inside.map.entries c.args.item c.get_index_of.result c.get_index_of.ensures.index c.get_index_of.ensures.found)
