use Rattle.std.proofs.Common.{◌≡◌, ◌≢◌, ℕ, List, sym, ap, subst}
use Rattle.std.specs.Prelude.{Contains, IfOk, MatchOption}
use Rattle.dl_base.proofs.Members.{only}
use Rattle.dl_sup.specs.HeadLists.{HeadLists}
use Rattle.dl_sup.specs.declared.slot.Way.TheVariants.{Down, Up}
use Rattle.dl_sup.specs.declared.front.Front.{Front}
use Rattle.dl_sup.specs.Slots.{live}
use Rattle.dl_sup.specs.Searching.{items_of, item_at, IsApart, IsWalk, Begins}
use Rattle.dl_sup.proofs.Fronts.{front_begun}
use Rattle.dl_sup.proofs.search.search.Goals as goal

first_of : (item : ℕ) (heads : HeadLists) (f : Front) → Begins item heads f → item_at f.visits 0 ≡ item
first_of item heads f b = ap (λ (vs : List (ℕ × ℕ)). item_at vs 0) b.visits

lacks : (item other : ℕ) (heads others : HeadLists) (f g : Front) → Begins item heads f → Begins other others g → item ≢ other
    → ¬ Contains (items_of f.visits) (item_at g.visits 0)
lacks item other heads others f g b d differ m =
    differ (sym (only item other (subst (λ (vs : List (ℕ × ℕ)). Contains (items_of vs) other) b.visits (subst (Contains (items_of f.visits)) (first_of other others g d) m))))

pub meet-requires-clause-low : goal.meet-requires-clause-low
meet-requires-clause-low c = front_begun Down c.args.slots.now c.args.downs.now c.requires.below c.args.from c.in_ok-low.low c.in_ok-low.ensures

pub meet-requires-clause-high : goal.meet-requires-clause-high
meet-requires-clause-high c = front_begun Up c.args.slots.now c.args.ups.now c.requires.over c.args.to c.in_ok-high.high c.in_ok-high.ensures

pub meet-requires-clause-low_lacks : goal.meet-requires-clause-low_lacks
meet-requires-clause-low_lacks c =
    lacks c.args.from c.args.to c.args.downs.now c.args.ups.now c.in_ok-low.low c.in_ok-high.high c.in_ok-low.ensures c.in_ok-high.ensures c.requires.apart

pub meet-requires-clause-high_lacks : goal.meet-requires-clause-high_lacks
meet-requires-clause-high_lacks c =
    lacks c.args.to c.args.from c.args.ups.now c.args.downs.now c.in_ok-high.high c.in_ok-low.low c.in_ok-high.ensures c.in_ok-low.ensures (λ e. c.requires.apart (sym e))

pub returns : goal.returns
returns c =
    let pairs = live c.args.slots.now in
    let low = item_at c.in_ok-low.low.visits 0 in
    subst (λ (x : ℕ). IfOk c.meet.result (λ found. MatchOption found (IsApart pairs x c.args.to) (IsWalk pairs x c.args.to)))
    (first_of c.args.from c.args.downs.now c.in_ok-low.low c.in_ok-low.ensures)
    (subst (λ (y : ℕ). IfOk c.meet.result (λ found. MatchOption found (IsApart pairs low y) (IsWalk pairs low y)))
    (first_of c.args.to c.args.ups.now c.in_ok-high.high c.in_ok-high.ensures) c.meet.ensures)
