-- Hits that wait.
use Rattle.std.proofs.Common.{◌≡◌, ℕ, ◌<◌, List, [], ◌∷◌, ◌++◌, length, get_or, inl, inr, sym, subst, ap, ◌∙◌, arith, length-append}
use Rattle.std.specs.List.{fold}
use Rattle.std.proofs.lemmas.Bool.{cases_eq}
use Rattle.std.proofs.lemmas.List.{get_or_append_left}
use Rattle.arrayvec.specs.ArrayVec.{ArrayVec}
use Rattle.dl_fill.specs.Counters.{CounterLists, AreNodes, hit}
use Rattle.dl_fill.proofs.Times.{times_push_other}
use Rattle.dl_fill.proofs.Engine.{length-hits, queue-hits}

-- counters and hits that wait, both said in another way
pub made_is : (v u : CounterLists) (h g : ArrayVec ℕ) → v ≡ u → h ≡ g → fold hit v h.items ≡ fold hit u g.items
made_is v u h g e f = ap (λ (k : ArrayVec ℕ). fold hit v k.items) f ∙ ap (λ (w : CounterLists). fold hit w g.items) e

pub waits_is : (v u : CounterLists) (h g : ArrayVec ℕ) → v ≡ u → h ≡ g → AreNodes u g.items → AreNodes v h.items
waits_is v u h g e f waits =
    subst (λ (k : ArrayVec ℕ). AreNodes v k.items) (sym f) (subst (λ (w : CounterLists). AreNodes w g.items) (sym e) waits)

pub none_waits : (v : CounterLists) → AreNodes v []
none_waits v y m = absurd (omega arith)

-- no hit waits any more
pub made_all : (v u : CounterLists) (h g : ArrayVec ℕ) → v ≡ u → h ≡ g → g.items ≡ [] → fold hit v h.items ≡ u
made_all v u h g e f none = made_is v u h g e f ∙ ap (fold hit u) none

pub waits_none : (v : CounterLists) (h g : ArrayVec ℕ) → h ≡ g → g.items ≡ [] → AreNodes v h.items
waits_none v h g f none =
    subst (λ (k : ArrayVec ℕ). AreNodes v k.items) (sym f) (subst (λ (xs : List ℕ). AreNodes v xs) (sym none) (none_waits v))

-- hits make no nodes
pub length-made_same : (w v : CounterLists) (xs ys : List ℕ) → fold hit v xs ≡ fold hit w ys → length v.need ≡ length w.need
length-made_same w v xs ys same = omega (arith, length-hits xs v, length-hits ys w, ap (λ (u : CounterLists). length u.need) same)

pub length-made_more : (w v : CounterLists) (left hits ys : List ℕ) → fold hit v left ≡ fold hit (fold hit w hits) ys → length v.need ≡ length w.need
length-made_more w v left hits ys same = length-made_same (fold hit w hits) v left ys same ∙ length-hits hits w

pub one_waits : (w v : CounterLists) (hits : List ℕ) (node : ℕ) → length v.need ≡ length w.need → node < length w.need → AreNodes v hits → AreNodes v (hits ++ node ∷ [])
one_waits w v hits node size lt waits = λ y m.
    elim (cases_eq y node) [
      | inl is ↦ omega (arith, is, lt, size)
      | inr other ↦ waits y (omega (arith, m, times_push_other y node hits other))
    ]

module _ (w : CounterLists) (hits : List ℕ) (head : ℕ) (lt : head < length w.queue) where
  -- what stands in the queue stays there
  pub still_there : get_or w.queue head 0 ≡ get_or (fold hit w hits).queue head 0
  still_there =
      let more = queue-hits hits w in
      sym (ap (λ (q : List ℕ). get_or q head 0) more.1 ∙ get_or_append_left w.queue more.0 0 head lt)

  pub still_reached : head < length (fold hit w hits).queue
  still_reached =
      let more = queue-hits hits w in
      omega (arith, lt, ap (λ (q : List ℕ). length q) more.1, length-append w.queue more.0)
