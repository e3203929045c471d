-- A region with as many members as there are numbers has each number, and so each literal of a body.
use Rattle.std.proofs.Common.{◌≡◌, ℕ, ◌<◌, ◌&&◌, ◌||◌, Bool, true, false, List, [], ◌∷◌, length, get_or, inl, inr, ap, refl, ◌∙◌, arith}
use Rattle.std.specs.Prelude.{All, filter, not}
use Rattle.std.specs.List.{list_all, list_any}
use Rattle.std.proofs.lemmas.List.Elements.{All-head, All-tail, All-cons}
use Rattle.std.proofs.lemmas.Option.{slice_get-get_or}
use Rattle.dl_base.proofs.Distinct.{distinct_cons}
use Rattle.dl_base.proofs.Filters.{filter_all}
use Rattle.dl_graph.specs.Region.{Numbers, IsRegion}
use Rattle.dl_graph.specs.Numbers.{NetLists, IsNumbered, back}
use Rattle.dl_graph.specs.declared.link.Link.TheVariants.{Uses}
use Rattle.dl_fill.specs.Before.{is_inside}
use Rattle.dl_fill.proofs.Written.{inside_decides, member_or_not}
use Rattle.dl_fill.proofs.Touching.{body_inside}
use Rattle.dl_fill.proofs.Solving.{region_few}

-- one number more would be one too many
pub everywhere : (r : Numbers) → IsRegion r → length r.members ≡ r.bound → (q : ℕ) → q < r.bound → is_inside r.members q ≡ true
everywhere r h full q lt = elim (member_or_not r.members q) [
  | inl here ↦ (inside_decides r.members q).1 here
  | inr out ↦ absurd (omega (
    arith,
    full,
    region_few (record { bound = r.bound; members = q ∷ r.members })
        (record { distinct = distinct_cons q r.members out h.distinct; below = All-cons (λ n. n < r.bound) q r.members lt h.below }),
  ))
]

module _ (p m : ℕ → Bool) where
  each_inside : (xs : List ℕ) → All (λ i. p i ≡ true) xs → list_all (λ i. p i || m i) xs ≡ true
  each_inside [] h = refl
  each_inside (x ∷ xs) h =
      ap (λ (b : Bool). (b || m x) && list_all (λ i. p i || m i) xs) (All-head (λ i. p i ≡ true) x xs h) ∙ each_inside xs (All-tail (λ i. p i ≡ true) x xs h)

  none_outside : (xs : List ℕ) → All (λ i. p i ≡ true) xs → list_any (λ i. not (p i) && m i) xs ≡ false
  none_outside [] h = refl
  none_outside (x ∷ xs) h =
      ap (λ (b : Bool). (not b && m x) || list_any (λ i. not (p i) && m i) xs) (All-head (λ i. p i ≡ true) x xs h) ∙ none_outside xs (All-tail (λ i. p i ≡ true) x xs h)

module _ (N : NetLists) (numbered : IsNumbered N) (members : List ℕ) (every : (q : ℕ) → q < length N.names → is_inside members q ≡ true) (r : ℕ) where
  body_every : All (λ i. is_inside members i ≡ true) (back N Uses r)
  body_every = λ k d lt.
      every (get_or (back N Uses r) k d) (body_inside N numbered r k (get_or (back N Uses r) k d) (slice_get-get_or (back N Uses r) k d lt))

  pub body_stands : (m : ℕ → Bool) → list_all (λ i. is_inside members i || m i) (back N Uses r) ≡ true
  body_stands m = each_inside (is_inside members) m (back N Uses r) body_every

  pub body_stays : (m : ℕ → Bool) → list_any (λ i. not (is_inside members i) && m i) (back N Uses r) ≡ false
  body_stays m = none_outside (is_inside members) m (back N Uses r) body_every

  pub body_whole : filter (is_inside members) (back N Uses r) ≡ back N Uses r
  body_whole = filter_all (is_inside members) (back N Uses r) body_every
