-- A climb along a relation without cycles ends.
use Rattle.std.proofs.Common.{◌≡◌, ◌≢◌, ℕ, zero, suc, ◌+◌, ◌<◌, List, [], ◌∷◌, inl, inr, ◌⊎◌, length, sym, subst, refl, arith}
use Rattle.std.specs.Prelude.{All, Contains}
use Rattle.std.proofs.lemmas.List.Kept.{AllPairs-cons}
use Rattle.std.proofs.lemmas.List.Elements.{All-nil, All-cons, All-contains, All-contains_itself, Contains-append_cases, Contains-append_right, Contains-get_or}
use Rattle.dl_base.specs.Paths.{IsDistinct, Descends, last_of, IsPath, HasCycle}
use Rattle.dl_base.proofs.Members.{all_more, only}
use Rattle.dl_base.proofs.Distinct.{no_longer, distinct_tail, distinct_head}

module _ {A : Type 0} (Above : A → A → Type 0) (acyclic : ¬ HasCycle Above) where
  -- the part of a path down to one of its members
  path_to : (first : A) (rest : List A) (y : A) → Descends Above first rest → IsDistinct (first ∷ rest) → Contains (first ∷ rest) y
      → (path : List A) × IsPath Above first y path × All (Contains (first ∷ rest)) path
  path_to first [] y d distinct m = (
    first ∷ [],
    record { rest = []; begins = refl; ends = sym (only first y m); descends = tt; distinct = distinct },
    All-contains_itself (first ∷ []),
  )
  path_to first (next ∷ rest) y d distinct m =
      elim (Contains-append_cases (first ∷ []) (next ∷ rest) y m) as (λ _. (path : List A) × IsPath Above first y path × All (Contains (first ∷ next ∷ rest)) path) [
        | inl one ↦ (
          first ∷ [],
          record { rest = []; begins = refl; ends = sym (only first y one); descends = tt; distinct = λ i j e before within. absurd (omega (arith, before, within)) },
          All-cons (Contains (first ∷ next ∷ rest)) first [] (0, omega arith, refl) (All-nil (Contains (first ∷ next ∷ rest))),
        )
        | inr below ↦
            let more = path_to next rest y d.1 (distinct_tail first (next ∷ rest) distinct) below in
            let p = more.1 in
            let new : ¬ Contains more.0 first = λ k. distinct_head first (next ∷ rest) distinct (All-contains (Contains (next ∷ rest)) more.0 first more.2 k) in (
              first ∷ more.0,
              record {
                rest = more.0;
                begins = refl;
                ends = subst (λ (l : List A). last_of Above first l ≡ y) (sym p.begins) p.ends;
                descends = subst (λ (l : List A). Descends Above first l) (sym p.begins) (d.0, p.descends);
                distinct = AllPairs-cons (λ a b. a ≢ b) first more.0 (λ k e lt same. new (subst (λ (z : A). Contains more.0 z) (sym same) (Contains-get_or more.0 k e lt))) p.distinct;
              },
              All-cons (Contains (first ∷ next ∷ rest)) first more.0 (0, omega arith, refl)
                  (all_more (Contains (next ∷ rest)) (Contains (first ∷ next ∷ rest)) more.0 (λ z _ k. Contains-append_right (first ∷ []) (next ∷ rest) z k) more.2),
            )
      ]

  -- what is above the first member of a path is new to it
  pub above_is_new : (x first : A) (rest : List A) → Descends Above first rest → IsDistinct (first ∷ rest) → Above x first → ¬ Contains (first ∷ rest) x
  above_is_new x first rest d distinct up m =
      let down = path_to first rest x d distinct m in
      acyclic (record { first = first; last = x; path = down.0; is_path = down.1; closes = up })

  pub distinct_above : (x first : A) (rest : List A) → Descends Above first rest → IsDistinct (first ∷ rest) → Above x first → IsDistinct (x ∷ first ∷ rest)
  distinct_above x first rest d distinct up =
      AllPairs-cons (λ a b. a ≢ b) x (first ∷ rest)
      (λ k e lt same. above_is_new x first rest d distinct up (subst (λ (z : A). Contains (first ∷ rest) z) (sym same) (Contains-get_or (first ∷ rest) k e lt)))
      distinct

  -- from each good place that is not the end, another good one is two steps above
  module _ {R : Type 0} (label : R → A) (all : List A) (Good Ends : R → Type 0)
      (inside : (r : R) → Good r → Contains all (label r))
      (step : (r : R) → Good r → Ends r ⊎ ((t : R) × (u : A) × Good t × Contains all u × Above (label t) u × Above u (label r))) where
    climb_on : (n : ℕ) (r : R) (rest : List A) → Good r → Descends Above (label r) rest → IsDistinct (label r ∷ rest) → All (Contains all) rest
        → length all < n + length rest → (e : R) × Good e × Ends e
    climb_on zero r rest good d distinct within room =
        absurd (omega (arith, no_longer (label r ∷ rest) all distinct (All-cons (Contains all) (label r) rest (inside r good) within)))
    climb_on (suc n) r rest good d distinct within room =
        elim (step r good) as (λ _. (e : R) × Good e × Ends e) [
          | inl ends ↦ (r, good, ends)
          | inr more ↦
              let first = distinct_above more.1 (label r) rest d distinct more.5 in
              climb_on n more.0 (more.1 ∷ label r ∷ rest) more.2 (more.4, (more.5, d))
              (distinct_above (label more.0) more.1 (label r ∷ rest) (more.5, d) first more.4)
              (All-cons (Contains all) more.1 (label r ∷ rest) more.3 (All-cons (Contains all) (label r) rest (inside r good) within))
              (omega arith)
        ]

    pub climb : (r : R) → Good r → (e : R) × Good e × Ends e
    climb r good =
        climb_on (suc (length all)) r [] good tt (λ i j e before within. absurd (omega (arith, before, within))) (All-nil (Contains all)) (omega arith)
