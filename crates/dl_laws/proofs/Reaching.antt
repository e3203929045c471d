-- Whether a path leads from one label to another is decided, by a search over the pairs.
use Rattle.std.proofs.Common.{ℕ, List, [], ◌∷◌, ◌++◌, ◌⊎◌, inl, inr, refl, sym, subst, ap, arith}
use Rattle.std.specs.Prelude.{All, Contains}
use Rattle.std.specs.Str.{bytes_eq}
use Rattle.std.specs.Set.{is_member}
use Rattle.std.proofs.lemmas.Slice.Eq.{bytes_eq-Decides}
use Rattle.std.proofs.lemmas.Map.Made.{is_member-Decides}
use Rattle.std.proofs.lemmas.List.Elements.{All-nil, All-cons, All-push, All-contains, All-weaker, All-contains_itself, Contains-get_or, Contains-append_left, Contains-push}
use Rattle.dl_base.specs.Paths.{IsPath}
use Rattle.dl_base.proofs.Distinct.{distinct_nil, distinct_cons, distinct_push}
use Rattle.dl_base.proofs.PathLemmas.{path_stays, last_joined, descends_joined}
use Rattle.dl_theory.specs.declared.rule.Pair.{Pair}
use Rattle.dl_theory.specs.Lists.{IsAbove}
use Rattle.dl_theory.specs.Pairs.{pair_eq, pair_eq-Decides, Closes}
use Rattle.dl_theory.proofs.Deciding.{decided}
use Rattle.dl_laws.proofs.Searching.{Ended, search}

pub label_in : (xs : List (List ℕ)) (x : List ℕ) → Contains xs x ⊎ (¬ Contains xs x)
label_in xs x = decided (is_member bytes_eq xs x) (is_member-Decides bytes_eq-Decides xs x)

pub pair_in : (xs : List Pair) (p : Pair) → Contains xs p ⊎ (¬ Contains xs p)
pair_in xs p = decided (is_member pair_eq xs p) (is_member-Decides pair_eq-Decides xs p)

module _ (pairs : List Pair) (lower : List ℕ) where
  -- a path to x whose members were reached
  record Reached (seen : List (List ℕ)) (x : List ℕ) : Type 0 where
    path : List (List ℕ)
    is_path : IsPath (IsAbove pairs) lower x path
    within : All (Contains seen) path

  within_more : (seen : List (List ℕ)) (y : List ℕ) (xs : List (List ℕ)) → All (Contains seen) xs → All (Contains (seen ++ y ∷ [])) xs
  within_more seen y xs h = All-weaker (Contains seen) (Contains (seen ++ y ∷ [])) (Contains-append_left seen (y ∷ [])) xs h

  reached_more : (seen : List (List ℕ)) (y x : List ℕ) → Reached seen x → Reached (seen ++ y ∷ []) x
  reached_more seen y x r = record {
    path = r.path;
    is_path = r.is_path;
    within = within_more seen y r.path r.within;
  }

  -- a path goes on to a label that was not reached before
  go_on : (seen : List (List ℕ)) (p : Pair) → Contains pairs p → Reached seen p.upper → (¬ Contains seen p.lower) → Reached (seen ++ p.lower ∷ []) p.lower
  go_on seen p m r new =
      let is = r.is_path in
      record {
        path = r.path ++ p.lower ∷ [];
        is_path = record {
          rest = is.rest ++ p.lower ∷ [];
          begins = ap (λ (l : List (List ℕ)). l ++ p.lower ∷ []) is.begins;
          ends = last_joined (IsAbove pairs) lower is.rest p.lower [];
          descends = descends_joined (IsAbove pairs) lower is.rest p.lower [] is.descends
              (subst (λ (x : List ℕ). IsAbove pairs x p.lower) (sym is.ends) m) tt;
          distinct = distinct_push r.path p.lower is.distinct (λ there. new (All-contains (Contains seen) r.path p.lower r.within there));
        };
        within = All-push (Contains (seen ++ p.lower ∷ [])) r.path p.lower (within_more seen p.lower r.path r.within) (Contains-push seen p.lower);
      }

  -- the lower label and others, each at the end of a path within them
  abbrev IsReach : List (List ℕ) → Type 0
  IsReach seen = Contains seen lower × All (Reached seen) seen

  -- a pair below one that was reached
  abbrev IsNext : List (List ℕ) → Pair → Type 0
  IsNext seen p = Contains pairs p × Contains seen p.upper

  next_or_not : (seen : List (List ℕ)) (p : Pair) → IsNext seen p ⊎ (¬ IsNext seen p)
  next_or_not seen p =
      elim (pair_in pairs p) [
        | inr none ↦ inr (λ h. none h.0)
        | inl m ↦ elim (label_in seen p.upper) [ inl there ↦ inl (m, there) | inr none ↦ inr (λ h. none h.1) ]
      ]

  one_more : (seen : List (List ℕ)) (p : Pair) → IsReach seen → IsNext seen p → (¬ Contains seen p.lower) → IsReach (seen ++ p.lower ∷ [])
  one_more seen p reach next new = (
    Contains-append_left seen (p.lower ∷ []) lower reach.0,
    All-push (Reached (seen ++ p.lower ∷ [])) seen p.lower
        (All-weaker (Reached seen) (Reached (seen ++ p.lower ∷ [])) (reached_more seen p.lower) seen reach.1)
        (go_on seen p next.0 (All-contains (Reached seen) seen p.upper reach.1 next.1) new),
  )

  no_step : Reached (lower ∷ []) lower
  no_step = record {
    path = lower ∷ [];
    is_path = record {
      rest = [];
      begins = refl;
      ends = refl;
      descends = tt;
      distinct = distinct_cons lower [] (λ m. absurd (omega (arith, m.1))) distinct_nil;
    };
    within = All-contains_itself (lower ∷ []);
  }

  -- all that is reached from the lower label
  searched : Ended (Contains pairs) (λ p. p.lower) IsNext IsReach
  searched =
      search (Contains pairs) (λ p. p.lower) IsNext IsReach next_or_not label_in one_more pairs (lower ∷ [])
      (Contains-get_or (lower ∷ []) 0 lower (omega arith), All-cons (Reached (lower ∷ [])) lower [] no_step (All-nil (Reached (lower ∷ []))))
      (λ p m. m)

pub closes_or_not : (pairs : List Pair) (p : Pair) → Closes pairs p ⊎ (¬ Closes pairs p)
closes_or_not pairs p =
    let s = searched pairs p.lower in
    elim (label_in s.seen p.upper) [
      | inl there ↦ let r = All-contains (Reached pairs p.lower s.seen) s.seen p.upper s.keeps.1 there in inl (r.path, r.is_path)
      | inr none ↦ inr (λ c.
          none (path_stays (IsAbove pairs) (Contains s.seen) (λ x y m above. s.complete (record { upper = x; lower = y }) above (above, m))
          p.lower p.upper c.0 s.keeps.0 c.1))
    ]
