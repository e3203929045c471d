-- The rules for and against the literals of a region, and readers from a place on.
use Rattle.std.proofs.Common.{◌≡◌, ℕ, suc, ◌+◌, ◌<◌, ◌≤◌, Bool, true, false, Option, Some, None, cond, List, [], ◌∷◌, ◌++◌, length, take, replicate, inl, inr, ◌⊎◌, sym, subst, ap, refl, ◌∙◌, arith, length-append}
use Rattle.std.specs.Prelude.{slice_get, Contains, filter}
use Rattle.std.proofs.lemmas.Bool.{cases_eq, cases_lt}
use Rattle.std.proofs.lemmas.List.{take_more, take_all, length-replicate}
use Rattle.std.proofs.lemmas.Option.{slice_get_within, get_or_from_slice_get, slice_get-get_or}
use Rattle.dl_theory.specs.declared.rule.Rule.{Rule}
use Rattle.dl_theory.specs.Lists.{attackers, Supports, Opposes}
use Rattle.dl_graph.specs.Counting.{times}
use Rattle.dl_graph.specs.Region.{Numbers}
use Rattle.dl_graph.specs.Rows.{places_from}
use Rattle.dl_graph.specs.Numbers.{NetLists, IsNumbered, HasRule, literal_at, rule_at, of_rule, number, attackers_row, head_row, body_row, heads, back}
use Rattle.dl_graph.specs.declared.link.Link.TheVariants.{Uses}
use Rattle.dl_fill.specs.Prepared.{one_if}
use Rattle.dl_fill.specs.Touched.{Touches, Grows}
use Rattle.dl_fill.proofs.Times.{times-append, times_cons_same, times_cons_other, times_push_same, times_push_other}
use Rattle.dl_graph.proofs.Slots.{rule_within, row_of, row_has}
use Rattle.dl_fill.proofs.Rows.{places_turned}
use Rattle.dl_fill.proofs.Links.{single_has, body_sound, numbers_complete}
use Rattle.dl_fill.proofs.Written.{contains_times, member_or_not}

picked_more : (b : Bool) (y n : ℕ) (fs gs : List ℕ) → length gs ≡ length fs + n → length (cond b (y ∷ gs) gs) ≡ length (cond b (y ∷ fs) fs) + n
picked_more true y n fs gs e = omega (arith, e)
picked_more false y n fs gs e = e

picked_last : (b : Bool) (x : ℕ) → length (cond b (x ∷ []) []) ≡ one_if b
picked_last true x = refl
picked_last false x = refl

filter_push : (p : ℕ → Bool) (x : ℕ) (ys : List ℕ) → length (filter p (ys ++ x ∷ [])) ≡ length (filter p ys) + one_if (p x)
filter_push p x [] = picked_last (p x) x ∙ omega arith
filter_push p x (y ∷ ys) = picked_more (p y) y (one_if (p x)) (filter p ys) (filter p (ys ++ x ∷ [])) (filter_push p x ys)

-- one more of a list
module _ (xs : List ℕ) (i x : ℕ) (at : slice_get xs i ≡ Some x) where
  pub within_at : i < length xs
  within_at = slice_get_within xs i x at

  pub stands_at : 0 < times x xs
  stands_at = contains_times x xs (i, within_at, get_or_from_slice_get xs i x x at)

  pub grown_at : take (i + 1) xs ≡ take i xs ++ x ∷ []
  grown_at = take_more xs i x within_at ∙ ap (λ (y : ℕ). take i xs ++ y ∷ []) (get_or_from_slice_get xs i x x at)

  pub one_more : (y : ℕ) → 0 < times y (take (i + 1) xs) → (0 < times y (take i xs)) ⊎ (y ≡ x)
  one_more y h = elim (cases_eq y x) [
    | inl is ↦ inr is
    | inr other ↦ inl (omega (arith, h, ap (times y) grown_at, times_push_other y x (take i xs) other))
  ]

  pub filter_more : (p : ℕ → Bool) → length (filter p (take (i + 1) xs)) ≡ length (filter p (take i xs)) + one_if (p x)
  filter_more p = ap (λ (ys : List ℕ). length (filter p ys)) grown_at ∙ filter_push p x (take i xs)

pub one_most : (b : Bool) → one_if b ≤ 1
one_most true = omega arith
one_most false = omega arith

pub all_at : (xs : List ℕ) (i : ℕ) → slice_get xs i ≡ None → take i xs ≡ xs
all_at xs i e = elim (cases_lt i (length xs)) [
  | inl lt ↦ absurd (cc (slice_get-get_or xs i 0 lt, e))
  | inr ge ↦ take_all i xs ge
]

module _ {X : Type 0} (f : X → List ℕ) (q : ℕ) (few : (x : X) → times q (f x) ≤ 1) where
  length-places : (xs : List X) (k : ℕ) → length (places_from f k xs q) ≤ length xs
  length-places [] k = omega arith
  length-places (x ∷ xs) k =
      omega (
        arith,
        length-append (replicate (times q (f x)) k) (places_from f (suc k) xs q),
        length-replicate (times q (f x)) k,
        few x,
        length-places xs (suc k),
      )

module _ (N : NetLists) where
  pub heads_few : (q : ℕ) → length (heads N q) ≤ length N.rules
  heads_few q = length-places (of_rule (head_row N)) q (one_head q) N.rules 0
    where
      one_number : (q n : ℕ) → times q (n ∷ []) ≤ 1
      one_number q n = elim (cases_eq q n) [
        | inl is ↦ omega (arith, times_cons_same q n [] is)
        | inr other ↦ omega (arith, times_cons_other q n [] other)
      ]

      one_head : (q : ℕ) (r : Option Rule) → times q (of_rule (head_row N) r) ≤ 1
      one_head q None = omega arith
      one_head q (Some r) = one_number q (number N r.head)

  pub heads_inside : (q r : ℕ) → 0 < times r (heads N q) → r < length N.rules
  heads_inside q r m = rule_within N r (row_has N (head_row N) r q (omega (arith, m, places_turned (of_rule (head_row N)) N.rules r q))).0

  pub heads_has : (q r : ℕ) → HasRule N r → number N (rule_at N r).head ≡ q → 0 < times r (heads N q)
  heads_has q r lt e =
      omega (
        arith,
        places_turned (of_rule (head_row N)) N.rules r q,
        ap (times q) (row_of N (head_row N) r lt),
        single_has q (number N (rule_at N r).head) (sym e),
      )

  module _ (numbered : IsNumbered N) where
    pub body_inside : (r i b : ℕ) → slice_get (back N Uses r) i ≡ Some b → b < length N.names
    body_inside r i b e =
        let m = stands_at (back N Uses r) i b e in
        (body_sound N numbered r (row_has N (body_row N) r b m).0 b m).1

    module _ (members rules : List ℕ) (touches : Touches N members rules) (q : ℕ) (here : 0 < times q members) (lt : q < length N.names) (r : ℕ) (inside : HasRule N r) where
      pub supports_touched : Supports (literal_at N q) (rule_at N r) → 0 < times r rules
      supports_touched h = touches.for_members q here r (heads_has q r inside (ap (number N) h.0 ∙ numbered.distinct q lt))

      pub opposes_touched : Opposes N.theory (literal_at N q) (rule_at N r) → 0 < times r rules
      opposes_touched o =
          touches.against_members q here (number N (rule_at N r).head)
          (subst (λ (n : ℕ). 0 < times n (attackers_row N (literal_at N q))) (ap (number N) o.2)
          (numbers_complete N numbered (attackers N.theory (literal_at N q)) o.0 (rule_at N r).head o.1)) r
          (heads_has (number N (rule_at N r).head) r inside refl)

-- a rule is put among others
pub grows_none : (r : Numbers) → Grows r r
grows_none r = record { bound = refl; kept = λ x h. h }

pub grows_twice : (a b c : Numbers) → Grows a b → Grows b c → Grows a c
grows_twice a b c f g = record { bound = g.bound ∙ f.bound; kept = λ x h. g.kept x (f.kept x h) }

module _ (old new : Numbers) (x : ℕ) (same : new.bound ≡ old.bound) (there : Contains old.members x → new.members ≡ old.members)
    (fresh : (¬ Contains old.members x) → new.members ≡ old.members ++ x ∷ []) where
  pub put_grows : Grows old new
  put_grows = record {
    bound = same;
    kept = λ y h. elim (member_or_not old.members x) [
      | inl m ↦ subst (λ (xs : List ℕ). 0 < times y xs) (sym (there m)) h
      | inr n ↦ subst (λ (xs : List ℕ). 0 < times y xs) (sym (fresh n)) (omega (arith, h, times-append y old.members (x ∷ [])))
    ];
  }

  pub put_has : 0 < times x new.members
  put_has = elim (member_or_not old.members x) [
    | inl m ↦ subst (λ (xs : List ℕ). 0 < times x xs) (sym (there m)) (contains_times x old.members m)
    | inr n ↦ subst (λ (xs : List ℕ). 0 < times x xs) (sym (fresh n)) (omega (arith, times_push_same x x old.members refl))
  ]
