-- The members of a list, each once.
use Rattle.std.proofs.Common.{◌≡◌, ℕ, ◌+◌, ◌<◌, ◌≤◌, ◌≢◌, Bool, true, false, List, [], ◌∷◌, ◌++◌, length, refl, sym, ap, ◌∙◌, arith, cond, inl, inr, length-append, get_or, take}
use Rattle.std.specs.Prelude.{filter, not, ◌==◌, ◌||◌, ◌&&◌, All}
use Rattle.std.specs.List.{list_any}
use Rattle.std.proofs.lemmas.Bool.{cases_eq}
use Rattle.std.proofs.lemmas.List.Elements.{filter-append, All-cons, All-head, All-tail, All-filter, All-get_or, filter_passes}
use Rattle.std.proofs.lemmas.List.{append-nil, get_or-take, get_or_default, length-take}
use Rattle.std.proofs.lemmas.List.Kept.{AllPairs-filter}
use Rattle.dl_base.specs.Paths.{IsDistinct}
use Rattle.dl_base.proofs.Distinct.{distinct_nil, distinct_cons}
use Rattle.dl_base.proofs.Filters.{length-filter_le}
use Rattle.dl_rows.specs.Counting.{each_once, is_in}
use Rattle.dl_rows.proofs.NumberLists.{alike, differ, and_true, is_in-filter, false_from}
use Rattle.std.specs.Bool.{Decides}
use Rattle.std.specs.Prelude.{Contains}
use Rattle.std.proofs.lemmas.Bool.Decides.{Decides-eqb}
use Rattle.std.proofs.lemmas.Map.Made.{is_member-Decides}

-- a test tells whether a number stands in a list
pub stands : (xs : List ℕ) (n : ℕ) → Decides (is_in xs n) (Contains xs n)
stands xs n = is_member-Decides Decides-eqb xs n

-- another member is new, or was there
push_step : (b : ℕ) (e v : Bool) → cond (not e) (cond v [] (b ∷ [])) [] ≡ cond (e || v) [] (b ∷ [])
push_step b true v = refl
push_step b false v = refl

filter_one : (b x : ℕ) (v : Bool) → filter (λ y. not (y == x)) (cond v [] (b ∷ [])) ≡ cond (not (b == x)) (cond v [] (b ∷ [])) []
filter_one b x true = by (not (b == x))
  where
    by : (w : Bool) → ◌≡◌ {A = List ℕ} [] (cond w [] [])
    by true = refl
    by false = refl
filter_one b x false = refl

pub each_once-push : (xs : List ℕ) (b : ℕ) → each_once (xs ++ b ∷ []) ≡ each_once xs ++ cond (is_in xs b) [] (b ∷ [])
each_once-push [] b = refl
each_once-push (x ∷ xs) b =
    ap (λ ys. x ∷ filter (λ y. not (y == x)) ys) (each_once-push xs b)
    ∙ ap (λ ys. x ∷ ys) (filter-append (λ y. not (y == x)) (each_once xs) (cond (is_in xs b) [] (b ∷ []))
    ∙ ap (λ ys. filter (λ y. not (y == x)) (each_once xs) ++ ys) (filter_one b x (is_in xs b) ∙ push_step b (b == x) (is_in xs b)))

pub each_once-push_new : (xs : List ℕ) (b : ℕ) → is_in xs b ≡ false → length (each_once (xs ++ b ∷ [])) ≡ length (each_once xs) + 1
each_once-push_new xs b e =
    let one = ap length (each_once-push xs b ∙ ap (λ v. each_once xs ++ cond v [] (b ∷ [])) e) in
    omega (arith, one, length-append (each_once xs) (b ∷ []))

pub each_once-push_old : (xs : List ℕ) (b : ℕ) → is_in xs b ≡ true → length (each_once (xs ++ b ∷ [])) ≡ length (each_once xs)
each_once-push_old xs b e =
    ap length (each_once-push xs b ∙ ap (λ v. each_once xs ++ cond v [] (b ∷ [])) e ∙ append-nil (each_once xs))

pub each_once_shorter : (xs : List ℕ) → length (each_once xs) ≤ length xs
each_once_shorter [] = omega arith
each_once_shorter (x ∷ xs) = omega (arith, length-filter_le (λ y. not (y == x)) (each_once xs), each_once_shorter xs)

filter_full : (p : ℕ → Bool) (xs : List ℕ) → length xs ≤ length (filter p xs) → filter p xs ≡ xs
filter_full p [] h = refl
filter_full p (x ∷ xs) h = by (p x) (filter_full p xs) h
  where
    by : (b : Bool) → (length xs ≤ length (filter p xs) → filter p xs ≡ xs)
        → length (x ∷ xs) ≤ length (cond b (x ∷ filter p xs) (filter p xs)) → cond b (x ∷ filter p xs) (filter p xs) ≡ x ∷ xs
    by true rest k = ap (λ ys. x ∷ ys) (rest (omega (arith, k)))
    by false rest k = absurd (omega (arith, k, length-filter_le p xs))

-- where as many are left, none stood twice
pub each_once_full : (xs : List ℕ) → length (each_once xs) ≡ length xs → each_once xs ≡ xs
each_once_full [] e = refl
each_once_full (x ∷ xs) e =
    let p : ℕ → Bool = λ y. not (y == x) in
    let rest : each_once xs ≡ xs = each_once_full xs (omega (arith, e, each_once_shorter xs, length-filter_le p (each_once xs))) in
    ap (λ ys. x ∷ ys) (filter_full p (each_once xs) (omega (arith, e, each_once_shorter xs)) ∙ rest)

in_step : (v w : Bool) → (v || (w && not v)) ≡ (v || w)
in_step true w = refl
in_step false w = and_true w

-- the same numbers stand in both
pub is_in-each_once : (xs : List ℕ) (n : ℕ) → is_in (each_once xs) n ≡ is_in xs n
is_in-each_once [] n = refl
is_in-each_once (x ∷ xs) n =
    ap (λ v. (n == x) || v) (is_in-filter (each_once xs) x n ∙ ap (λ v. v && not (n == x)) (is_in-each_once xs n))
    ∙ in_step (n == x) (is_in xs n)

turned_round : (a b : ℕ) → (a == b) ≡ (b == a)
turned_round a b =
    elim (cases_eq a b) [
      | inl e ↦ alike a b e ∙ sym (alike b a (sym e))
      | inr d ↦ differ a b d ∙ sym (differ b a (λ e. d (sym e)))
    ]

pub is_in-turned : (xs : List ℕ) (n : ℕ) → list_any (λ x. x == n) xs ≡ is_in xs n
is_in-turned [] n = refl
is_in-turned (x ∷ xs) n = ap (λ v. v || list_any (λ y. y == n) xs) (turned_round x n) ∙ ap (λ v. (n == x) || v) (is_in-turned xs n)

push_unless : (v : Bool) (xs : List ℕ) (b : ℕ) → cond v xs (xs ++ b ∷ []) ≡ xs ++ cond v [] (b ∷ [])
push_unless true xs b = sym (append-nil xs)
push_unless false xs b = refl

-- one more number goes last, unless it was there
pub each_once-inserted : (done : List ℕ) (b : ℕ) (v : Bool) → is_in (each_once done) b ≡ v
    → cond v (each_once done) (each_once done ++ b ∷ []) ≡ each_once (done ++ b ∷ [])
each_once-inserted done b v e =
    push_unless v (each_once done) b
    ∙ sym (each_once-push done b ∙ ap (λ w. each_once done ++ cond w [] (b ∷ [])) (sym (is_in-each_once done b) ∙ e))

-- what all numbers have, those have that are left
pub All-each_once : (P : ℕ → Type 0) (xs : List ℕ) → All P xs → All P (each_once xs)
All-each_once P [] h = h
All-each_once P (x ∷ xs) h =
    All-cons P x (filter (λ y. not (y == x)) (each_once xs)) (All-head P x xs h)
    (All-filter (λ y. not (y == x)) P (each_once xs) (All-each_once P xs (All-tail P x xs h)))

-- none of them stands twice
pub distinct_once : (xs : List ℕ) → IsDistinct (each_once xs)
distinct_once [] = distinct_nil
distinct_once (x ∷ xs) =
    let p : ℕ → Bool = λ y. not (y == x) in
    let rest : List ℕ = each_once xs in
    distinct_cons x (filter p rest)
    (λ m.
    let passes : p (get_or (filter p rest) m.0 x) ≡ true = All-get_or (λ y. p y ≡ true) (filter p rest) m.0 x m.1 (filter_passes p rest) in
    let here : p x ≡ true = ap p (sym m.2) ∙ passes in
    let same : p x ≡ false = ap not (alike x x refl) in
    cc)
    (AllPairs-filter (λ a b. a ≢ b) p rest (distinct_once xs))

-- what stands at a place of a list without repeats stands nowhere before it
pub once_new : (xs : List ℕ) (i : ℕ) → IsDistinct xs → i < length xs → is_in (take i xs) (get_or xs i 0) ≡ false
once_new xs i h lt =
    let b : ℕ = get_or xs i 0 in
    false_from (is_in (take i xs) b) (stands (take i xs) b)
    (λ m.
    let before : m.0 < i = omega (arith, m.1, length-take i xs) in
    h m.0 i 0 before lt (get_or_default xs m.0 0 b (omega (arith, before, lt)) ∙ sym (get_or-take i xs m.0 b before) ∙ m.2))
