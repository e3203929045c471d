-- The numbers of the rules whose rows have a literal.
use Rattle.std.proofs.Common.{◌≡◌, ℕ, zero, suc, ◌+◌, ◌<◌, ◌≤◌, Bool, true, false, Option, None, Some, List, [], ◌∷◌, ◌++◌, length, get_or, set, map, replicate, refl, sym, ap, subst, ◌∙◌, arith, cond, inl, inr, true≢false, append_assoc, append-nil, length-append, get_or-set_same, get_or-set_other}
use Rattle.std.specs.Prelude.{All, IsSome, filter, not, unwrap_or, ◌==◌, ◌||◌}
use Rattle.std.proofs.Math.ListN.{length-set}
use Rattle.std.proofs.lemmas.Bool.{cases_eq}
use Rattle.std.proofs.lemmas.List.{length-replicate}
use Rattle.std.proofs.lemmas.Bool.Decides.{Decides-eqb}
use Rattle.std.proofs.lemmas.List.Elements.{All-nil, All-append, All-replicate, filter-append}
use Rattle.dl_rows.specs.Counting.{times, each_once, is_in}
use Rattle.dl_rows.specs.Rows.{row, places_from, places}
use Rattle.dl_rows.specs.Tables.{drop_item}
use Rattle.dl_rows.proofs.NumberLists.{alike, differ}
use Rattle.dl_rules.specs.Lines.{Line, no_line, line_at, passes, kind_row, heads_row, uses_row, IsThere}

abbrev pub one : Bool → ℕ
one b = cond b 1 0

-- ---- how often a number stands in a row

times_cond : (q y : ℕ) (v : Bool) (ys : List ℕ) → times q (cond v (y ∷ ys) ys) ≡ cond v (one (q == y)) 0 + times q ys
times_cond q y true ys = refl
times_cond q y false ys = omega arith

join : (a b e : Bool) (n : ℕ) → (e ≡ true → a ≡ b) → cond a (one e) 0 + cond b n 0 ≡ cond b (one e + n) 0
join true true e n h = refl
join false false e n h = refl
join true false false n h = refl
join true false true n h = absurd (true≢false (h refl))
join false true false n h = refl
join false true true n h = absurd (true≢false (sym (h refl)))

times-filter : (p : ℕ → Bool) (q : ℕ) (ys : List ℕ) → times q (filter p ys) ≡ cond (p q) (times q ys) 0
times-filter p q [] = by (p q)
  where
    by : (v : Bool) → ◌≡◌ {A = ℕ} 0 (cond v 0 0)
    by true = refl
    by false = refl
times-filter p q (y ∷ ys) =
    times_cond q y (p y) (filter p ys)
    ∙ ap (λ n. cond (p y) (one (q == y)) 0 + n) (times-filter p q ys)
    ∙ join (p y) (p q) (q == y) (times q ys) (λ e. ap p (sym ((Decides-eqb q y).0 e)))

once_step : (e v : Bool) → one e + cond (not e) (one v) 0 ≡ one (e || v)
once_step true v = refl
once_step false true = refl
once_step false false = refl

pub times_once : (xs : List ℕ) (q : ℕ) → times q (each_once xs) ≡ one (is_in xs q)
times_once [] q = refl
times_once (x ∷ xs) q =
    ap (λ n. one (q == x) + n) (times-filter (λ y. not (y == x)) q (each_once xs) ∙ ap (λ n. cond (not (q == x)) n 0) (times_once xs q))
    ∙ once_step (q == x) (is_in xs q)

pub times_single : (q y : ℕ) → times q (y ∷ []) ≡ one (q == y)
times_single q y = omega arith

one_most : (b : Bool) → one b ≤ 1
one_most true = omega arith
one_most false = omega arith

pub times_head_most : (n : ℕ) (o : Option Line) → times n (heads_row o) ≤ 1
times_head_most n None = omega arith
times_head_most n (Some l) = omega (arith, times_single n l.head, one_most (n == l.head))

from_one : (b : Bool) → 0 < one b → b ≡ true
from_one true h = refl
from_one false h = absurd (omega (arith, h))

-- what stands in a row of a head or of a body was there
pub head_times : (n : ℕ) (o : Option Line) → 0 < times n (heads_row o) → (n == (unwrap_or o no_line).head) ≡ true
head_times n None h = absurd (omega (arith, h))
head_times n (Some l) h = from_one (n == l.head) (subst (λ (k : ℕ). 0 < k) (times_single n l.head) h)

pub use_times : (n : ℕ) (o : Option Line) → 0 < times n (uses_row o) → is_in (unwrap_or o no_line).body n ≡ true
use_times n None h = absurd (omega (arith, h))
use_times n (Some l) h = from_one (is_in l.body n) (subst (λ (k : ℕ). 0 < k) (times_once l.body n) h)

pub head_row_there : (n : ℕ) (o : Option Line) → 0 < times n (heads_row o) → IsSome o
head_row_there n None h = absurd (omega (arith, h))
head_row_there n (Some l) h = refl

-- ---- places in general

filter_replicate : (p : ℕ → Bool) (m k : ℕ) (b : Bool) → p k ≡ b → filter p (replicate m k) ≡ replicate (cond b m 0) k
filter_replicate p zero k true e = refl
filter_replicate p zero k false e = refl
filter_replicate p (suc m) k true e =
    ap (λ v. cond v (k ∷ filter p (replicate m k)) (filter p (replicate m k))) e ∙ ap (λ (ks : List ℕ). k ∷ ks) (filter_replicate p m k true e)
filter_replicate p (suc m) k false e =
    ap (λ v. cond v (k ∷ filter p (replicate m k)) (filter p (replicate m k))) e ∙ filter_replicate p m k false e

all_replicate : (P : ℕ → Type 0) (n k : ℕ) → (0 < n → P k) → All P (replicate n k)
all_replicate P zero k h = All-nil P
all_replicate P (suc n) k h = All-replicate P (suc n) k (h (omega arith))

-- the places of one list that pass a test are those of another
pub places_filtered : {X Y : Type 0} (f : X → List ℕ) (g : Y → List ℕ) (p : ℕ → Bool) (q : ℕ) (xs : List X) (ys : List Y) (k : ℕ) (d : X) (e : Y)
    → length xs ≡ length ys
    → ((i j : ℕ) → k + i ≡ j → i < length xs → cond (p j) (times q (f (get_or xs i d))) 0 ≡ times q (g (get_or ys i e)))
    → filter p (places_from f k xs q) ≡ places_from g k ys q
places_filtered f g p q [] [] k d e long same = refl
places_filtered f g p q [] (y ∷ ys) k d e long same = absurd (omega (arith, long))
places_filtered f g p q (x ∷ xs) [] k d e long same = absurd (omega (arith, long))
places_filtered f g p q (x ∷ xs) (y ∷ ys) k d e long same =
    filter-append p (replicate (times q (f x)) k) (places_from f (suc k) xs q)
    ∙ ap (λ (zs : List ℕ). zs ++ filter p (places_from f (suc k) xs q))
    (filter_replicate p (times q (f x)) k (p k) refl ∙ ap (λ n. replicate n k) (same 0 k (omega arith) (omega arith)))
    ∙ ap (λ (zs : List ℕ). replicate (times q (g y)) k ++ zs)
    (places_filtered f g p q xs ys (suc k) d e (omega (arith, long)) (λ i j at lt. same (suc i) j (omega (arith, at)) (omega (arith, lt))))

pub places-map : {L M : Type 0} (g : M → List ℕ) (f : L → M) (xs : List L) (k q : ℕ)
    → places_from g k (map f xs) q ≡ places_from (λ x. g (f x)) k xs q
places-map g f [] k q = refl
places-map g f (x ∷ xs) k q = ap (λ ys. replicate (times q (g (f x))) k ++ ys) (places-map g f xs (suc k) q)

module _ {X : Type 0} (f : X → List ℕ) (q : ℕ) where
  -- one member more
  pub places_push : (xs : List X) (x : X) (k j : ℕ) → k + length xs ≡ j → places_from f k (xs ++ x ∷ []) q ≡ places_from f k xs q ++ replicate (times q (f x)) j
  places_push [] x k j e = append-nil (replicate (times q (f x)) k) ∙ ap (λ n. replicate (times q (f x)) n) (omega (arith, e))
  places_push (y ∷ ys) x k j e =
      ap (λ (zs : List ℕ). replicate (times q (f y)) k ++ zs) (places_push ys x (suc k) j (omega (arith, e)))
      ∙ sym (append_assoc (replicate (times q (f y)) k) (places_from f (suc k) ys q) (replicate (times q (f x)) j))

  -- what is true of the place of each member whose row has the number
  pub places_all : (P : ℕ → Type 0) (xs : List X) (k : ℕ) (d : X) → ((i j : ℕ) → k + i ≡ j → i < length xs → 0 < times q (f (get_or xs i d)) → P j)
      → All P (places_from f k xs q)
  places_all P [] k d h = All-nil P
  places_all P (x ∷ xs) k d h =
      All-append P (replicate (times q (f x)) k) (places_from f (suc k) xs q)
      (all_replicate P (times q (f x)) k (λ some. h 0 k (omega arith) (omega arith) some))
      (places_all P xs (suc k) d (λ i j at lt some. h (suc i) j (omega (arith, at)) (omega (arith, lt)) some))

  -- where no row has the number twice
  pub places_few : (xs : List X) (k : ℕ) → ((x : X) → times q (f x) ≤ 1) → length (places_from f k xs q) ≤ length xs
  places_few [] k most = omega arith
  places_few (x ∷ xs) k most =
      omega (
        arith,
        length-append (replicate (times q (f x)) k) (places_from f (suc k) xs q),
        length-replicate (times q (f x)) k,
        places_few xs (suc k) most,
        most x,
      )

  -- a member goes, and leaves a row without numbers
  pub places_gone : (xs : List X) (x : ℕ) (d : X) → x < length xs → times q (f d) ≡ 0 → drop_item x (places f xs q) ≡ places f (set xs x d) q
  places_gone xs x d lt none =
      places_filtered f f (λ y. not (y == x)) q xs (set xs x d) 0 d d (sym (length-set xs x d))
      (λ i j at within.
      elim (cases_eq j x) [
        | inl e ↦
            let here : i ≡ x = omega (arith, at, e) in
            ap (λ (b : Bool). cond (not b) (times q (f (get_or xs i d))) 0) (alike j x e)
            ∙ sym none
            ∙ ap (λ (z : X). times q (f z)) (sym (ap (λ (k : ℕ). get_or (set xs x d) k d) here ∙ get_or-set_same xs x d d lt))
        | inr apart ↦
            ap (λ (b : Bool). cond (not b) (times q (f (get_or xs i d))) 0) (differ j x apart)
            ∙ ap (λ (z : X). times q (f z)) (sym (get_or-set_other xs x i d d (λ e. apart (omega (arith, at, e)))))
      ])

-- the row at a number, where none stands for what is not there
pub row_at : {X : Type 0} (f : X → List ℕ) (xs : List X) (k : ℕ) (d : X) → f d ≡ [] → row f xs k ≡ f (get_or xs k d)
row_at f [] k d none = sym none
row_at f (x ∷ xs) zero d none = refl
row_at f (x ∷ xs) (suc k) d none = row_at f xs k d none

-- ---- rules

pub heads_few : (lines : List (Option Line)) (n : ℕ) → length (places heads_row lines n) ≤ length lines
heads_few lines n = places_few heads_row n lines 0 (times_head_most n)

pub heads_there : (lines : List (Option Line)) (n : ℕ) → All (IsThere lines) (places heads_row lines n)
heads_there lines n =
    places_all heads_row n (IsThere lines) lines 0 None
    (λ i j at lt some. subst (λ (k : ℕ). IsThere lines k) (omega (arith, at)) (head_row_there n (get_or lines i None) some))

kind_step : (strict : Bool) (n : ℕ) (o : Option Line) → cond (passes strict (unwrap_or o no_line).kind) (times n (heads_row o)) 0 ≡ times n (kind_row strict o)
kind_step strict n None = by (passes strict no_line.kind)
  where
    by : (v : Bool) → ◌≡◌ {A = ℕ} (cond v 0 0) 0
    by true = refl
    by false = refl
kind_step strict n (Some l) = by (passes strict l.kind)
  where
    by : (v : Bool) → cond v (times n (l.head ∷ [])) 0 ≡ times n (cond v (l.head ∷ []) [])
    by true = refl
    by false = refl

-- the rules with a head of which the kind passes
pub kinds_are : (strict : Bool) (lines : List (Option Line)) (n : ℕ)
    → filter (λ s. passes strict (line_at lines s).kind) (places heads_row lines n) ≡ places (kind_row strict) lines n
kinds_are strict lines n =
    places_filtered heads_row (kind_row strict) (λ s. passes strict (line_at lines s).kind) n lines lines 0 None None refl
    (λ i j at lt.
    ap (λ (k : ℕ). cond (passes strict (line_at lines k).kind) (times n (heads_row (get_or lines i None))) 0) (omega (arith, at))
    ∙ kind_step strict n (get_or lines i None))
