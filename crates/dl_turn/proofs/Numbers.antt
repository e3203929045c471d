-- The lines of a number, and the numbers that a seat claims, in a history that is one line longer.
use Rattle.std.proofs.Common.{◌≡◌, ◌≢◌, ℕ, ◌+◌, ◌<◌, ◌≤◌, true, false, List, [], ◌∷◌, ◌++◌, length, drop, refl, sym, ap, ◌∙◌, subst, ⊎_elim, arith}
use Rattle.std.proofs.lemmas.Bool.{eq-eqb}
use Rattle.std.proofs.lemmas.Bool.Decides.{eqb_tells}
use Rattle.std.proofs.lemmas.List.{append-nil}
use Rattle.std.proofs.lemmas.List.Elements.{All-nil, All-cons, All-head, All-tail, filter-append}
use Rattle.std.proofs.lemmas.List.Sums.{sum_by-cons}
use Rattle.std.proofs.Math.Seq.{drop-append_seam, drop-length}
use Rattle.std.specs.Prelude.{◌==◌, if◌then◌else◌, Option, Some, None, IfSome, All, sum_by}
use Rattle.dl_turn.specs.History.{lines_of, own_lines, HasLines, AllBelow}
use Rattle.dl_turn.specs.Steps.{is_at, is_at_some, lines_beyond, number_after}
use Rattle.dl_turn.specs.Views.{with_own}

pub is_at-same : (k j : ℕ) → j ≡ k → is_at k j ≡ 1
is_at-same k j e = ap (λ b. if b then 1 else 0) (eq-eqb j k e)

pub is_at-else : (k j : ℕ) → j ≢ k → is_at k j ≡ 0
is_at-else k j n = ⊎_elim (λ (t : ((j == k) ≡ true) × (j ≡ k)). absurd (n t.1)) (λ (t : ((j == k) ≡ false) × (j ≢ k)). ap (λ b. if b then 1 else 0) t.0) (eqb_tells j k)

module _ {L : Type 0} (number : L → ℕ) where
  lines_of-here : (k : ℕ) (x : L) → number x ≡ k → lines_of number k (x ∷ []) ≡ x ∷ []
  lines_of-here k x e = ap (λ b. if b then x ∷ [] else []) (eq-eqb (number x) k e)

  lines_of-else : (k : ℕ) (x : L) → number x ≢ k → lines_of number k (x ∷ []) ≡ []
  lines_of-else k x n = ⊎_elim (λ (t : ((number x == k) ≡ true) × (number x ≡ k)). absurd (n t.1)) (λ (t : ((number x == k) ≡ false) × (number x ≢ k)). ap (λ b. if b then x ∷ [] else []) t.0) (eqb_tells (number x) k)

  -- a line of the number goes to the end of its lines
  pub lines_of-push : (k : ℕ) (h : List L) (x : L) → number x ≡ k → lines_of number k (h ++ x ∷ []) ≡ lines_of number k h ++ x ∷ []
  lines_of-push k h x e = filter-append (λ l. number l == k) h (x ∷ []) ∙ ap (λ m. lines_of number k h ++ m) (lines_of-here k x e)

  -- and a line of another number changes nothing
  pub lines_of-push_else : (k : ℕ) (h : List L) (x : L) → number x ≢ k → lines_of number k (h ++ x ∷ []) ≡ lines_of number k h
  lines_of-push_else k h x n = filter-append (λ l. number l == k) h (x ∷ []) ∙ ap (λ m. lines_of number k h ++ m) (lines_of-else k x n) ∙ append-nil (lines_of number k h)

  -- a number that is not given out has no line
  pub lines_of-none : (k c : ℕ) (h : List L) → AllBelow number c h → c ≤ k → lines_of number k h ≡ []
  lines_of-none k c [] a n = refl
  lines_of-none k c (x ∷ xs) a n = ⊎_elim (λ (t : ((number x == k) ≡ true) × (number x ≡ k)). let lt = All-head (λ l. number l < c) x xs a in absurd (omega (arith, t.1, lt)))
      (λ (t : ((number x == k) ≡ false) × (number x ≢ k)). ap (λ b. if b then x ∷ lines_of number k xs else lines_of number k xs) t.0 ∙ lines_of-none k c xs (All-tail (λ l. number l < c) x xs a) n) (eqb_tells (number x) k)

  module _ (h : List L) (c : ℕ) where
    -- a number that is not given out is not among those that a seat joined
    pub olds_none : (k : ℕ) → c ≤ k → (olds : List (ℕ × List L)) → All (HasLines number h c) olds → sum_by (λ (e : ℕ × List L). is_at k e.0) olds ≡ 0
    olds_none k n [] a = refl
    olds_none k n (e ∷ es) a =
        let lt = (All-head (HasLines number h c) e es a).1 in
        let no = is_at-else k e.0 (λ q. absurd (omega (arith, q, lt))) in
        let rest = olds_none k n es (All-tail (HasLines number h c) e es a) in omega (arith, sum_by-cons (λ (e : ℕ × List L). is_at k e.0) e es)

    -- nor is it a seat's own
    pub own_none : (k : ℕ) → c ≤ k → (n : Option ℕ) → IfSome n (λ j. j < c) → is_at_some k n ≡ 0
    own_none k le None b = refl
    own_none k le (Some j) b = is_at-else k j (λ q. absurd (omega (arith, q, b)))

    -- the lines of the numbers that a seat joined stay, where the new line is of none of them
    pub olds_push : (l : L) (d : ℕ) → c ≤ d → (olds : List (ℕ × List L)) → All (HasLines number h c) olds → sum_by (λ (e : ℕ × List L). is_at (number l) e.0) olds ≡ 0
        → All (HasLines number (h ++ l ∷ []) d) olds
    olds_push l d n [] a z = All-nil (HasLines number (h ++ l ∷ []) d)
    olds_push l d n (e ∷ es) a z =
        let all = sum_by-cons (λ (e : ℕ × List L). is_at (number l) e.0) e es in
        let apart : number l ≢ e.0 = λ q. let one = is_at-same (number l) e.0 (sym q) in absurd (omega arith) in
        let has = All-head (HasLines number h c) e es a in
        let lt = has.1 in
        All-cons (HasLines number (h ++ l ∷ []) d) e es
        (has.0 ∙ sym (lines_of-push_else e.0 h l apart), omega (arith, lt))
        (olds_push l d n es (All-tail (HasLines number h c) e es a) (omega arith))

    -- and so do a seat's own lines, where the new line is not of its number
    pub own_push_else : (l : L) (n : Option ℕ) → is_at_some (number l) n ≡ 0 → own_lines number n (h ++ l ∷ []) ≡ own_lines number n h
    own_push_else l None z = refl
    own_push_else l (Some k) z = lines_of-push_else k h l (λ q. let one = is_at-same (number l) k (sym q) in absurd (omega arith))

    -- a line of the seat's number goes to the end of its own lines
    pub own_push : (l : L) (n : Option ℕ) → n ≡ Some (number l) → own_lines number n (h ++ l ∷ []) ≡ own_lines number n h ++ l ∷ []
    own_push l n e = let P : Option ℕ → Type 0 = λ n. own_lines number n (h ++ l ∷ []) ≡ own_lines number n h ++ l ∷ [] in subst P (sym e) (lines_of-push (number l) h l refl)

    -- the first line of a number is alone
    pub first_push : (l : L) → number l ≡ c → AllBelow number c h → lines_of number (number l) (h ++ l ∷ []) ≡ l ∷ []
    first_push l q below = lines_of-push (number l) h l refl ∙ ap (λ m. m ++ l ∷ []) (lines_of-none (number l) c h below (omega arith))

    pub below_more : (d : ℕ) → c ≤ d → (n : Option ℕ) → IfSome n (λ k. k < c) → IfSome n (λ k. k < d)
    below_more d n None b = tt
    below_more d n (Some k) b = omega (arith, b)

-- what a give makes of the seat's number and lines
module _ {L : Type 0} where
  pub number_same : (out : Option (List L × ℕ)) (h : List L) (c : ℕ) (n : Option ℕ) → out ≡ Some (h, c) → number_after out c n ≡ n
  number_same out h c n e = ap (λ (q : Option (List L × ℕ)). number_after q c n) e ∙ ap (λ b. if b then n else Some c) (eq-eqb c c refl)

  pub number_next : (out : Option (List L × ℕ)) (h : List L) (c d : ℕ) (n : Option ℕ) → out ≡ Some (h, c) → c ≢ d → number_after out d n ≡ Some c
  number_next out h c d n e apart = ap (λ (q : Option (List L × ℕ)). number_after q d n) e
      ∙ ⊎_elim (λ (t : ((c == d) ≡ true) × (c ≡ d)). absurd (apart t.1)) (λ (t : ((c == d) ≡ false) × (c ≢ d)). ap (λ b. if b then n else Some c) t.0) (eqb_tells c d)

  pub lines_beyond_same : (out : Option (List L × ℕ)) (h : List L) (c : ℕ) → out ≡ Some (h, c) → lines_beyond out h ≡ []
  lines_beyond_same out h c e = ap (λ (q : Option (List L × ℕ)). lines_beyond q h) e ∙ drop-length h

  pub lines_beyond_one : (out : Option (List L × ℕ)) (before h : List L) (c : ℕ) (l : L) → out ≡ Some (before, c) → h ≡ before ++ l ∷ [] → lines_beyond out h ≡ l ∷ []
  lines_beyond_one out before h c l e is = ap (λ (q : Option (List L × ℕ)). lines_beyond q h) e ∙ ap (drop (length before)) is ∙ drop-append_seam before (l ∷ [])

-- the numbers of a seat, its own in front
module _ {L : Type 0} where
  pub with_own-all : (P : ℕ × List L → Type 0) (n : Option ℕ) (mine : List L) (olds : List (ℕ × List L)) → ((j : ℕ) → n ≡ Some j → P (j, mine)) → All P olds → All P (with_own n mine olds)
  with_own-all P None mine olds a b = b
  with_own-all P (Some j) mine olds a b = All-cons P (j, mine) olds (a j refl) b

  pub sum_by-with_own : (j : ℕ) (n : Option ℕ) (mine : List L) (olds : List (ℕ × List L)) → sum_by (λ (e : ℕ × List L). is_at j e.0) (with_own n mine olds) ≡ is_at_some j n + sum_by (λ (e : ℕ × List L). is_at j e.0) olds
  sum_by-with_own j None mine olds = omega arith
  sum_by-with_own j (Some n) mine olds = sum_by-cons (λ (e : ℕ × List L). is_at j e.0) (n, mine) olds
