-- A give: the place holds the board again, with one more line at most. The other seats do not claim the line's number.
use Rattle.std.proofs.Common.{◌≡◌, ◌≢◌, ℕ, ◌+◌, ◌<◌, ◌≤◌, true, false, List, [], ◌∷◌, ◌++◌, set, refl, sym, ap, ◌∙◌, subst, inl, inr, ⊎_elim, arith}
use Rattle.std.proofs.lemmas.Bool.Decides.{eqb_tells}
use Rattle.std.proofs.lemmas.List.{append-nil}
use Rattle.std.proofs.lemmas.List.Elements.{All-push, All-weaker}
use Rattle.std.specs.Prelude.{◌==◌, Option, Some, None, IfSome, sum_by}
use mathlib.Core.Option.{some}
use lib.ListN.{get_elem?}
use Rattle.crossbeam_queue.specs.Fifo.{Pushes, Learns}
use Rattle.dl_turn.specs.History.{own_lines, AllBelow}
use Rattle.dl_turn.specs.Steps.{given, renewed, claims, is_at, is_at_some, lines_beyond}
use Rattle.dl_turn.specs.Rules.{Fits, IsKept, Holds}
use Rattle.dl_turn.specs.Views.{IsAsTaken, HasOwnLine, HasFirstLine, MayGive}
use Rattle.dl_turn.specs.declared.view.PassView.{PassView}
use Rattle.dl_turn.specs.declared.view.Stage.TheVariants.{Seated}
use Rattle.dl_turn.proofs.Kept.{seated_kept, holder}
use Rattle.dl_turn.proofs.Lists.{each_set, sum_by-set_at, one-le-sum_by, two-le-sum_by, sum_by-none, begins_itself, begins_more}
use Rattle.dl_turn.proofs.Numbers.{is_at-same, is_at-else, olds_none, own_none, olds_push, own_push, own_push_else, first_push, below_more, number_same, number_next, lines_beyond_same, lines_beyond_one}

some_pair : {A : Type 0} {x y : A} {c d : ℕ} (o : Option (A × ℕ)) → o ≡ Some (x, c) → o ≡ Some (y, d) → (x ≡ y) × (c ≡ d)
some_pair {A} {x} {y} {c} {d} o a b = let X : A × ℕ = (x, c) in let Y : A × ℕ = (y, d) in let e : X ≡ Y = cc in (ap (λ (z : A × ℕ). z.0) e, ap (λ (z : A × ℕ). z.1) e)

-- who may give is out
pub out_of : {L : Type 0} (number : L → ℕ) (o : Option (List L × ℕ)) (n : Option ℕ) (h : List L) (c : ℕ) → MayGive number o n h c → o ≢ None
out_of {L} number o n h c may = ⊎_elim
    (λ (x : IsAsTaken number o n h c). λ z. absurd (cc))
    (⊎_elim
    (λ (x : HasOwnLine number o n h c). λ z. let y = x.2 in absurd (cc))
    (λ (x : HasFirstLine number o n h c). λ z. let y = x.2 in absurd (cc)))
    may

-- a seat and a history that is one line longer
module _ {L S : Type 0} (number : L → ℕ) (s : S) (h : List L) (c : ℕ) (v : PassView L S) (f : Fits number s h c v) where
  -- a number that is not given out is claimed by no seat
  claims-none : (k : ℕ) → c ≤ k → claims k v ≡ 0
  claims-none k le = let rest = olds_none number h c k le v.olds f.olds in let own = own_none number h c k le v.number f.below in omega arith

  -- a seat that does not claim the line's number fits
  fits_else : (l : L) (d : ℕ) → c ≤ d → claims (number l) v ≡ 0 → Fits number s (h ++ l ∷ []) d v
  fits_else l d le z = record {
    seen = begins_more h v.seen (l ∷ []) f.seen;
    also_seen = begins_more h v.also_seen (l ∷ []) f.also_seen;
    mine = f.mine ∙ sym (own_push_else number h c l v.number (omega arith));
    below = below_more number h c d le v.number f.below;
    olds = olds_push number h c l d le v.olds f.olds (omega arith);
    starts = f.starts;
    begun = f.begun;
  }

  -- the giver, by the three cases
  fits_as_taken : Fits number s h c (renewed h v.number v.mine v)
  fits_as_taken = record { seen = begins_itself h; also_seen = f.also_seen; mine = f.mine; below = f.below; olds = f.olds; starts = f.starts; begun = f.begun }

  fits_own_line : (l : L) → v.number ≡ Some (number l) → sum_by (λ (e : ℕ × List L). is_at (number l) e.0) v.olds ≡ 0 → Fits number s (h ++ l ∷ []) c (renewed (h ++ l ∷ []) v.number (v.mine ++ l ∷ []) v)
  fits_own_line l n z = record {
    seen = begins_itself (h ++ l ∷ []);
    also_seen = begins_more h v.also_seen (l ∷ []) f.also_seen;
    mine = ap (λ m. m ++ l ∷ []) f.mine ∙ sym (own_push number h c l v.number n);
    below = f.below;
    olds = olds_push number h c l c (omega arith) v.olds f.olds z;
    starts = f.starts;
    begun = f.begun;
  }

  fits_first_line : (l : L) → v.number ≡ None → number l ≡ c → AllBelow number c h → Fits number s (h ++ l ∷ []) (number l + 1) (renewed (h ++ l ∷ []) (Some (number l)) (v.mine ++ l ∷ []) v)
  fits_first_line l n q below = record {
    seen = begins_itself (h ++ l ∷ []);
    also_seen = begins_more h v.also_seen (l ∷ []) f.also_seen;
    mine = ap (λ m. m ++ l ∷ []) (f.mine ∙ no_lines v.number n) ∙ sym (first_push number h c l q below);
    below = omega arith;
    olds = olds_push number h c l (number l + 1) (omega arith) v.olds f.olds (olds_none number h c (number l) (omega arith) v.olds f.olds);
    starts = f.starts;
    begun = f.begun;
  }
    where
      no_lines : (n : Option ℕ) → n ≡ None → own_lines number n h ≡ []
      no_lines n e = ap (λ n. own_lines number n h) e

module _ {B L S : Type 0} (start : B → S) (history : B → List L) (enrolled : B → ℕ) (number : L → ℕ) (none : S) where
  abbrev Rule : List B → List (PassView L S) → Type 0
  Rule = Holds start history enrolled number none

  abbrev Kept : List B → List (PassView L S) → Type 0
  Kept = IsKept start history enrolled number

  -- a give is not refused, since the place is empty
  pub empties : (p : ℕ) (v : PassView L S) → v.stage ≡ Seated → v.out ≢ None → Learns Rule p v (λ items. items ≡ [])
  empties p v seated out items views rule at = (holder start history enrolled number none items views (seated_kept start history enrolled number none items views p v seated at rule) p v at out).0

  -- the rule, where the giver and the others fit the board that was put back
  given_kept : (views : List (PassView L S)) (k : Kept [] views) (p : ℕ) (v : PassView L S) (b : B) (n : Option ℕ) (mine : List L)
      → get_elem? views p ≡ some v → v.out ≢ None → start b ≡ k.s
      → Fits number k.s (history b) (enrolled b) (renewed (history b) n mine v)
      → ((j : ℕ) (u : PassView L S) → j ≢ p → get_elem? views j ≡ some u → Fits number k.s (history b) (enrolled b) u)
      → ((j : ℕ) → sum_by (claims j) (set views p (renewed (history b) n mine v)) ≤ 1)
      → AllBelow number (enrolled b) (history b)
      → Kept (b ∷ []) (set views p (renewed (history b) n mine v))
  given_kept views k p v b n mine at out s fw others apart below = let w : PassView L S = renewed (history b) n mine v in let x = holder start history enrolled number none [] views k p v at out in record {
    s = k.s;
    h = history b;
    c = enrolled b;
    placed = inl (b, refl, s, refl, refl, each_set (λ _ (u : PassView L S). u.out ≡ None) views p w refl x.2);
    fits = each_set (λ _. Fits number k.s (history b) (enrolled b)) views p w fw others;
    apart = apart;
    below = below;
  }

  gives_as_taken : (views : List (PassView L S)) (k : Kept [] views) (p : ℕ) (v : PassView L S) (b : B) → get_elem? views p ≡ some v → start b ≡ k.s → v.out ≡ Some (history b, enrolled b)
      → Kept (b ∷ []) (set views p (given (history b) (enrolled b) v))
  gives_as_taken views k p v b at s out =
      let some_out : v.out ≢ None = λ z. absurd (cc) in
      let x = holder start history enrolled number none [] views k p v at some_out in
      let same = some_pair v.out out x.1 in
      let F : PassView L S → List L × ℕ → Type 0 = λ u y. Fits number k.s y.0 y.1 u in
      let back : (u : PassView L S) → Fits number k.s k.h k.c u → Fits number k.s (history b) (enrolled b) u = λ u g. subst (F u) (λ i. (sym same.0 i, sym same.1 i)) g in
      let n = number_same v.out (history b) (enrolled b) v.number out in
      let m : v.mine ++ lines_beyond v.out (history b) ≡ v.mine = ap (λ l. v.mine ++ l) (lines_beyond_same v.out (history b) (enrolled b) out) ∙ append-nil v.mine in
      let w : PassView L S = renewed (history b) v.number v.mine v in
      let now : Kept (b ∷ []) (set views p w) = given_kept views k p v b v.number v.mine at some_out s
      (fits_as_taken number k.s (history b) (enrolled b) v (back v (k.fits p v at)))
      (λ j u _ e. back u (k.fits j u e))
      (λ j. let t = sum_by-set_at (claims j) views p v w at in let a = k.apart j in omega (arith, t, a))
      (subst (λ (y : List L × ℕ). AllBelow number y.1 y.0) (λ i. (sym same.0 i, sym same.1 i)) k.below) in
      subst (λ (u : PassView L S). Kept (b ∷ []) (set views p u)) (λ i. renewed (history b) (sym n i) (sym m i) v) now

  gives_own_line : (views : List (PassView L S)) (k : Kept [] views) (p : ℕ) (v : PassView L S) (b : B) (before : List L) (l : L) → get_elem? views p ≡ some v → start b ≡ k.s → v.out ≡ Some (before, enrolled b)
      → history b ≡ before ++ l ∷ [] → v.number ≡ Some (number l) → Kept (b ∷ []) (set views p (given (history b) (enrolled b) v))
  gives_own_line views k p v b before l at s out longer own =
      let some_out : v.out ≢ None = λ z. absurd (cc) in
      let x = holder start history enrolled number none [] views k p v at some_out in
      let same = some_pair v.out out x.1 in
      let is : history b ≡ k.h ++ l ∷ [] = longer ∙ ap (λ y. y ++ l ∷ []) same.0 in
      let back : (u : PassView L S) → Fits number k.s (k.h ++ l ∷ []) k.c u → Fits number k.s (history b) (enrolled b) u =
      λ u g. subst (λ (y : List L × ℕ). Fits number k.s y.0 y.1 u) (λ i. (sym is i, sym same.1 i)) g in
      let n = number_same v.out before (enrolled b) v.number out in
      let m : v.mine ++ lines_beyond v.out (history b) ≡ v.mine ++ l ∷ [] = ap (λ y. v.mine ++ y) (lines_beyond_one v.out before (history b) (enrolled b) l out longer) in
      let w : PassView L S = renewed (history b) v.number (v.mine ++ l ∷ []) v in
      let one : is_at_some (number l) v.number ≡ 1 = ap (is_at_some (number l)) own ∙ is_at-same (number l) (number l) refl in
      let once = k.apart (number l) in
      let here = one-le-sum_by (claims (number l)) views p v at in
      let fw : Fits number k.s (k.h ++ l ∷ []) k.c (renewed (k.h ++ l ∷ []) v.number (v.mine ++ l ∷ []) v) = fits_own_line number k.s k.h k.c v (k.fits p v at) l own (omega arith) in
      let G : List L × ℕ → Type 0 = λ y. Fits number k.s y.0 y.1 (renewed y.0 v.number (v.mine ++ l ∷ []) v) in
      let lt : number l < k.c = subst (λ (n : Option ℕ). IfSome n (λ j. j < k.c)) own (k.fits p v at).below in
      let now : Kept (b ∷ []) (set views p w) = given_kept views k p v b v.number (v.mine ++ l ∷ []) at some_out s
      (subst G (λ i. (sym is i, sym same.1 i)) fw)
      (λ j u far e. let both = two-le-sum_by (claims (number l)) views p j v u at e far in back u (fits_else number k.s k.h k.c u (k.fits j u e) l k.c (omega arith) (omega arith)))
      (λ j. let t = sum_by-set_at (claims j) views p v w at in let a = k.apart j in omega (arith, t, a))
      (subst (λ (y : List L × ℕ). AllBelow number y.1 y.0) (λ i. (sym is i, sym same.1 i)) (All-push (λ l. number l < k.c) k.h l k.below lt)) in
      subst (λ (u : PassView L S). Kept (b ∷ []) (set views p u)) (λ i. renewed (history b) (sym n i) (sym m i) v) now

  gives_first_line : (views : List (PassView L S)) (k : Kept [] views) (p : ℕ) (v : PassView L S) (b : B) (before : List L) (l : L) → get_elem? views p ≡ some v → start b ≡ k.s → v.out ≡ Some (before, number l)
      → history b ≡ before ++ l ∷ [] → v.number ≡ None → enrolled b ≡ number l + 1 → Kept (b ∷ []) (set views p (given (history b) (enrolled b) v))
  gives_first_line views k p v b before l at s out longer nobody more =
      let some_out : v.out ≢ None = λ z. absurd (cc) in
      let x = holder start history enrolled number none [] views k p v at some_out in
      let same = some_pair v.out out x.1 in
      let q : number l ≡ k.c = same.1 in
      let is : history b ≡ k.h ++ l ∷ [] = longer ∙ ap (λ y. y ++ l ∷ []) same.0 in
      let back : (u : PassView L S) → Fits number k.s (k.h ++ l ∷ []) (number l + 1) u → Fits number k.s (history b) (enrolled b) u =
      λ u g. subst (λ (y : List L × ℕ). Fits number k.s y.0 y.1 u) (λ i. (sym is i, sym more i)) g in
      let n = number_next v.out before (number l) (enrolled b) v.number out (λ z. absurd (omega arith)) in
      let m : v.mine ++ lines_beyond v.out (history b) ≡ v.mine ++ l ∷ [] = ap (λ y. v.mine ++ y) (lines_beyond_one v.out before (history b) (number l) l out longer) in
      let w : PassView L S = renewed (history b) (Some (number l)) (v.mine ++ l ∷ []) v in
      let free : (u : PassView L S) → Fits number k.s k.h k.c u → claims (number l) u ≡ 0 = λ u g. claims-none number k.s k.h k.c u g (number l) (omega arith) in
      let none_has : sum_by (claims (number l)) views ≡ 0 = sum_by-none (claims (number l)) views (λ j u e. free u (k.fits j u e)) in
      let not_own : (j : ℕ) → is_at_some j v.number ≡ 0 = λ j. ap (is_at_some j) nobody in
      let fw : Fits number k.s (k.h ++ l ∷ []) (number l + 1) (renewed (k.h ++ l ∷ []) (Some (number l)) (v.mine ++ l ∷ []) v) = fits_first_line number k.s k.h k.c v (k.fits p v at) l nobody q k.below in
      let G : List L × ℕ → Type 0 = λ y. Fits number k.s y.0 y.1 (renewed y.0 (Some (number l)) (v.mine ++ l ∷ []) v) in
      let now : Kept (b ∷ []) (set views p w) = given_kept views k p v b (Some (number l)) (v.mine ++ l ∷ []) at some_out s
      (subst G (λ i. (sym is i, sym more i)) fw)
      (λ j u far e. back u (fits_else number k.s k.h k.c u (k.fits j u e) l (number l + 1) (omega arith) (free u (k.fits j u e))))
      (λ j. ⊎_elim
      (λ (t : ((number l == j) ≡ true) × (number l ≡ j)). let y = sum_by-set_at (claims j) views p v w at in let one = is_at-same j (number l) t.1 in let o = not_own j in
      let z : sum_by (claims j) views ≡ 0 = ap (λ a. sum_by (claims a) views) (sym t.1) ∙ none_has in omega (arith, y, one, o, z))
      (λ (t : ((number l == j) ≡ false) × (number l ≢ j)). let y = sum_by-set_at (claims j) views p v w at in let zero = is_at-else j (number l) t.1 in let o = not_own j in let a = k.apart j in omega (arith, y, zero, o, a))
      (eqb_tells (number l) j))
      (subst (λ (y : List L × ℕ). AllBelow number y.1 y.0) (λ i. (sym is i, sym more i))
      (All-push (λ x. number x < number l + 1) k.h l (All-weaker (λ x. number x < k.c) (λ x. number x < number l + 1) (λ x lt. omega arith) k.h k.below) (omega arith))) in
      subst (λ (u : PassView L S). Kept (b ∷ []) (set views p u)) (λ i. renewed (history b) (sym n i) (sym m i) v) now

  pub gives : (n p : ℕ) (v : PassView L S) (b : B) → v.stage ≡ Seated → start b ≡ v.start → MayGive number v.out v.number (history b) (enrolled b) → Pushes Rule n p v b (λ w. w ≡ given (history b) (enrolled b) v)
  gives n p v b seated from may items views room rule at =
      let k : Kept items views = seated_kept start history enrolled number none items views p v seated at rule in
      let s : start b ≡ k.s = from ∙ (k.fits p v at).starts seated in
      let w : PassView L S = given (history b) (enrolled b) v in
      let x = holder start history enrolled number none items views k p v at (out_of number v.out v.number (history b) (enrolled b) may) in
      let E : List B → Type 0 = λ l. (y : Kept l views) × (start b ≡ y.s) in
      let e : E [] = subst E x.0 (k, s) in
      let now : Kept (b ∷ []) (set views p w) = ⊎_elim
      (λ (x : IsAsTaken number v.out v.number (history b) (enrolled b)). gives_as_taken views e.0 p v b at e.1 x)
      (⊎_elim
      (λ (x : HasOwnLine number v.out v.number (history b) (enrolled b)). gives_own_line views e.0 p v b x.0 x.1 at e.1 x.2 x.3 x.4)
      (λ (x : HasFirstLine number v.out v.number (history b) (enrolled b)). gives_first_line views e.0 p v b x.0 x.1 at e.1 x.2 x.3 x.4 x.5))
      may in
      (w, inr (subst (λ (l : List B). Kept (l ++ b ∷ []) (set views p w)) (sym x.0) now), refl)
