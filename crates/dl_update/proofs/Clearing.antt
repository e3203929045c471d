-- The marks of a cone, which are cleared and then made right for the theory after the edit.
use Rattle.std.proofs.Common.{◌≡◌, ℕ, ◌<◌, ◌+◌, ◌++◌, ◌∷◌, [], List, Bool, false, Option, Some, length, get_or, take, inl, inr, sym, subst, ap, arith, ◌∙◌}
use Rattle.std.specs.Prelude.{◌↔◌, All, Contains, IsTrue, MatchOption, slice_get}
use Rattle.std.proofs.lemmas.Bool.{cases_eq, cases_lt}
use Rattle.std.proofs.lemmas.List.{take_more}
use Rattle.std.proofs.lemmas.List.Elements.{All-push, All-weaker}
use Rattle.std.proofs.lemmas.Option.{slice_get_past, slice_get_within, slice_get-get_or, get_or_from_slice_get}
use Rattle.dl_lit.specs.declared.literal.Literal.{Literal}
use Rattle.dl_lit.specs.declared.literal.Tag.{Tag}
use Rattle.dl_lit.specs.declared.literal.Family.{Family}
use Rattle.dl_lit.specs.Literal.{tagged}
use Rattle.dl_theory.specs.declared.edit.Edit.{Edit}
use Rattle.dl_theory.specs.Lists.{TheoryLists}
use Rattle.dl_theory.specs.Edits.{after_edit, IsAccepted}
use Rattle.dl_theory.specs.Cones.{Cone}
use Rattle.dl_theory.specs.Derivations.{Follows}
use Rattle.dl_theory.specs.Marks.{IsRightAt, AreRight}
use Rattle.dl_marks.specs.Marks.{Marking, places, marked, is_owned}
use Rattle.dl_graph.specs.Numbers.{NetLists, no_literal}
use Rattle.dl_graph.specs.Region.{Numbers}
use Rattle.dl_fill.specs.Before.{tag_of}
use Rattle.dl_fill.specs.Filled.{IsReady, stands}
use Rattle.dl_cone.specs.Walked.{IsConeOf}
use Rattle.dl_cone.proofs.Outside.{follows_outside}

-- what holds of the numbers before a place and of the one at it, holds of all up to the next place
pub all_taken : (P : ℕ → Type 0) (xs : List ℕ) (i x : ℕ) → slice_get xs i ≡ Some x → All P (take i xs) → P x → All P (take (i + 1) xs)
all_taken P xs i x at before here =
    let more : take (i + 1) xs ≡ take i xs ++ x ∷ [] =
    take_more xs i x (slice_get_within xs i x at) ∙ ap (λ (y : ℕ). take i xs ++ y ∷ []) (get_or_from_slice_get xs i x x at) in
    subst (All P) (sym more) (All-push P (take i xs) x before here)

-- a number at a place is a member
pub taken_member : (xs : List ℕ) (i x : ℕ) → slice_get xs i ≡ Some x → Contains xs x
taken_member xs i x at = (i, slice_get_within xs i x at, get_or_from_slice_get xs i x x at)

-- a place before the end has a number
pub has_taken : {A : Type 0} (xs : List ℕ) (i : ℕ) (o : Option ℕ) → o ≡ slice_get xs i → i < length xs → ((x : ℕ) → ¬ (o ≡ Some x)) → A
has_taken xs i o is lt none = absurd (none (get_or xs i 0) (is ∙ slice_get-get_or xs i 0 lt))

-- numbers at which nothing stands stay so where another is cleared
pub still_cleared : (old new : Marking) (t : Tag) (numbers : List ℕ) (number : ℕ) → marked new t number ≡ false
    → ((n : ℕ) → (¬ (n ≡ number)) → marked new t n ≡ marked old t n) → All (λ n. marked old t n ≡ false) numbers
    → All (λ n. marked new t n ≡ false) numbers
still_cleared old new t numbers number here others before =
    All-weaker (λ n. marked old t n ≡ false) (λ n. marked new t n ≡ false)
    (λ n e. elim (cases_eq n number) [
      | inl same ↦ subst (λ (k : ℕ). marked new t k ≡ false) (sym same) here
      | inr apart ↦ others n apart ∙ e
    ]) numbers before

-- whether a mark is right where a name may stand
abbrev Right : TheoryLists → Bool → Family → Bool → Option Literal → Type 0
Right T plus f b o = MatchOption o (IsTrue b ↔ (plus ≡ false)) (λ q. IsTrue b ↔ Follows T (tagged plus f q))

-- outside the cone of an edit, a mark that is right before it is so after it
right_outside : (T : TheoryLists) (e : Edit) → IsAccepted T e → (names : List Literal) (plus : Bool) (f : Family) (b : Bool) (n : ℕ)
    → (n < length names → ¬ Cone T e (get_or names n no_literal)) → Right T plus f b (slice_get names n) → Right (after_edit T e) plus f b (slice_get names n)
right_outside T e accepted names plus f b n out right = elim (cases_lt n (length names)) [
  | inl named ↦
      let q : Literal = get_or names n no_literal in
      let before : IsTrue b ↔ Follows T (tagged plus f q) = subst (Right T plus f b) (slice_get-get_or names n no_literal named) right in
      let same = follows_outside T e accepted (tagged plus f q) (out named) in
      subst (Right (after_edit T e) plus f b) (sym (slice_get-get_or names n no_literal named))
      (λ h. same.0 (before.0 h), λ h. before.1 (same.1 h))
  | inr past ↦
      let at = slice_get_past names n (omega (arith, past)) in
      subst (Right (after_edit T e) plus f b) (sym at) (subst (Right T plus f b) at right)
]

-- marks that are right before an edit are ready for a fill of its cone after it, once the cone's are cleared
pub cone_ready : (N M : NetLists) (e : Edit) (region : Numbers) (old new : Marking) → IsAccepted N.theory e → M.theory ≡ after_edit N.theory e → M.names ≡ N.names
    → IsConeOf N e region → AreRight N.theory N.names (places old) (stands old) → places new ≡ places old
    → All (λ n. IsTrue (is_owned new n)) region.members → ((t : Tag) → All (λ n. marked new t n ≡ false) region.members)
    → ((t : Tag) (n : ℕ) → (¬ Contains region.members n) → marked new t n ≡ marked old t n) → IsReady M (λ _. Unit {0}) new region
cone_ready N M e region old new accepted theory names cone right len owned cleared others = record {
  bound = cone.bound ∙ ap (λ (ls : List Literal). length ls) (sym names);
  room = omega (arith, right.room, len, ap (λ (ls : List Literal). length ls) names);
  owned = owned;
  outside = λ f ours plus n within out.
      subst (λ (U : TheoryLists). IsRightAt U M.names (stands new) (tag_of plus f) n) (sym theory)
      (subst (λ (ls : List Literal). IsRightAt (after_edit N.theory e) ls (stands new) (tag_of plus f) n) (sym names)
      (subst (λ (b : Bool). Right (after_edit N.theory e) plus f b (slice_get N.names n)) (sym (others (tag_of plus f) n out))
      (right_outside N.theory e accepted N.names plus f (marked old (tag_of plus f) n) n (λ named inside. out ((cone.members n).1 (named, inside)))
      (right.right f plus n (omega (arith, within, len))))));
  absent = λ f ours plus. cleared (tag_of plus f);
}
