-- Numbers that come into a region one after another.
use Rattle.std.proofs.Common.{◌≡◌, ℕ, zero, ◌+◌, ◌<◌, ◌≤◌, List, [], ◌∷◌, ◌++◌, None, Some, length, get_or, inl, inr, ◌⊎◌, sym, subst, ap, refl, ◌∙◌, arith, append_assoc}
use Rattle.std.specs.Prelude.{Contains, slice_get}
use Rattle.std.proofs.lemmas.Bool.{cases_eq, cases_lt}
use Rattle.std.proofs.lemmas.List.{append-nil, get_or_default}
use Rattle.std.proofs.lemmas.List.Elements.{All-nil, All-cons, All-append, All-weaker, Contains-push, Contains-append_left}
use Rattle.std.proofs.lemmas.Option.{none-some, slice_get_within, slice_get-get_or, get_or_from_slice_get}
use Rattle.dl_graph.specs.Region.{Numbers}
use Rattle.dl_fill.proofs.Written.{member_or_not}
use Rattle.dl_derive.specs.Back.{Is, FromRow, Gains}

pub gains_none : (X : ℕ → Type 0) (r : Numbers) → ((n : ℕ) → ¬ X n) → Gains X r r
gains_none X r never = record { bound = refl; more = []; behind = sym (append-nil r.members); sound = All-nil X; complete = λ n x. absurd (never n x) }

pub gains_then : (X Y Z : ℕ → Type 0) (a b c : Numbers) → ((n : ℕ) → X n → Z n) → ((n : ℕ) → Y n → Z n) → ((n : ℕ) → Z n → X n ⊎ Y n)
    → Gains X a b → Gains Y b c → Gains Z a c
gains_then X Y Z a b c first second either g h =
    let whole : c.members ≡ a.members ++ (g.more ++ h.more) =
    h.behind ∙ ap (λ (xs : List ℕ). xs ++ h.more) g.behind ∙ append_assoc a.members g.more h.more in
    record {
      bound = h.bound ∙ g.bound;
      more = g.more ++ h.more;
      behind = whole;
      sound = All-append Z g.more h.more (All-weaker X Z first g.more g.sound) (All-weaker Y Z second h.more h.sound);
      complete = λ n z. elim (either n z) [
        | inl x ↦ subst (λ (xs : List ℕ). Contains xs n) (sym h.behind) (Contains-append_left b.members h.more n (g.complete n x))
        | inr y ↦ h.complete n y
      ];
    }

pub gains_one : (a b : Numbers) (x : ℕ) → b.bound ≡ a.bound → (Contains a.members x → b.members ≡ a.members)
    → ((¬ Contains a.members x) → b.members ≡ a.members ++ x ∷ []) → Gains (Is x) a b
gains_one a b x bound there new = elim (member_or_not a.members x) [
  | inl m ↦ record {
    bound = bound;
    more = [];
    behind = there m ∙ sym (append-nil a.members);
    sound = All-nil (Is x);
    complete = λ n e. subst (λ (v : ℕ). Contains b.members v) (sym e) (subst (λ (xs : List ℕ). Contains xs x) (sym (there m)) m);
  }
  | inr n ↦ record {
    bound = bound;
    more = x ∷ [];
    behind = new n;
    sound = All-cons (Is x) x [] refl (All-nil (Is x));
    complete = λ k e. subst (λ (v : ℕ). Contains b.members v) (sym e) (subst (λ (xs : List ℕ). Contains xs x) (sym (new n)) (Contains-push a.members x));
  }
]

-- nothing stands at a place past the end
pub none_past : (row : List ℕ) (at : ℕ) → slice_get row at ≡ None → length row ≤ at
none_past row at e = elim (cases_lt at (length row)) [
  | inl lt ↦ absurd (none-some (get_or row at 0) (sym e ∙ slice_get-get_or row at 0 lt))
  | inr ge ↦ ge
]

-- what belongs to the numbers of a row in front of a place
abbrev pub InFront : (ℕ → ℕ → Type 0) → List ℕ → ℕ → ℕ → Type 0
InFront Q row at n = (k : ℕ) × (k < at) × (k < length row) × Q (get_or row k 0) n

module _ (Q : ℕ → ℕ → Type 0) (row : List ℕ) where
  pub front_starts : (r : Numbers) → Gains (InFront Q row zero) r r
  front_starts r = gains_none (InFront Q row zero) r (λ n h. omega (arith, h.1))

  pub front_goes : (at x : ℕ) (a b c : Numbers) → slice_get row at ≡ Some x → Gains (InFront Q row at) a b → Gains (Q x) b c → Gains (InFront Q row (at + 1)) a c
  front_goes at x a b c e g h =
      let here : get_or row at 0 ≡ x = get_or_from_slice_get row at x 0 e in
      let lt : at < length row = slice_get_within row at x e in
      gains_then (InFront Q row at) (Q x) (InFront Q row (at + 1)) a b c
      (λ n f. (f.0, omega (arith, f.1), f.2, f.3))
      (λ n q. (at, omega arith, lt, subst (λ (v : ℕ). Q v n) (sym here) q))
      (λ n f. elim (cases_eq f.0 at) [
        | inl same ↦ inr (subst (λ (v : ℕ). Q v n) (ap (λ (k : ℕ). get_or row k 0) same ∙ here) f.3)
        | inr other ↦ inl (f.0, omega (arith, f.1, other), f.2, f.3)
      ]) g h

  pub front_ends : (at : ℕ) (a b : Numbers) → length row ≤ at → Gains (InFront Q row at) a b → Gains (FromRow Q row) a b
  front_ends at a b past g = record {
    bound = g.bound;
    more = g.more;
    behind = g.behind;
    sound = All-weaker (InFront Q row at) (FromRow Q row) (λ n f. (get_or row f.0 0, (f.0, f.2, whole f.0 f.2), f.3)) g.more g.sound;
    complete = λ n f. g.complete n (f.1.0, omega (arith, f.1.1, past), f.1.1, subst (λ (v : ℕ). Q v n) (sym (at_default f.1.0 f.0 f.1.1 f.1.2)) f.2);
  }
    where
      whole : (k : ℕ) → k < length row → get_or row k (get_or row k 0) ≡ get_or row k 0
      whole k lt = get_or_default row k (get_or row k 0) 0 lt

      at_default : (k x : ℕ) → k < length row → get_or row k x ≡ x → get_or row k 0 ≡ x
      at_default k x lt e = get_or_default row k 0 x lt ∙ e
