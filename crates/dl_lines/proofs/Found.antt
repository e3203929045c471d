-- Where the first LF of some bytes stands.
use Rattle.std.proofs.Common.{◌≡◌, ℕ, suc, ◌+◌, ◌≤◌, ◌<◌, ◌==◌, Bool, true, false, List, ◌∷◌, ◌++◌, length, take, drop, get_or, refl, sym, ap, subst, ◌∙◌, arith, add-one, eqb-true, length-drop, length-take-le, take-append-drop, take-add, get_or-take, get_or-drop, drop-cons}
use Rattle.std.proofs.lemmas.List.Elements.{All-from_get_or, All-append}
use Rattle.dl_lines.specs.Steps.{HasNoLf, IsCut}

abbrev IsLf : List ℕ → ℕ → Type 0
IsLf bytes k = (get_or bytes k 0 == 10) ≡ true

not_true : (b : Bool) → (¬ (b ≡ true)) → b ≡ false
not_true true h = absurd (h refl)
not_true false h = refl

clear_from : (bytes : List ℕ) → ((k : ℕ) → k < length bytes → ¬ IsLf bytes k) → HasNoLf bytes
clear_from bytes none = All-from_get_or (λ (b : ℕ). (b == 10) ≡ false) bytes 0 (λ k lt. not_true (get_or bytes k 0 == 10) (none k lt))

-- `hay` is what was searched
pub found_none : (bytes hay : List ℕ) (from : ℕ) → hay ≡ drop from bytes → ((k : ℕ) → 0 ≤ k → k < length hay → ¬ IsLf hay k) → HasNoLf (take from bytes) → HasNoLf bytes
found_none bytes hay from is none clear =
    let rest : HasNoLf (drop from bytes) = subst HasNoLf is (clear_from hay (λ k lt. none k (omega arith) lt)) in
    subst HasNoLf (take-append-drop from bytes) (All-append (λ (b : ℕ). (b == 10) ≡ false) (take from bytes) (drop from bytes) clear rest)

pub found_some : (bytes hay : List ℕ) (from len : ℕ) → from ≤ length bytes → hay ≡ drop from bytes → len < length hay → ((k : ℕ) → 0 ≤ k → k < len → ¬ IsLf hay k) → IsLf hay len
    → HasNoLf (take from bytes) → IsCut bytes (from + len)
found_some bytes hay from len inside is within before at clear =
    let there : from + len < length bytes = omega (arith, ap length is, length-drop from bytes) in
    let between : HasNoLf (take len hay) = clear_from (take len hay) (λ k lt.
    let low : k < len = omega (arith, length-take-le len hay (omega arith)) in
    subst (λ (b : ℕ). ¬ ((b == 10) ≡ true)) (sym (get_or-take len hay k 0 low)) (before k (omega arith) low)) in
    let lf : get_or bytes (from + len) 0 ≡ 10 = sym (get_or-drop from bytes len 0) ∙ ap (λ (l : List ℕ). get_or l len 0) (sym is) ∙ eqb-true (get_or hay len 0) 10 at in
    record {
      front = subst HasNoLf (sym (take-add from len bytes))
          (All-append (λ (b : ℕ). (b == 10) ≡ false) (take from bytes) (take len (drop from bytes)) clear (subst (λ (l : List ℕ). HasNoLf (take len l)) is between));
      lf = sym (take-append-drop (from + len) bytes)
          ∙ ap (λ (l : List ℕ). take (from + len) bytes ++ l) (drop-cons bytes (from + len) 0 there ∙ ap (λ (b : ℕ). b ∷ drop (suc (from + len)) bytes) lf
          ∙ ap (λ (n : ℕ). 10 ∷ drop n bytes) (sym (add-one (from + len))));
      within = there;
    }
