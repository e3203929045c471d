-- One more member of a list that is checked, and what the whole list is then.
use Rattle.std.proofs.Common.{◌≤◌, ◌==◌, Bool, false, true≢false, ◌≡◌, ◌≢◌, ℕ, ◌<◌, ◌+◌, List, [], ◌∷◌, ◌++◌, length, take, get_or, sym, ap, ◌∙◌}
use Rattle.std.specs.Prelude.{Contains}
use Rattle.std.proofs.lemmas.List.{take_more, take_all}
use Rattle.std.proofs.lemmas.Option.{slice_get_read}
use Rattle.dl_lit.specs.declared.literal.Tagged.{Tagged}
use Rattle.dl_theory.specs.Lists.{TheoryLists}
use Rattle.dl_theory.specs.Conditions.{Meets}
use Rattle.dl_theory.specs.Derivations.{IsDerivation}
use Rattle.dl_theory.proofs.Steps.{derives_join}
use Rattle.dl_check.specs.Flaws.{IsFirstBad}

-- the list up to and with a member
pub taken_more : (list : List Tagged) (at : ℕ) (x : Tagged) → at < length list → x ≡ get_or list at x → take (at + 1) list ≡ take at list ++ x ∷ []
taken_more list at x within item = take_more list at x within ∙ ap (λ (y : Tagged). take at list ++ y ∷ []) (sym item)

pub derivation_more : (T : TheoryLists) (xs : List Tagged) (x : Tagged) → IsDerivation T xs → (¬ Contains xs x) → Meets T (Contains xs) x → IsDerivation T (xs ++ x ∷ [])
derivation_more T xs x h new meets = derives_join T [] xs (x ∷ []) h (new, meets, tt)

pub bad_at : (Fine : List Tagged → Type 0) (Bad : List Tagged → Tagged → Type 0) (list : List Tagged) (at : ℕ) (x : Tagged) → at < length list → x ≡ get_or list at x
    → Fine (take at list) → Bad (take at list) x → IsFirstBad Fine Bad list at
bad_at Fine Bad list at x within item fine bad = record {
  member = x;
  stands = slice_get_read list (length list) at x (λ i. length list) within item;
  fine = fine;
  bad = bad;
}

pub taken_all : (list : List Tagged) (at : ℕ) → length list ≤ at → take at list ≡ list
taken_all list at h = take_all at list h

pub not_empty : (list : List Tagged) (b : Bool) → b ≡ (length list == 0) → b ≡ false → list ≢ []
not_empty list b h f e = true≢false (sym (h ∙ ap (λ (l : List Tagged). length l == 0) e) ∙ f)
