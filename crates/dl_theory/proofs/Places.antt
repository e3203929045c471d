-- The place of a value in a list, and a removed value.
use Rattle.std.proofs.Common.{◌≡◌, ℕ, Bool, true, false, not, List, Option, Some, None, get_or, position, is_some, refl, sym, ap, ◌∙◌, true≢false}
use Rattle.std.specs.Prelude.{Contains, IfSome}
use Rattle.std.specs.List.{IsDistinct as IsUnlike}
use Rattle.std.specs.Bool.{Decides}
use Rattle.std.specs.Set.{is_member}
use Rattle.std.proofs.lemmas.List.Quantifiers.{position-Some}
use Rattle.std.proofs.lemmas.Map.Made.{is_member-Decides}
use Rattle.std.proofs.lemmas.Map.Keys.{apart_from_distinct}
use Rattle.dl_base.specs.Paths.{IsDistinct}

-- a set of keys has none twice
pub keys_distinct : {X : Type 0} (eq : X → X → Bool) → ((a b : X) → Decides (eq a b) (a ≡ b)) → (xs : List X) → IsUnlike eq xs → IsDistinct xs
keys_distinct eq same xs h = λ i j d before within e.
    true≢false (sym ((same (get_or xs i d) (get_or xs j d)).1 e) ∙ apart_from_distinct eq xs i j d h before within)

module _ {X : Type 0} (eq : X → X → Bool) (same : (a b : X) → Decides (eq a b) (a ≡ b)) (xs : List X) (x : X) where
  pub place_has : (place : Option ℕ) (d : X) → place ≡ position (eq x) xs → IfSome place (λ at. get_or xs at d ≡ x)
  place_has None d e = tt
  place_has (Some at) d e = sym ((same x (get_or xs at d)).0 (position-Some (eq x) xs at d (sym e)).1)

  pub no_place : (place : Option ℕ) → is_some place ≡ is_member eq xs x → place ≡ None → ¬ Contains xs x
  no_place place e none m = true≢false (sym ((is_member-Decides same xs x).1 m) ∙ sym e ∙ ap is_some none)

  -- a value is not new exactly where it was there
  pub not_new : (new : Bool) → new ≡ not (is_member eq xs x) → (new ≡ false → Contains xs x) × (Contains xs x → new ≡ false)
  not_new new e = by (is_member eq xs x) new e (is_member-Decides same xs x)
    where
      by : (b n : Bool) → n ≡ not b → Decides b (Contains xs x) → (n ≡ false → Contains xs x) × (Contains xs x → n ≡ false)
      by true n e' d = (λ _. d.0 refl, λ _. e')
      by false n e' d = (λ f. absurd (true≢false (sym e' ∙ f)), λ m. absurd (true≢false (sym (d.1 m))))
