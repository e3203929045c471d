-- What a function gives for the members of a list.
use Rattle.std.proofs.Common.{List, [], ◌∷◌, sym, subst, refl, arith}
use Rattle.std.specs.Prelude.{All, Contains}
use Rattle.std.specs.List.{flat_map}
use Rattle.std.proofs.lemmas.List.Concat.{flat_map-cons}
use Rattle.std.proofs.lemmas.List.Elements.{All-nil, All-append, Contains-append_right}

module _ {A B : Type 0} (f : A → List B) where
  pub all_flat_map : (P : B → Type 0) (xs : List A) → ((x : A) → Contains xs x → All P (f x)) → All P (flat_map f xs)
  all_flat_map P [] h = All-nil P
  all_flat_map P (x ∷ xs) h =
      subst (λ (ys : List B). All P ys) (sym (flat_map-cons f x xs))
      (All-append P (f x) (flat_map f xs) (h x (0, omega arith, refl)) (all_flat_map P xs (λ y m. h y (Contains-append_right (x ∷ []) xs y m))))
