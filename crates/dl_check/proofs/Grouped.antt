-- Groups of members by their keys.
use Rattle.std.proofs.Common.{◌≡◌, Bool, true, false, cond, List, [], ◌∷◌, ◌++◌, map, ap, sym, ◌∙◌, refl}
use Rattle.std.specs.Prelude.{filter, Vec}
use Rattle.std.proofs.Common.{Global}
use Rattle.std.proofs.lemmas.List.{append-nil, map-append}
use Rattle.std.proofs.lemmas.List.Elements.{filter-append}
use Rattle.std.specs.Bool.{Decides}
use Rattle.dl_check.specs.Groups.{group, IsGrouped}

module _ {K V X : Type 0} (eq : K → K → Bool) (key : X → K) (value : X → V) where
  pub grouped_none : (groups : List (K × Vec V Global)) → ((k : K) → group eq groups k ≡ []) → IsGrouped eq key value groups []
  grouped_none groups h = h

  one_more : (b : Bool) (old : List V) (x : X) → cond b (old ++ value x ∷ []) old ≡ old ++ map value (cond b (x ∷ []) [])
  one_more true old x = refl
  one_more false old x = sym (append-nil old)

  at_key : ((a b : K) → Decides (eq a b) (a ≡ b)) → (b : Bool) (old : List (K × Vec V Global)) (x : X) (k : K) → eq (key x) k ≡ b
      → cond b (group eq old (key x) ++ value x ∷ []) (group eq old k) ≡ cond b (group eq old k ++ value x ∷ []) (group eq old k)
  at_key same true old x k e = ap (λ (l : K). group eq old l ++ value x ∷ []) ((same (key x) k).0 e)
  at_key same false old x k e = refl

  -- one more member, put last in the group of its key
  pub grouped_push : ((a b : K) → Decides (eq a b) (a ≡ b)) → (old new : List (K × Vec V Global)) (xs : List X) (x : X) → IsGrouped eq key value old xs
      → ((k : K) → group eq new k ≡ cond (eq (key x) k) (group eq old (key x) ++ value x ∷ []) (group eq old k))
      → IsGrouped eq key value new (xs ++ x ∷ [])
  grouped_push same old new xs x h step k =
      step k
      ∙ at_key same (eq (key x) k) old x k refl
      ∙ one_more (eq (key x) k) (group eq old k) x
      ∙ ap (λ (g : List V). g ++ map value (cond (eq (key x) k) (x ∷ []) [])) (h k)
      ∙ sym (map-append value (filter (λ y. eq (key y) k) xs) (cond (eq (key x) k) (x ∷ []) []))
      ∙ ap (map value) (sym (filter-append (λ y. eq (key y) k) xs (x ∷ [])))
