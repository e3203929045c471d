-- Places of items in a list of visits.
use Rattle.std.proofs.Common.{◌≡◌, ℕ, ◌<◌, false, eqb, List, Option, None, Some, is_some, length, get_or, position, refl, sym, subst, ◌∙◌, true≢false}
use Rattle.std.specs.Prelude.{Contains, MatchOption, IsSome}
use Rattle.std.specs.Map.{lookup}
use Rattle.std.specs.Cmp.{nat_eq_equiv}
use Rattle.std.proofs.lemmas.List.{get_or-map}
use Rattle.std.proofs.lemmas.List.Quantifiers.{position-Some}
use Rattle.std.proofs.lemmas.Map.Views.{exact_unsigned_eq, IsSome-lookup_from_Contains}
use Rattle.std.proofs.Math.ListN.{length-map}
use Rattle.dl_sup.specs.Searching.{items_of, item_at}

pub item_of : (visits : List (ℕ × ℕ)) (at : ℕ) → at < length visits → get_or (items_of visits) at 0 ≡ item_at visits at
item_of visits at lt = get_or-map (λ (v : ℕ × ℕ). v.0) visits at (0, 0) 0 lt

none_found : (o : Option ℕ) → false ≡ is_some o → o ≡ None
none_found None e = refl
none_found (Some x) e = absurd (true≢false (sym e))

pub absent_from_none : (visits : List (ℕ × ℕ)) (item : ℕ) → lookup (eqb item) visits ≡ None → ¬ Contains (items_of visits) item
absent_from_none visits item none m = true≢false (sym (subst IsSome none (IsSome-lookup_from_Contains nat_eq_equiv item visits m)))

pub place_answer : (visits : List (ℕ × ℕ)) (item : ℕ) (o : Option ℕ) → o ≡ position (eqb item) (items_of visits) → is_some o ≡ is_some (lookup (eqb item) visits)
    → MatchOption o (¬ Contains (items_of visits) item) (λ at. (at < length visits) × (item_at visits at ≡ item))
place_answer visits item None place found = absent_from_none visits item (none_found (lookup (eqb item) visits) found)
place_answer visits item (Some at) place found =
    let p = position-Some (eqb item) (items_of visits) at 0 (sym place) in
    let lt : at < length visits = subst (λ n. at < n) (length-map visits (λ (v : ℕ × ℕ). v.0)) p.0 in
    (lt, sym (item_of visits at lt) ∙ sym (exact_unsigned_eq item (get_or (items_of visits) at 0) p.1))
