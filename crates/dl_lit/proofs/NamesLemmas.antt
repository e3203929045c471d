-- A name keeps a list of names distinct.
use Rattle.std.proofs.Common.{◌≡◌, ℕ, ◌<◌, Bool, true, false, List, [], ◌∷◌, ◌++◌, length, take, get_or, sym, refl, ◌∙◌, arith}
use Rattle.std.proofs.lemmas.List.{get_or-take, length-take-le}
use Rattle.std.specs.Prelude.{Option, None, Some, IfNone, is_some, Contains, if◌then◌else◌}
use Rattle.std.specs.Bool.{Decides}
use Rattle.std.specs.List.{list_any}
use Rattle.std.proofs.lemmas.List.Elements.{Contains-push, Contains-append_left}
use Rattle.std.proofs.lemmas.Map.Made.{is_member-Decides}
use Rattle.dl_lit.specs.declared.literal.Literal.{Literal}
use Rattle.dl_lit.specs.Literal.{literal_eq, complement}
use Rattle.dl_lit.specs.Order.{literal_eq-Decides}
use Rattle.dl_base.specs.Paths.{IsDistinct}
use Rattle.dl_base.proofs.Distinct.{distinct_push}
use Rattle.dl_lit.specs.Names.{with_name, with_both}

distinct_choice : (ls : List Literal) (q : Literal) (b : Bool) → Decides b (Contains ls q) → IsDistinct ls
    → IsDistinct (if b then ls else ls ++ q ∷ [])
distinct_choice ls q true d h = h
distinct_choice ls q false d h = distinct_push ls q h (λ there. let no = d.1 there in cc)

pub with_name-distinct : (ls : List Literal) (q : Literal) → IsDistinct ls → IsDistinct (with_name ls q)
with_name-distinct ls q h = distinct_choice ls q (list_any (literal_eq q) ls) (is_member-Decides literal_eq-Decides ls q) h

pub with_both-distinct : (ls : List Literal) (q : Literal) → IsDistinct ls → IsDistinct (with_both ls q)
with_both-distinct ls q h = with_name-distinct (with_name ls q) (complement q) (with_name-distinct ls q h)

has_choice : (ls : List Literal) (q : Literal) (b : Bool) → Decides b (Contains ls q) → Contains (if b then ls else ls ++ q ∷ []) q
has_choice ls q true d = d.0 refl
has_choice ls q false d = Contains-push ls q

keeps_choice : (ls : List Literal) (q r : Literal) (b : Bool) → Contains ls r → Contains (if b then ls else ls ++ q ∷ []) r
keeps_choice ls q r true h = h
keeps_choice ls q r false h = Contains-append_left ls (q ∷ []) r h

pub with_name-has : (ls : List Literal) (q : Literal) → Contains (with_name ls q) q
with_name-has ls q = has_choice ls q (list_any (literal_eq q) ls) (is_member-Decides literal_eq-Decides ls q)

pub with_name-keeps : (ls : List Literal) (q r : Literal) → Contains ls r → Contains (with_name ls q) r
with_name-keeps ls q r h = keeps_choice ls q r (list_any (literal_eq q) ls) h

pub absent_when : (r : Option ℕ) (ls : List Literal) (q : Literal) → is_some r ≡ list_any (literal_eq q) ls → IfNone r (¬ Contains ls q)
absent_when None ls q e = λ h. let yes = (is_member-Decides literal_eq-Decides ls q).1 h in cc
absent_when (Some n) ls q e = tt

new_choice : (ls : List Literal) (q : Literal) (b : Bool) → Decides b (Contains ls q) → (¬ Contains ls q) → (if b then ls else ls ++ q ∷ []) ≡ ls ++ q ∷ []
new_choice ls q true d new = absurd (new (d.0 refl))
new_choice ls q false d new = refl

-- a new literal goes last
pub with_name-new : (ls : List Literal) (q : Literal) → (¬ Contains ls q) → with_name ls q ≡ ls ++ q ∷ []
with_name-new ls q new = new_choice ls q (list_any (literal_eq q) ls) (is_member-Decides literal_eq-Decides ls q) new

-- among distinct literals the next one is not among those before it
pub next_new : (xs : List Literal) (i : ℕ) (x : Literal) → IsDistinct xs → i < length xs → x ≡ get_or xs i x → ¬ Contains (take i xs) x
next_new xs i x distinct within is m =
    let less : m.0 < i = omega (arith, m.1, length-take-le i xs (omega arith)) in
    distinct m.0 i x less within (sym (get_or-take i xs m.0 x less) ∙ m.2 ∙ is)
