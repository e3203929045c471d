-- What holds of each family, and of both signs.
use Rattle.std.proofs.Common.{◌≡◌, Bool, ◌&&◌, true, false, [], ◌∷◌, refl, sym, subst, ap, ◌∙◌, true≢false}
use Rattle.std.specs.Prelude.{Contains, IsTrue}
use Rattle.dl_base.proofs.Members.{only}
use Rattle.dl_lit.specs.declared.literal.Tag.{Tag}
use Rattle.dl_lit.specs.declared.literal.Family.{Family}
use Rattle.dl_lit.specs.declared.literal.Family.TheVariants.{Definite, Blocking, Propagating, Support}
use Rattle.dl_fill.specs.Before.{tag_of}
use Rattle.dl_definite.specs.Definite.{definite_fills}

pub each_family : (P : Family → Type 0) → P Definite → P Blocking → P Propagating → P Support → (f : Family) → P f
each_family P d b p s Definite = d
each_family P d b p s Blocking = b
each_family P d b p s Propagating = p
each_family P d b p s Support = s

pub each_sign : (P : Bool → Type 0) → P true → P false → (b : Bool) → P b
each_sign P plus minus true = plus
each_sign P plus minus false = minus

pub each_tag : (P : Tag → Type 0) → ((f : Family) → P (tag_of true f)) → ((f : Family) → P (tag_of false f)) → (t : Tag) → P t
each_tag P plus minus t = each_sign (λ b. P (tag_of b t.family)) (plus t.family) (minus t.family) t.plus

-- what holds of the definite family holds of each family below those that stand on it alone
pub definite_below : (P : Family → Type 0) → P Definite → (f : Family) → Contains (Definite ∷ []) f → P f
definite_below P h f m = subst P (sym (only Definite f m)) h

not_both : (a b : Bool) → (a && b) ≡ false → IsTrue a → ¬ IsTrue b
not_both true true e h = λ k. true≢false e
not_both true false e h = λ k. true≢false (sym k)
not_both false b e h = λ k. true≢false (sym h)

-- two tables that fill no family in common, by a test of each family
pub apart : (s t : Family → Bool) → (s Definite && t Definite) ≡ false → (s Blocking && t Blocking) ≡ false → (s Propagating && t Propagating) ≡ false
    → (s Support && t Support) ≡ false → (f : Family) → IsTrue (s f) → ¬ IsTrue (t f)
apart s t d b p u =
    each_family (λ f. IsTrue (s f) → ¬ IsTrue (t f)) (not_both (s Definite) (t Definite) d) (not_both (s Blocking) (t Blocking) b)
    (not_both (s Propagating) (t Propagating) p) (not_both (s Support) (t Support) u)

-- a family is another than one that is not filled
pub other_than : (s : Family → Bool) (g : Family) → s g ≡ false → (f : Family) → IsTrue (s f) → ¬ (f ≡ g)
other_than s g never f ours = λ e. true≢false (sym ours ∙ ap s e ∙ never)

-- the table of the definite family fills that one alone
pub one_definite : (f : Family) → IsTrue (definite_fills f) → f ≡ Definite
one_definite Definite h = refl
one_definite Blocking h = absurd (true≢false (sym h))
one_definite Propagating h = absurd (true≢false (sym h))
one_definite Support h = absurd (true≢false (sym h))
