use Rattle.std.proofs.Common.{◌≡◌, ℕ, suc, List, Option, Some, None, refl, sym, ap, ◌∙◌}
use Rattle.std.specs.Prelude.{IfSome, slice_get}
use Rattle.std.proofs.lemmas.Option.{slice_get-get_or}
use Rattle.dl_names.specs.declared.stems.Stem.{Stem}
use Rattle.dl_names.specs.declared.stems.Stems.{Stems}
use Rattle.dl_names.specs.Stems.{IsNoted, Knows}
use Rattle.dl_names.proofs.StemLemmas.{noted_at}
use Rattle.dl_names.proofs.stems.Stems.get.Goals as goal

-- what a stem knows is known
known_by : (stems : Stems) (name : List ℕ) (place : ℕ) (s : Stem) (r : Option ℕ) (P : ℕ → Type 0) → slice_get stems.stems.items place ≡ Some s
    → ((n : ℕ) → P n → IsNoted s name n) → IfSome r P → IfSome r (λ n. Knows stems name n)
known_by stems name place s None P kept noted found = tt
known_by stems name place s (Some n) P kept noted found = record { place = place; stem = s; kept = kept; noted = noted n found }

pub returns-then-is_of : goal.returns-then-is_of
returns-then-is_of c =
    let s : Stem = c.in-Some.stem.now in
    let at : ℕ = c.stem_at.result in
    let kept : slice_get c.args.self.now.stems.items at ≡ Some s =
    ap (λ (xs : List Stem). slice_get xs at) (sym c.deref.ensures.value)
    ∙ slice_get-get_or c.deref.result.now at s c.in-Some.ensures.lookup.3.0 ∙ ap Some (sym c.in-Some.ensures.lookup.1) in
    known_by c.args.self.now c.args.name.now at s c.get-then-is_of.result
    (λ n. slice_get s.numbers.items c.cut-split.result.value ≡ Some (suc n)) kept
    (λ n there. noted_at s c.args.name.now c.cut-split.result.prefix c.cut-split.result.digits c.cut-split.result.value n
    (c.if-is_of.ensures.prefix refl) (c.if-is_of.ensures.digits refl) c.cut-split.ensures.whole c.cut-split.ensures.digits c.cut-split.ensures.value there)
    c.get-then-is_of.ensures
