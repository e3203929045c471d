-- Which answers are accepted, and what they say.
use Rattle.std.proofs.Common.{◌≡◌, ◌≢◌, ◌<◌, ◌-◌, Bool, true, false, List, [], ◌∷◌, length, Some, None, Ok, Err, get_or, refl, sym, ap, ◌∙◌, subst, true≢false, arith}
use Rattle.std.specs.Prelude.{Contains, Result, slice_get}
use Rattle.std.specs.Bool.{Decides}
use Rattle.std.proofs.lemmas.Bool.Decides.{Decides-like, Decides-at}
use Rattle.std.proofs.lemmas.Option.{slice_get_within, slice_get-get_or}
use Rattle.std.proofs.lemmas.List.{same_from_push, length-append}
use Rattle.std.proofs.lemmas.List.Elements.{All-contains}
use Rattle.indexmap.proofs.MapLemmas.{split_last}
use Rattle.dl_lit.specs.declared.literal.Literal.{Literal}
use Rattle.dl_lit.specs.declared.literal.Tagged.{Tagged}
use Rattle.dl_lit.specs.declared.literal.Family.{Family}
use Rattle.dl_lit.specs.Literal.{tagged}
use Rattle.dl_lit.specs.Order.{tagged_eq, tagged_eq-Decides}
use Rattle.dl_theory.specs.declared.answer.Verdict.{Verdict}
use Rattle.dl_theory.specs.declared.answer.Verdict.TheVariants.{Proved, Refuted, Neither}
use Rattle.dl_theory.specs.declared.answer.Certificate.{Certificate}
use Rattle.dl_theory.specs.declared.answer.Certificate.TheVariants.{Derivation, Gap}
use Rattle.dl_theory.specs.Lists.{TheoryLists}
use Rattle.dl_theory.specs.Derivations.{Follows, IsDerivation, IsGap}
use Rattle.dl_theory.specs.Verdicts.{IsVerdict, Certifies, Reaches}
use Rattle.dl_theory.specs.Tests as test
use Rattle.dl_theory.proofs.Decided.{decides_member}
use Rattle.dl_theory.proofs.Needs.{needs_itself}
use Rattle.dl_theory.proofs.Steps.{gaps_hold}
use Rattle.dl_laws.proofs.ExactGaps.{exact_gaps_are_gaps}
use Rattle.dl_check.specs.declared.flaw.CheckStop.{CheckStop}
use Rattle.dl_check.specs.declared.flaw.CheckStop.TheVariants.{Rejected, Memory}
use Rattle.dl_check.specs.Flaws.{AnswersDerivation, AnswersGap}
use Rattle.dl_check.specs.Accepting.{EndsWith, DerivesLast, LeavesOpen, Shows, Tells}
use Rattle.dl_check.proofs.FirstFlaws.{derivation_accepted, gap_accepted}

-- The end of a list

ends_from_last : (list : List Tagged) (x : Tagged) → slice_get list (length list - 1) ≡ Some x → EndsWith list x
ends_from_last list x h =
    let within : length list - 1 < length list = slice_get_within list (length list - 1) x h in
    (_, split_last list x h (omega (arith, within)))

one_last : (list : List Tagged) (x y : Tagged) → EndsWith list x → EndsWith list y → x ≡ y
one_last list x y h k = (same_from_push h.0 k.0 x y (sym h.1 ∙ k.1)).1

pub last_decides : (list : List Tagged) (x y : Tagged) → slice_get list (length list - 1) ≡ Some y → Decides (tagged_eq x y) (EndsWith list x)
last_decides list x y h =
    let last = ends_from_last list y h in
    Decides-like (tagged_eq x y) (λ same. subst (EndsWith list) (sym same) last) (λ ends. one_last list x y ends last) (tagged_eq-Decides x y)

ends_some : (list : List Tagged) (x : Tagged) → EndsWith list x → 0 < length list
ends_some list x h = omega (arith, ap length h.1, length-append h.0 (x ∷ []))

pub no_last : (list : List Tagged) (x : Tagged) → slice_get list (length list - 1) ≡ None → ¬ EndsWith list x
no_last list x none h =
    let some = slice_get-get_or list (length list - 1) x (omega (arith, ends_some list x h)) in
    let clash : None ≡ Some (get_or list (length list - 1) x) = sym none ∙ some in
    cc

ends_not_empty : (list : List Tagged) (x : Tagged) → EndsWith list x → list ≢ []
ends_not_empty list x h e = let n : length list ≡ 0 = ap length e in absurd (omega (arith, n, ends_some list x h))

-- whether a list that is seen through a slice has a member
pub member_decides : (list seen : List Tagged) (x : Tagged) (b : Bool) → seen ≡ list → b ≡ test.has seen x → Decides b (Contains list x)
member_decides list seen x b same is = Decides-at b (test.has list x) (is ∙ ap (λ l. test.has l x) same) (decides_member list x)

-- What a check of a list tells

derivation_decided : (T : TheoryLists) (list : List Tagged) (r : Result (Unit {0}) CheckStop) (b : Bool) → list ≢ [] → AnswersDerivation T list r → Tells r b → Decides b (IsDerivation T list)
derivation_decided T list (Ok u) b some h told = (λ _. h.0, λ _. told)
derivation_decided T list (Err (Rejected flaw)) b some h told = (
  λ e. absurd (true≢false (sym e ∙ told)),
  λ d. let clash : Rejected flaw ≡ Memory = derivation_accepted T list (Err (Rejected flaw)) h d some in cc,
)
derivation_decided T list (Err Memory) b some h told = absurd told

gap_decided : (T : TheoryLists) (list : List Tagged) (r : Result (Unit {0}) CheckStop) (b : Bool) → AnswersGap T list r → Tells r b → Decides b (IsGap T list)
gap_decided T list (Ok u) b h told = (λ _. h, λ _. told)
gap_decided T list (Err (Rejected flaw)) b h told = (
  λ e. absurd (true≢false (sym e ∙ told)),
  λ g. let clash : Rejected flaw ≡ Memory = gap_accepted T list (Err (Rejected flaw)) h g in cc,
)
gap_decided T list (Err Memory) b h told = absurd told

pub derives_decided : (T : TheoryLists) (x : Tagged) (list : List Tagged) (r : Result (Unit {0}) CheckStop) (b : Bool) → EndsWith list x → AnswersDerivation T list r → Tells r b
    → Decides b (DerivesLast T x list)
derives_decided T x list r b ends h told =
    Decides-like b (λ d. (ends, d)) (λ d. d.1) (derivation_decided T list r b (ends_not_empty list x ends) h told)

pub open_decided : (T : TheoryLists) (f : Family) (q : Literal) (list : List Tagged) (r : Result (Unit {0}) CheckStop) (b : Bool) → Contains list (tagged true f q)
    → Contains list (tagged false f q) → AnswersGap T list r → Tells r b → Decides b (LeavesOpen T f q list)
open_decided T f q list r b proved refuted h told = Decides-like b (λ g. (proved, refuted, g)) (λ g. g.2) (gap_decided T list r b h told)

-- What a certificate shows is so

pub shown_holds : (T : TheoryLists) (f : Family) (q : Literal) (v : Verdict) (cert : Certificate) → Shows T f q v cert → IsVerdict T f q v
shown_holds T f q Proved (Derivation steps) h = record { before = h.0.0; derivation = subst (IsDerivation T) h.0.1 h.1 }
shown_holds T f q Refuted (Derivation steps) h = record { before = h.0.0; derivation = subst (IsDerivation T) h.0.1 h.1 }
shown_holds T f q Neither (Gap members) h =
    let none = gaps_hold T members h.2 in
    (All-contains (λ x. ¬ Follows T x) members (tagged true f q) none h.0, All-contains (λ x. ¬ Follows T x) members (tagged false f q) none h.1)
shown_holds T f q Proved (Gap members) h = absurd h
shown_holds T f q Refuted (Gap members) h = absurd h
shown_holds T f q Neither (Derivation steps) h = absurd h

-- What fits is shown

pub fits_shown : (T : TheoryLists) (f : Family) (q : Literal) (v : Verdict) (cert : Certificate) → IsVerdict T f q v → Certifies T f q v cert → Shows T f q v cert
fits_shown T f q Proved (Derivation steps) is h = ((h.before, h.ends), h.derivation)
fits_shown T f q Refuted (Derivation steps) is h = ((h.before, h.ends), h.derivation)
fits_shown T f q Neither (Gap members) is h = (
  h.complete (tagged true f q) ((Reaches.start q refl, needs_itself f), is.0),
  h.complete (tagged false f q) ((Reaches.start q refl, needs_itself f), is.1),
  exact_gaps_are_gaps T f q members is h,
)
fits_shown T f q Proved (Gap members) is h = absurd h
fits_shown T f q Refuted (Gap members) is h = absurd h
fits_shown T f q Neither (Derivation steps) is h = absurd h
