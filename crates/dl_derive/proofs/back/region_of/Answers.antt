use Rattle.std.proofs.Common.{ℕ, ◌<◌, ◌++◌, ◌∷◌, [], List, arith, ap, sym, subst, ◌∙◌}
use Rattle.std.specs.Prelude.{Contains}
use Rattle.std.proofs.lemmas.List.{take_all}
use Rattle.std.proofs.lemmas.List.Elements.{All-contains}
use Rattle.std.proofs.lemmas.Option.{slice_get_within, get_or_from_slice_get}
use Rattle.dl_derive.proofs.Gaining.{none_past}
use Rattle.dl_derive.proofs.Fitting.{not_before, front_grows}
use Rattle.dl_derive.proofs.back.region_of.Goals as goal

pub loop-at-init : goal.loop-at-init
loop-at-init c = record { bound = c.in_ok-region.ensures.bound ∙ c.bound.ensures; members = c.in_ok-region.ensures.members }

pub put-requires : goal.put-requires
put-requires c =
    let e = sym c.at.ensures.member ∙ c.in-Some.is in
    let ms = c.args.found.now.members in
    let below =
    All-contains (λ n. n < c.args.found.now.bound) ms c.in-Some.number c.at.ensures.region.below
    (c.loop-at.at, slice_get_within ms c.loop-at.at c.in-Some.number e, get_or_from_slice_get ms c.loop-at.at c.in-Some.number c.in-Some.number e) in
    omega (arith, below, c.loop-at.invariant.bound)

pub loop-at-preserved : goal.loop-at-preserved
loop-at-preserved c =
    let e = sym c.at.ensures.member ∙ c.in-Some.is in
    let ms = c.args.found.now.members in
    record {
      bound = c.put.ensures.bound ∙ c.loop-at.invariant.bound;
      members =
          c.put.ensures.new
          (λ m. not_before ms c.loop-at.at c.in-Some.number c.at.ensures.region.distinct e
          (subst (λ (l : List ℕ). Contains l c.in-Some.number) c.loop-at.invariant.members m))
          ∙ ap (λ (l : List ℕ). l ++ c.in-Some.number ∷ []) c.loop-at.invariant.members
          ∙ sym (front_grows ms c.loop-at.at c.in-Some.number e);
    }

pub returns : goal.returns
returns c =
    let whole = c.loop-at.invariant.members ∙ take_all c.loop-at.at c.args.found.now.members (omega (arith, c.len-at-end.ensures.len, c.loop-at-test.false)) in
    λ i. record { bound = c.loop-at.invariant.bound i; members = whole i }

pub returns-in-None : goal.returns-in-None
returns-in-None c =
    let whole = c.loop-at.invariant.members
    ∙ take_all c.loop-at.at c.args.found.now.members (none_past c.args.found.now.members c.loop-at.at (sym c.at.ensures.member ∙ c.in-None.is)) in
    λ i. record { bound = c.loop-at.invariant.bound i; members = whole i }
