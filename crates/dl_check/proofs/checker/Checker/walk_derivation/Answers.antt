use Rattle.std.proofs.Common.{◌≡◌, ◌≢◌, ◌+◌, List, [], ◌∷◌, ◌++◌, take, true, false, true≢false, sym, subst, ◌∙◌}
use Rattle.std.specs.Prelude.{Contains}
use Rattle.dl_lit.specs.declared.literal.Tagged.{Tagged}
use Rattle.dl_theory.specs.Conditions.{Meets}
use Rattle.dl_theory.specs.Derivations.{IsDerivation}
use Rattle.dl_check.specs.Derived.{HasMembers}
use Rattle.dl_check.proofs.Standing.{meets_inside}
use Rattle.dl_check.proofs.Walking.{taken_more, taken_all, not_empty, derivation_more, bad_at}
use Rattle.dl_check.proofs.checker.Checker.walk_derivation.Goals as goal

pub returns-then-holds : goal.returns-then-holds
returns-then-holds c = λ T s.
    let i = c.loop-at.invariant in
    bad_at (IsDerivation T) (λ before x. Contains before x) c.args.list.now c.loop-at.at c.index-list-at.result c.loop-at-test.true c.index-list-at.is (i.fine T s)
    ((c.holds.ensures (take c.loop-at.at c.args.list.now) i.members).0 c.if-holds.true)

pub returns-then-not-is_met : goal.returns-then-not-is_met
returns-then-not-is_met c = λ T s.
    let i = c.loop-at.invariant in
    let xs = take c.loop-at.at c.args.list.now in
    let x = c.index-list-at.result in
    bad_at (IsDerivation T) (λ before y. (¬ Contains before y) × (¬ Meets T (Contains before) y)) c.args.list.now c.loop-at.at x c.loop-at-test.true c.index-list-at.is (i.fine T s) (
      λ m. true≢false (sym ((c.holds.ensures xs i.members).1 m) ∙ c.if-holds.false),
      λ m. true≢false (sym ((meets_inside T c.loop-at.derived xs i.reading i.members x c.in_ok-is_met.is_met (c.in_ok-is_met.ensures T s)).1 m) ∙ c.if-not-is_met.true),
    )

pub loop-at-preserved : goal.loop-at-preserved
loop-at-preserved c =
    let i = c.loop-at.invariant in
    let list : List Tagged = c.args.list.now in
    let xs : List Tagged = take c.loop-at.at list in
    let x = c.index-list-at.result in
    let more : take (c.loop-at.at + 1) list ≡ xs ++ x ∷ [] = taken_more list c.loop-at.at x c.loop-at-test.true c.index-list-at.is in
    record {
      reading = i.reading;
      members = subst (λ (l : List Tagged). HasMembers c.add.new.self l) (sym more) (c.in_ok-add.ensures xs i.members);
      fine = λ T s. subst (λ (l : List Tagged). IsDerivation T l) (sym more)
          (derivation_more T xs x (i.fine T s)
          (λ m. true≢false (sym ((c.holds.ensures xs i.members).1 m) ∙ c.if-holds.false))
          ((meets_inside T c.loop-at.derived xs i.reading i.members x c.in_ok-is_met.is_met (c.in_ok-is_met.ensures T s)).0 c.if-not-is_met.false));
    }

pub returns : goal.returns
returns c = λ T s. (
  subst (λ (l : List Tagged). IsDerivation T l) (taken_all c.args.list.now c.loop-at.at c.loop-at-test.false) (c.loop-at.invariant.fine T s),
  not_empty c.args.list.now c.is_empty.result c.is_empty.ensures c.if-is_empty.false,
)
