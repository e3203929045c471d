use Rattle.std.proofs.Common.{◌≡◌, ◌≢◌, ◌+◌, List, [], ◌∷◌, ◌++◌, take, true, false, true≢false, sym, subst, ◌∙◌, refl}
use Rattle.std.specs.Prelude.{Contains, All}
use Rattle.dl_lit.specs.declared.literal.Tagged.{Tagged}
use Rattle.std.proofs.lemmas.List.Elements.{All-push}
use Rattle.dl_base.specs.Paths.{IsDistinct}
use Rattle.dl_base.proofs.Distinct.{distinct_push}
use Rattle.dl_check.specs.declared.derived.Reading.TheVariants.{Outside}
use Rattle.dl_check.specs.Derived.{HasMembers}
use Rattle.dl_check.specs.Flaws.{IsMet}
use Rattle.dl_check.proofs.Standing.{meets_outside}
use Rattle.dl_check.proofs.Walking.{taken_more, taken_all, not_empty, bad_at}
use Rattle.dl_check.proofs.checker.Checker.walk_gap.Goals as goal

pub returns-then-holds : goal.returns-then-holds
returns-then-holds c = λ T s.
    let i = c.loop-at.invariant in
    bad_at (λ before. IsDistinct before × All (λ x. ¬ IsMet T c.args.list.now x) before) (λ before x. Contains before x) c.args.list.now c.loop-at.at c.index-list-at.result c.loop-at-test.true c.index-list-at.is
    (i.distinct, i.unmet T s)
    ((c.holds.ensures (take c.loop-at.at c.args.list.now) i.seen).0 c.if-holds.true)

pub returns-then-is_met : goal.returns-then-is_met
returns-then-is_met c = λ T s.
    let i = c.loop-at.invariant in
    let xs = take c.loop-at.at c.args.list.now in
    let x = c.index-list-at.result in
    bad_at (λ before. IsDistinct before × All (λ y. ¬ IsMet T c.args.list.now y) before) (λ before y. (¬ Contains before y) × IsMet T c.args.list.now y) c.args.list.now c.loop-at.at x c.loop-at-test.true c.index-list-at.is
    (i.distinct, i.unmet T s) (
      λ m. true≢false (sym ((c.holds.ensures xs i.seen).1 m) ∙ c.if-holds.false),
      (meets_outside T (record { members = c.in_ok-collect.field-0; reading = Outside }) c.args.list.now refl c.in_ok-collect.ensures x c.in_ok-is_met.is_met (c.in_ok-is_met.ensures T s)).0 c.if-is_met.true,
    )

pub loop-at-preserved : goal.loop-at-preserved
loop-at-preserved c =
    let i = c.loop-at.invariant in
    let list : List Tagged = c.args.list.now in
    let xs : List Tagged = take c.loop-at.at list in
    let x = c.index-list-at.result in
    let more : take (c.loop-at.at + 1) list ≡ xs ++ x ∷ [] = taken_more list c.loop-at.at x c.loop-at-test.true c.index-list-at.is in
    record {
      seen = subst (λ (l : List Tagged). HasMembers c.add.new.self l) (sym more) (c.in_ok-add.ensures xs i.seen);
      distinct = subst (λ (l : List Tagged). IsDistinct l) (sym more)
          (distinct_push xs x i.distinct (λ m. true≢false (sym ((c.holds.ensures xs i.seen).1 m) ∙ c.if-holds.false)));
      unmet = λ T s. subst (λ (l : List Tagged). All (λ y. ¬ IsMet T list y) l) (sym more)
          (All-push (λ y. ¬ IsMet T list y) xs x (i.unmet T s)
          (λ m. true≢false (sym ((meets_outside T (record { members = c.in_ok-collect.field-0; reading = Outside }) list refl c.in_ok-collect.ensures x c.in_ok-is_met.is_met (c.in_ok-is_met.ensures T s)).1 m) ∙ c.if-is_met.false)));
    }

pub returns : goal.returns
returns c = λ T s.
    let all = taken_all c.args.list.now c.loop-at.at c.loop-at-test.false in
    record {
      some = not_empty c.args.list.now c.is_empty.result c.is_empty.ensures c.if-is_empty.false;
      distinct = subst (λ (l : List Tagged). IsDistinct l) all c.loop-at.invariant.distinct;
      unmet = subst (λ (l : List Tagged). All (λ x. ¬ IsMet T c.args.list.now x) l) all (c.loop-at.invariant.unmet T s);
    }
