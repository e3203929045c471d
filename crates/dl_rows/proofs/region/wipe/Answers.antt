use Rattle.std.proofs.Common.{ℕ, ◌/◌, ◌<◌, List, length-set, get_or, subst, sym, ◌∙◌, take_all, arith}
use Rattle.std.specs.Prelude.{Contains}
use Rattle.dl_rows.proofs.RegionLemmas.{wiped_more}
use Rattle.dl_rows.proofs.region.wipe.Goals as goal

pub loop-number-preserved : goal.loop-number-preserved
loop-number-preserved c =
    let inside = subst (λ k. get_or c.args.numbers.now c.loop-number.number-index 0 / 64 < k) (sym c.loop-number.invariant.0) (c.requires c.loop-number.number-index 0 c.loop-number-test.true) in (
      length-set c.loop-number.words.items _ 0 ∙ c.loop-number.invariant.0,
      wiped_more c.args.words.now.items c.loop-number.words.items c.args.numbers.now c.loop-number.number-index c.loop-number-test.true inside c.loop-number.invariant.1,
    )

pub returns-clause-bits : goal.returns-clause-bits
returns-clause-bits c = λ n there.
    let past = c.loop-number.invariant.1 n there in (
      past.0,
      λ member. past.1 (subst (λ (xs : List ℕ). Contains xs n) (sym (take_all c.loop-number.number-index c.args.numbers.now (omega (arith, c.loop-number-test.false)))) member),
    )
