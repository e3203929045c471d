use Rattle.std.proofs.Common.{List, sym, subst}
use Rattle.std.specs.Prelude.{◌↔◌, Contains}
use Rattle.dl_base.specs.Paths.{IsDistinct}
use Rattle.dl_theory.specs.declared.rule.Pair.{Pair}
use Rattle.dl_derive.specs.Part.{IsBelow}
use Rattle.dl_derive.proofs.part.part_with.Goals as goal

pub pairs_below-requires : goal.pairs_below-requires
pairs_below-requires c = c.requires.rules.inside

pub fill_part-filled-requires-clause-distinct : goal.fill_part-filled-requires-clause-distinct
fill_part-filled-requires-clause-distinct c =
    subst (λ (l : List Pair). IsDistinct l) (sym c.as_slice.ensures.keys) c.in_ok-pairs.ensures.distinct

pub fill_part-filled-requires-clause-pairs : goal.fill_part-filled-requires-clause-pairs
fill_part-filled-requires-clause-pairs c = λ p.
    subst (λ (l : List Pair). Contains l p ↔ IsBelow c.args.net.now c.args.rules.now.members p) (sym c.as_slice.ensures.keys) (c.in_ok-pairs.ensures.pairs p)
