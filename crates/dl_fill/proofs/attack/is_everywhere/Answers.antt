use Rattle.std.proofs.Common.{sym, ◌∙◌, arith}
use Rattle.std.proofs.lemmas.Bool.{eqb-true}
use Rattle.dl_fill.proofs.Everywhere.{everywhere}
use Rattle.dl_fill.proofs.attack.is_everywhere.Goals as goal

pub returns : goal.returns
returns c = λ yes q lt.
    everywhere c.args.region.now c.len.ensures.region
    (sym c.len.ensures.len ∙ eqb-true c.len.result c.names.result yes ∙ c.names.ensures.len ∙ sym c.requires) q (omega (arith, lt, c.requires))
