use Rattle.std.proofs.Common.{◌≡◌, ◌<◌, length, drop, arith}
use Rattle.std.proofs.lemmas.List.{length-drop}
use Rattle.dl_names.proofs.StemLemmas.{digit_fits}
use Rattle.dl_names.proofs.stems.cut.Goals as goal

pub overflow_add-value : goal.overflow_add-value
overflow_add-value c =
    let ds = drop c.loop-prefix.prefix c.args.name.now in
    let long : length ds ≡ c.loop-prefix.digits = omega (arith, length-drop c.loop-prefix.prefix c.args.name.now, c.loop-prefix.invariant.whole) in
    let few : c.loop-prefix.digits < 7 = omega arith in
    let fits = digit_fits ds c.loop-prefix.value c.loop-prefix.power c.loop-prefix.digits _ c.loop-prefix.invariant.are c.loop-prefix.invariant.value long
    c.loop-prefix.invariant.power few c.if-digit-gt9.false in
    omega (arith, fits)
