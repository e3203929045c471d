use Rattle.std.proofs.Common.{◌≡◌, Bool, true, false, sym, refl}
use Rattle.dl_fill.specs.Before as before
use Rattle.dl_fill.proofs.Written.{inside_decides}
use Rattle.dl_fill.proofs.attack.is_inside.Goals as goal

same : (x y : Bool) → (x ≡ true → y ≡ true) → (y ≡ true → x ≡ true) → x ≡ y
same true y f g = sym (f refl)
same false true f g = g refl
same false false f g = refl

pub returns : goal.returns
returns c =
    let d = inside_decides c.args.region.now.members c.args.number in
    same c.holds.result (before.is_inside c.args.region.now.members c.args.number) (λ e. d.1 (c.holds.ensures.member.0 e)) (λ e. c.holds.ensures.member.1 (d.0 e))
