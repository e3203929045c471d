use Rattle.std.proofs.Common.{◌≡◌, ℕ, suc, ◌-◌, ◌<◌, Option, Result, Ok, Err, OnOk, length, subst, arith}
use Rattle.std.specs.Prelude.{IfOk}
use Rattle.std.proofs.lemmas.List.{get_or_default}
use Rattle.dl_base.specs.declared.memory.Memory.{Memory}
use Rattle.dl_sup.specs.declared.slot.Slot.{Slot}
use Rattle.dl_sup.specs.Slots.{no_slot}
use Rattle.dl_sup.specs.Searching.{Follows}
use Rattle.dl_sup.proofs.Fronts.{front_turned, front_followed}
use Rattle.dl_sup.proofs.front.step.Goals as goal

pub returns-then-front-eq0-clause-front : goal.returns-then-front-eq0-clause-front
returns-then-front-eq0-clause-front c =
    (front_turned c.args.way c.args.slots.now c.args.heads.now c.requires.chained c.args.front.now c.requires.front c.requires.left c.turn.new.front c.turn.ensures (omega arith)).0

pub returns-then-front-eq0-clause-less : goal.returns-then-front-eq0-clause-less
returns-then-front-eq0-clause-less c =
    (front_turned c.args.way c.args.slots.now c.args.heads.now c.requires.chained c.args.front.now c.requires.front c.requires.left c.turn.new.front c.turn.ensures (omega arith)).1

ok_from : {P : Option ℕ → Type 0} {Q : Type 0} (r : Result (Option ℕ) Memory) → ((m : Option ℕ) → P m → Q) → IfOk r P → OnOk r Q
ok_from (Ok m) f h = f m h
ok_from (Err e) f h = tt

pub returns-else-front-eq0-clause-front : goal.returns-else-front-eq0-clause-front
returns-else-front-eq0-clause-front c =
    let at = c.args.front.now.cursor - 1 in
    let here : c.args.front.now.cursor ≡ suc at = omega arith in
    let within : at < length c.args.slots.now = omega (arith, here, c.requires.front.short) in
    ok_from c.follow.result
    (λ m f.
    (front_followed c.args.way c.args.slots.now c.args.heads.now c.requires.chained c.args.front.now c.requires.front c.requires.left at here m c.follow.new.front
    (subst (λ (s : Slot). Follows c.args.way s c.args.front.now c.follow.new.front m) (get_or_default c.args.slots.now at _ no_slot within) f)).0)
    c.follow.ensures
