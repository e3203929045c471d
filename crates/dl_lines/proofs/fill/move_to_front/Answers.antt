use Rattle.std.proofs.Common.{ℕ, ◌-◌, take, drop, sym, ap, ◌∙◌}
use Rattle.dl_lines.proofs.Room.{moved}
use Rattle.dl_lines.proofs.fill.move_to_front.Goals as goal

pub returns-then-start-eq0 : goal.returns-then-start-eq0
returns-then-start-eq0 c = sym (ap (λ (k : ℕ). take (c.args.end - c.args.start) (drop k c.args.room.now)) c.if-start-eq0.true)

pub returns : goal.returns
returns c = ap (take (c.args.end - c.args.start)) c.copy_within.ensures.after ∙ moved c.args.room.now c.args.start c.args.end c.requires.order c.requires.within
