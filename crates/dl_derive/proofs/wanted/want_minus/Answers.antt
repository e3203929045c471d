use Rattle.std.proofs.Common.{◌+◌, ◌*◌, arith}
use Rattle.dl_derive.proofs.Wanting.{more_then}
use Rattle.dl_derive.proofs.wanted.want_minus.Goals as goal

pub want-requires : goal.want-requires
want-requires c = omega (arith, c.requires.number, c.requires.size)

pub want_attackers-requires-clause-size : goal.want_attackers-requires-clause-size
want_attackers-requires-clause-size c = omega (arith, c.requires.size, c.want.ensures.more.len)

pub returns-clause-more : goal.returns-clause-more
returns-clause-more c = more_then c.args.wanted.now.items c.want.new.wanted.items c.want_attackers.new.wanted.items c.want.ensures.more c.want_attackers.ensures.more

pub returns-clause-wants : goal.returns-clause-wants
returns-clause-wants c = record {
  unsure = c.want_attackers.ensures.more.kept (c.args.number * 4 + 1) c.want.ensures.node;
  holds = λ e. c.want_attackers.ensures.all;
}
