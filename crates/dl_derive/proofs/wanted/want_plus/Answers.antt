use Rattle.std.proofs.Common.{arith, sym, subst, ◌∙◌, true≢false}
use Rattle.dl_derive.specs.Wanted.{IsWanted}
use Rattle.dl_derive.proofs.wanted.want_plus.Goals as goal

pub want-requires : goal.want-requires
want-requires c = omega (arith, c.requires.number, c.requires.size)

pub returns-then-get-clause-wants : goal.returns-then-get-clause-wants
returns-then-get-clause-wants c = record {
  sure = λ e. subst (IsWanted c.want.new.wanted.items) (omega arith) c.want.ensures.node;
  fails = λ e. absurd (true≢false (sym c.if-get.true ∙ c.get.ensures ∙ e));
}

pub returns-clause-wants : goal.returns-clause-wants
returns-clause-wants c = record {
  sure = λ e. absurd (true≢false (sym e ∙ sym c.get.ensures ∙ c.if-get.false));
  fails = λ e. c.want_attackers.ensures.all;
}
