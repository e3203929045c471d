use Rattle.std.proofs.Common.{true, false, sym, ◌∙◌}
use Rattle.dl_fill.specs.Before.{before_of}
use Rattle.dl_fill.proofs.Written.{exact_of_right}
use Rattle.dl_derive.proofs.Answered.{marked_follows, unmarked_not}
use Rattle.dl_derive.proofs.Gaps.{is_exact_gap}
use Rattle.dl_derive.proofs.whole.answer_at.Goals as goal

pub steps_to-requires-clause-follows : goal.steps_to-requires-clause-follows
steps_to-requires-clause-follows c =
    marked_follows c.args.net.now (before_of c.args.marks.now c.in_ok-region.region) c.args.family
    (λ g needed. exact_of_right c.args.net.now c.args.marks.now c.in_ok-region.region g c.requires.room (c.requires.right g needed))
    c.args.number c.requires.number true (sym c.get.ensures ∙ c.if-get.true)

pub steps_to-requires-then-get-2-clause-follows : goal.steps_to-requires-then-get-2-clause-follows
steps_to-requires-then-get-2-clause-follows c =
    marked_follows c.args.net.now (before_of c.args.marks.now c.in_ok-region.region) c.args.family
    (λ g needed. exact_of_right c.args.net.now c.args.marks.now c.in_ok-region.region g c.requires.room (c.requires.right g needed))
    c.args.number c.requires.number false (sym c.get-2.ensures ∙ c.if-get-2.true)

pub returns : goal.returns
returns c = record {
  verdict = (
    unmarked_not c.args.net.now (before_of c.args.marks.now c.in_ok-region.region) c.args.family
        (λ g needed. exact_of_right c.args.net.now c.args.marks.now c.in_ok-region.region g c.requires.room (c.requires.right g needed))
        c.args.number c.requires.number true (sym c.get.ensures ∙ c.if-get.false),
    unmarked_not c.args.net.now (before_of c.args.marks.now c.in_ok-region.region) c.args.family
        (λ g needed. exact_of_right c.args.net.now c.args.marks.now c.in_ok-region.region g c.requires.room (c.requires.right g needed))
        c.args.number c.requires.number false (sym c.get-2.ensures ∙ c.if-get-2.false),
  );
  certificate =
      is_exact_gap c.args.net.now c.names-names.ensures.numbered (before_of c.args.marks.now c.in_ok-region.region) c.args.family
      (λ g needed. exact_of_right c.args.net.now c.args.marks.now c.in_ok-region.region g c.requires.room (c.requires.right g needed))
      c.args.number c.requires.number c.in_ok-region.region c.in_ok-region.ensures c.in_ok-members.members c.in_ok-members.ensures;
}

pub steps_to-requires-clause-asked : goal.steps_to-requires-clause-asked
steps_to-requires-clause-asked c =
    record { number = c.requires.number; back = c.in_ok-region.ensures; room = c.requires.room; right = c.requires.right }

pub steps_to-requires-then-get-2-clause-asked : goal.steps_to-requires-then-get-2-clause-asked
steps_to-requires-then-get-2-clause-asked c =
    record { number = c.requires.number; back = c.in_ok-region.ensures; room = c.requires.room; right = c.requires.right }
