use Rattle.std.proofs.Common.{subst}
use Rattle.dl_update.specs.RightIn.{AreRightIn}
use Rattle.dl_update.specs.declared.families.Families.{Families}
use Rattle.dl_replies.proofs.conclusion.conclusions.Goals as goal

pub make-requires-clause-right : goal.make-requires-clause-right
make-requires-clause-right c =
    (subst (λ (kept : Families). AreRightIn kept c.in_ok-net.net.theory c.in_ok-net.net.names c.in_ok-net.marks) c.in_ok-draft.ensures.families
    c.in_ok-net.ensures.right).1

pub make-requires-clause-room : goal.make-requires-clause-room
make-requires-clause-room c =
    (subst (λ (kept : Families). AreRightIn kept c.in_ok-net.net.theory c.in_ok-net.net.names c.in_ok-net.marks) c.in_ok-draft.ensures.families
    c.in_ok-net.ensures.right).0
