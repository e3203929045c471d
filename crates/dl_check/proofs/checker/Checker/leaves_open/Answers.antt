use Rattle.std.proofs.Common.{sym, ◌∙◌, true≢false, true, false}
use Rattle.std.proofs.lemmas.Result.{IfOk-weaker}
use Rattle.dl_lit.specs.Literal.{tagged}
use Rattle.dl_check.proofs.Accepting.{member_decides, open_decided}
use Rattle.dl_check.proofs.checker.Checker.leaves_open.Goals as goal

pub returns-then-not-has_tagged : goal.returns-then-not-has_tagged
returns-then-not-has_tagged c = λ T s.
    let proved = member_decides c.args.members.now c.as_slice-list.result.now (tagged true c.args.family c.args.literal.now) c.has_tagged.result c.as_slice-list.ensures c.has_tagged.ensures in
    (λ e. absurd (true≢false (sym e)), λ h. sym c.if-not-has_tagged.true ∙ proved.1 h.0)

pub returns-then-not-has_tagged-2 : goal.returns-then-not-has_tagged-2
returns-then-not-has_tagged-2 c = λ T s.
    let refuted = member_decides c.args.members.now c.as_slice-list.result.now (tagged false c.args.family c.args.literal.now) c.has_tagged-2.result c.as_slice-list.ensures c.has_tagged-2.ensures in
    (λ e. absurd (true≢false (sym e)), λ h. sym c.if-not-has_tagged-2.true ∙ refuted.1 h.1)

pub returns : goal.returns
returns c =
    let proved = member_decides c.args.members.now c.as_slice-list.result.now (tagged true c.args.family c.args.literal.now) c.has_tagged.result c.as_slice-list.ensures c.has_tagged.ensures in
    let refuted = member_decides c.args.members.now c.as_slice-list.result.now (tagged false c.args.family c.args.literal.now) c.has_tagged-2.result c.as_slice-list.ensures c.has_tagged-2.ensures in
    IfOk-weaker c.is_accepted.result _ _
    (λ b told T s. open_decided T c.args.family c.args.literal.now c.args.members.now c.check_gap.result b (proved.0 c.if-not-has_tagged.false) (refuted.0 c.if-not-has_tagged-2.false)
    (c.check_gap.ensures.answer T s) told)
    c.is_accepted.ensures
