use Rattle.std.proofs.Common.{◌≡◌, ◌∙◌, ap, subst}
use Rattle.dl_lit.specs.declared.literal.Literal.{Literal}
use Rattle.dl_lit.specs.Literal.{complement}
use Rattle.dl_check.specs.declared.band.Band.{Band}
use Rattle.dl_check.specs.Derived.{is_derived}
use Rattle.dl_check.specs.Checking.{HasLabels, prevails}
use Rattle.dl_check.proofs.Rows.{prevails_is}
use Rattle.dl_check.proofs.checker.Checker.prevails.Goals as goal

pub returns : goal.returns
returns c = λ T s.
    let got = is_derived c.args.derived.now in
    let opposite : c.in_ok-opposite.opposite ≡ complement c.args.q.now = c.in_ok-opposite.ensures in
    c.prevails_by.ensures
    ∙ ap (λ (q : Literal). prevails c.args.self.now got c.args.family c.args.against c.args.q.now q c.in_ok-team.team.keys) opposite
    ∙ prevails_is c.args.self.now T s got c.args.family c.args.against c.args.q.now c.in_ok-team.team.keys
    (subst (λ (b : Band). HasLabels c.args.self.now got b c.args.q.now c.in_ok-team.team.keys) c.on.ensures c.in_ok-team.ensures)
