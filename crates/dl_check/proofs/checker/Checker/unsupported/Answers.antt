use Rattle.std.proofs.Common.{◌≡◌, ◌∙◌, ℕ, List, ap, subst, not}
use Rattle.dl_lit.specs.declared.literal.Literal.{Literal}
use Rattle.dl_lit.specs.Literal.{complement}
use Rattle.dl_check.specs.declared.band.Band.{Band}
use Rattle.dl_check.specs.Derived.{is_derived}
use Rattle.dl_check.specs.Checking.{HasLabels, some_unbeaten}
use Rattle.dl_check.proofs.Rows.{unsupported_is}
use Rattle.dl_check.proofs.checker.Checker.unsupported.Goals as goal

pub returns : goal.returns
returns c = λ T s.
    let got = is_derived c.args.derived.now in
    let labels : List (List ℕ) = c.in_ok-foes.foes.keys in
    let opposite : c.in_ok-opposite.opposite ≡ complement c.args.q.now = c.in_ok-opposite.ensures in
    ap not (c.some_unbeaten.ensures ∙ ap (λ (b : Band). some_unbeaten c.args.self.now got b c.args.q.now labels) c.not_off-supporters.ensures)
    ∙ unsupported_is c.args.self.now T s got c.args.q.now labels
    (subst (λ (b : Band). HasLabels c.args.self.now got b (complement c.args.q.now) labels) c.on.ensures
    (subst (λ (q : Literal). HasLabels c.args.self.now got c.on.result q labels) opposite c.in_ok-foes.ensures))
