use Rattle.std.proofs.Common.{◌++◌, List, ap, subst, ◌∙◌}
use Rattle.dl_sup.specs.declared.link.Link.{Link}
use Rattle.dl_sup.specs.Links.{IsOrder}
use Rattle.dl_sup.proofs.Cycles.{order_addable}
use Rattle.dl_sup.proofs.extend.extend_order.Goals as goal
use Rattle.dl_sup.proofs.extend.extend_order.Goals.{then-not-branch+in_ok-add_front, else-not-branch}

pub returns-clause-accepted : goal.returns-clause-accepted
returns-clause-accepted c =
    let more = c.args.more.now in
    elim c.if-not-branch.branch [
      | then-not-branch+in_ok-add_front w ↦ w.in_ok-add_front.ensures.accepted
      | else-not-branch w ↦
          order_addable c.args.links.now.items more
          (subst (λ (ps : List Link). IsOrder ps) (c.as_slice-2.ensures.value ∙ c.in_ok-all.ensures ∙ ap (λ (ps : List Link). ps ++ more) c.as_slice.ensures.value)
          (c.in_ok-is_order.ensures w.if-not-branch.false))
    ]
