use Rattle.std.proofs.Common.{◌≡◌, ◌<◌, get_or, sym, subst, ◌∙◌}
use Rattle.std.proofs.lemmas.List.{get_or_default}
use Rattle.dl_sup.specs.declared.link.Link.{Link}
use Rattle.dl_sup.specs.Links.{link}
use Rattle.dl_sup.specs.Whole.{link_at}
use Rattle.dl_sup.proofs.Cycles.{ranked_acyclic}
use Rattle.dl_sup.proofs.whole.is_order.Goals as goal

pub returns : goal.returns
returns c = λ risen.
    let links = c.args.links.now in
    let ranks = c.as_slice.result.now in
    record {
      distinct = c.in_ok-are_distinct.ensures c.if-not-branch.false;
      acyclic =
          ranked_acyclic links (λ x. get_or ranks x 0)
          (λ x y m.
          let here : link_at links m.0 ≡ link x y = sym (get_or_default links m.0 (link x y) (link 0 0) m.1) ∙ m.2 in
          subst (λ (q : Link). get_or ranks q.upper 0 < get_or ranks q.lower 0) here (c.rise.ensures risen m.0 m.1));
    }
