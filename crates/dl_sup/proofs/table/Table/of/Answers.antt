use Rattle.std.proofs.Common.{List, ℕ, take, get_or, sym, subst, ◌∙◌}
use Rattle.std.specs.Prelude.{Contains}
use Rattle.std.proofs.lemmas.List.{map-id}
use Rattle.dl_base.specs.Paths.{IsDistinct}
use Rattle.dl_base.proofs.Distinct.{distinct_front}
use Rattle.dl_sup.specs.declared.link.Link.{Link}
use Rattle.dl_sup.specs.Links.{link}
use Rattle.dl_sup.proofs.table.Table.of.Goals as goal

pub put-requires : goal.put-requires
put-requires c = λ m.
    let links : List Link = c.args.links.now in
    let at : ℕ = c.loop-link.link-index in
    distinct_front (λ (p : Link). p) links at (link 0 0) (subst (λ (ps : List Link). IsDistinct ps) (sym (map-id links)) c.requires) c.loop-link-test.true
    (subst (λ (ps : List Link). Contains ps (get_or links at (link 0 0))) (c.loop-link.invariant ∙ sym (map-id (take at links))) m)
