use Rattle.std.proofs.Common.{◌≡◌, inl, inr, sym, ap, subst, ◌∙◌}
use Rattle.dl_lit.specs.declared.literal.Literal.{Literal}
use Rattle.dl_lit.specs.Literal.{complement}
use Rattle.dl_theory.specs.Listings.{Occurs}
use Rattle.dl_graph.specs.Numbers.{NetLists, literal_at}
use Rattle.dl_graph.proofs.FindLemmas.{other_finds}
use Rattle.dl_graph.proofs.graph.Graph.lives.Goals as goal

pub returns : goal.returns
returns c =
    let N : NetLists = c.args.self.now in
    let is : literal_at N c.other.result ≡ complement (literal_at N c.args.number) =
    ap (literal_at N) c.other.ensures.other ∙ (other_finds N c.names-count.ensures.numbered c.args.number c.requires).1 in (
      λ e. inr (subst (λ (q : Literal). Occurs N.theory q) is (c.occurs-2.ensures.0 e)),
      λ m. elim m [
        | inl o ↦ let yes' = c.occurs.ensures.1 o in cc
        | inr o ↦ c.occurs-2.ensures.1 (subst (λ (q : Literal). Occurs N.theory q) (sym is) o)
      ],
    )
