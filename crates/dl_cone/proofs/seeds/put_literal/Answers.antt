use Rattle.std.proofs.Common.{inl, inr, subst, sym, ◌∙◌}
use Rattle.std.specs.Prelude.{Contains}
use Rattle.std.proofs.lemmas.List.Elements.{Contains-get_or}
use Rattle.dl_lit.specs.declared.literal.Literal.{Literal}
use Rattle.dl_theory.specs.Cones.{IsOrAttacks}
use Rattle.dl_graph.specs.Numbers.{NetLists, no_literal, literal_at}
use Rattle.dl_fill.proofs.Attacks.{attack_turns}
use Rattle.dl_names.proofs.NameLemmas.{found_at}
use Rattle.dl_fill.proofs.Links.{attacker_named}
use Rattle.dl_derive.specs.Back.{Gains}
use Rattle.dl_derive.proofs.Gaining.{gains_none}
use Rattle.dl_cone.specs.Walked.{IsNumberOf}
use Rattle.dl_cone.proofs.seeds.put_literal.Goals as goal

pub returns-in-Some : goal.returns-in-Some
returns-in-Some c =
    let N : NetLists = c.args.net.now in
    subst (λ (q : Literal). Gains (IsNumberOf N (IsOrAttacks N.theory q)) c.args.region.now c.put_both.new.region)
    ((found_at N.names c.args.literal.now c.in-Some.number (sym c.find.ensures.number ∙ c.in-Some.is)).1 no_literal) c.put_both.ensures

pub returns-in-None : goal.returns-in-None
returns-in-None c =
    let N : NetLists = c.args.net.now in
    let q : Literal = c.args.literal.now in
    gains_none (IsNumberOf N (IsOrAttacks N.theory q)) c.args.region.now (λ n h.
    let there : Contains N.names (literal_at N n) = Contains-get_or N.names n no_literal h.0 in
    elim h.1 [
      | inl e ↦ c.in-None.ensures.absent (subst (Contains N.names) e there)
      | inr a ↦ c.in-None.ensures.absent (attacker_named N c.requires.numbered (literal_at N n) q there (attack_turns N.theory q (literal_at N n) a))
    ])
