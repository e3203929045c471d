use Rattle.std.proofs.Common.{subst, ap, ◌∙◌}
use Rattle.dl_lit.specs.declared.literal.Literal.{Literal}
use Rattle.dl_theory.specs.Cones.{IsOrAttacks}
use Rattle.dl_graph.specs.Numbers.{literal_at}
use Rattle.dl_derive.specs.Back.{Gains}
use Rattle.dl_cone.specs.Walked.{IsNumberOf}
use Rattle.dl_cone.proofs.Raising.{head_found}
use Rattle.dl_cone.proofs.seeds.put_head.Goals as goal

pub returns : goal.returns
returns c =
    subst (λ (q : Literal). Gains (IsNumberOf c.args.net.now (IsOrAttacks c.args.net.now.theory q)) c.args.region.now c.put_both.new.region)
    (ap (literal_at c.args.net.now) c.head.ensures.value ∙ head_found c.args.net.now c.requires.numbered c.args.rule c.requires.rule)
    c.put_both.ensures
