use Rattle.dl_theory.specs.Cones.{IsOrAttacks, IsSeed}
use Rattle.dl_theory.specs.declared.edit.Edit.TheVariants.{DropRule}
use Rattle.dl_graph.specs.Numbers.{rule_at}
use Rattle.dl_cone.specs.Walked.{IsNumberOf}
use Rattle.dl_cone.proofs.Raising.{gains_same, seeding_label}
use Rattle.dl_cone.proofs.seeds.put_labelled.Goals as goal

pub returns : goal.returns
returns c =
    gains_same (IsNumberOf c.args.net.now (IsOrAttacks c.args.net.now.theory (rule_at c.args.net.now c.in-Some.rule).head))
    (IsNumberOf c.args.net.now (IsSeed c.args.net.now.theory (DropRule c.args.label.now))) c.args.region.now c.put_head.new.region
    (seeding_label c.args.net.now c.requires.numbered c.requires.formed c.in-Some.rule c.args.label.now c.in-Some.ensures.there c.in-Some.ensures.label)
    c.put_head.ensures
