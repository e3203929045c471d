use Rattle.dl_theory.specs.Cones.{IsSeedOfPair}
use Rattle.dl_graph.specs.Numbers.{rule_at}
use Rattle.dl_cone.specs.Walked.{IsNumberOf, IsOfRivals}
use Rattle.dl_cone.proofs.Raising.{gains_same, seeding_pair}
use Rattle.dl_cone.proofs.seeds.put_pair.Goals as goal

pub returns : goal.returns
returns c =
    gains_same
    (IsNumberOf c.args.net.now (IsOfRivals c.args.net.now.theory (rule_at c.args.net.now c.in-Some.upper).head (rule_at c.args.net.now c.in-Some-find_rule.lower).head))
    (IsNumberOf c.args.net.now (IsSeedOfPair c.args.net.now.theory c.args.pair.now)) c.args.region.now c.put_heads.new.region
    (seeding_pair c.args.net.now c.requires.numbered c.requires.formed c.in-Some.upper c.in-Some-find_rule.lower c.args.pair.now
    c.in-Some.ensures.there c.in-Some-find_rule.ensures.there c.in-Some.ensures.label c.in-Some-find_rule.ensures.label)
    c.put_heads.ensures
