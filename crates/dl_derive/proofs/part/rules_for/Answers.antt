use Rattle.std.proofs.Common.{◌∙◌}
use Rattle.dl_derive.proofs.Cutting.{are_rules}
use Rattle.dl_derive.proofs.part.rules_for.Goals as goal

pub put_all_heads-requires-clause-bound : goal.put_all_heads-requires-clause-bound
put_all_heads-requires-clause-bound c = c.make-rules.ensures.bound ∙ c.rule_numbers.ensures

pub returns : goal.returns
returns c =
    are_rules c.args.net.now c.names-names.ensures.numbered c.args.found.now.members c.requires c.put_all_heads.new.rules c.make-rules.result
    c.make-rules.ensures.members c.in_ok-put_all_heads.ensures
