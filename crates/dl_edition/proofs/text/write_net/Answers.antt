use Rattle.std.proofs.Common.{◌++◌}
use Rattle.std.proofs.lemmas.Result.{err_from_is_err_and}
use Rattle.std.specs.List.{flat_map}
use Rattle.dl_print.specs.Text.{fact_text, rule_text, pair_text, line}
use Rattle.dl_print.proofs.Writes.{cut_first, cut_after, then_all}
use Rattle.dl_edition.proofs.text.write_net.Goals as goal

pub returns-in_err-write_facts-clause-bytes : goal.returns-in_err-write_facts-clause-bytes
returns-in_err-write_facts-clause-bytes g c = let p = err_from_is_err_and c.from_residual.result c.from_residual.ensures.1 in rw p.1 (cut_first _ _ (flat_map (line fact_text) c.args.net.now.theory.facts) ((flat_map (line rule_text) c.args.net.now.theory.rules) ++ ((flat_map (line pair_text) c.args.net.now.theory.pairs))) c.in_err-write_facts.ensures.bytes)

pub returns-in_err-write_rules-clause-bytes : goal.returns-in_err-write_rules-clause-bytes
returns-in_err-write_rules-clause-bytes g c = let p = err_from_is_err_and c.from_residual-in_err-write_rules.result c.from_residual-in_err-write_rules.ensures.1 in rw p.1 (cut_after _ _ _ (flat_map (line fact_text) c.args.net.now.theory.facts) ((flat_map (line rule_text) c.args.net.now.theory.rules) ++ ((flat_map (line pair_text) c.args.net.now.theory.pairs))) c.in_ok-write_facts.ensures.bytes (cut_first _ _ (flat_map (line rule_text) c.args.net.now.theory.rules) ((flat_map (line pair_text) c.args.net.now.theory.pairs)) c.in_err-write_rules.ensures.bytes))

pub returns-clause-bytes : goal.returns-clause-bytes
returns-clause-bytes g c = then_all _ _ _ _ (flat_map (line fact_text) c.args.net.now.theory.facts) ((flat_map (line rule_text) c.args.net.now.theory.rules) ++ ((flat_map (line pair_text) c.args.net.now.theory.pairs))) c.in_ok-write_facts.ensures.bytes (then_all _ _ _ _ (flat_map (line rule_text) c.args.net.now.theory.rules) ((flat_map (line pair_text) c.args.net.now.theory.pairs)) c.in_ok-write_rules.ensures.bytes (c.write_pairs.ensures.bytes))
