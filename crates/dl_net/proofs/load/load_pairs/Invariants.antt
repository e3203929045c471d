use Rattle.std.proofs.Common.{◌≡◌, [], take, map}
use Rattle.std.specs.Prelude.{flat_map}
use Rattle.dl_graph.specs.Numbers.{NetLists, of_rule}
use Rattle.dl_graph.specs.Above.{lower_step, upper_step}
use Rattle.dl_net.specs.Linking.{AreRules, ArePairs}
use Rattle.dl_net.proofs.load.load_pairs.Given as goal

abbrev pub invariant-loop-at : goal.invariant-loop-at
invariant-loop-at l = record {
  lines : l.index.lines ≡ l.fn.index.lines;
  lowers : (N : NetLists) → AreRules N l.names.literals l.fn.index.lines → ArePairs N l.pairs → l.fn.index.lowers ≡ map (λ _. []) N.rules
      → l.index.lowers ≡ map (of_rule (λ t. flat_map (λ p. lower_step N p t) (take l.at N.theory.pairs))) N.rules;
  uppers : (N : NetLists) → AreRules N l.names.literals l.fn.index.lines → ArePairs N l.pairs → l.fn.index.uppers ≡ map (λ _. []) N.rules
      → l.index.uppers ≡ map (of_rule (λ u. flat_map (λ p. upper_step N p u) (take l.at N.theory.pairs))) N.rules;
}
