use Rattle.std.proofs.Common.{ℕ, ◌≤◌, sym, subst}
use Rattle.dl_rules.specs.Lines.{Line, IsWithin}
use Rattle.dl_graph.proofs.LineLemmas.{line_within}
use Rattle.dl_net.proofs.load.room_for_rule.Goals as goal

pub reserve-requires : goal.reserve-requires
reserve-requires c =
    subst (λ (l : Line). IsWithin c.widen.new.self.width l) (sym c.in_ok-entry.ensures.line)
    (line_within c.number_rule.new.names.literals c.widen.new.self.width c.args.rule.now c.len.ensures.distinct c.in_ok-entry.ensures.there
    (subst (λ (n : ℕ). n ≤ c.widen.new.self.width) c.len.ensures.len c.in_ok-widen.ensures.wide))
