use Rattle.std.proofs.Common.{List, Option, subst, sym, arith}
use Rattle.std.specs.Prelude.{All}
use Rattle.dl_rows.specs.Tables.{IsOpen}
use Rattle.dl_rules.specs.Lines.{Line, line_at}
use Rattle.dl_rules.specs.Indexes.{HasRules, HasLinks}
use Rattle.dl_rules.proofs.RuleLemmas.{HasRules-kept, HasLinks-more}
use Rattle.dl_rules.proofs.ThereLemmas.{there_in}
use Rattle.dl_rules.proofs.index.Index.reserve_take.Goals as goal

pub invariant_of-self-in_err-open_links : goal.invariant_of-self-in_err-open_links
invariant_of-self-in_err-open_links c =
    let held : HasRules c.self.inside.lines.items c.open_rule.new.heads c.open_rule.new.uses =
    HasRules-kept c.self.invariant.rules c.open_rule.ensures.heads c.open_rule.ensures.uses
    (omega (arith, c.open_rule.ensures.heads_same, c.open_rule.ensures.uses_same, c.self.invariant.rules.as_wide)) in
    let linked : HasLinks c.self.inside.lines.items c.open_links.new.lowers c.open_links.new.uppers =
    HasLinks-more c.self.inside.lines.items c.self.inside.lines.items c.self.inside.lowers c.self.inside.uppers c.open_links.new.lowers
    c.open_links.new.uppers c.open_links.ensures.lowers c.open_links.ensures.uppers c.self.invariant.links (λ s m. m) in
    record {
      rules = rw c.open_rule.ensures.lines held;
      links = rw c.open_rule.ensures.lines linked;
      few = rw c.open_rule.ensures.lines c.self.invariant.few;
      live = rw c.open_rule.ensures.lines c.self.invariant.live;
      room = tt;
    }

pub invariant_of-self-2 : goal.invariant_of-self-2
invariant_of-self-2 c =
    let held : HasRules c.self.inside.lines.items c.open_rule.new.heads c.open_rule.new.uses =
    HasRules-kept c.self.invariant.rules c.open_rule.ensures.heads c.open_rule.ensures.uses
    (omega (arith, c.open_rule.ensures.heads_same, c.open_rule.ensures.uses_same, c.self.invariant.rules.as_wide)) in
    let linked : HasLinks c.self.inside.lines.items c.open_links.new.lowers c.open_links.new.uppers =
    HasLinks-more c.self.inside.lines.items c.self.inside.lines.items c.self.inside.lowers c.self.inside.uppers c.open_links.new.lowers
    c.open_links.new.uppers c.open_links.ensures.lowers c.open_links.ensures.uppers c.self.invariant.links (λ s m. m) in
    let there = there_in c.self.inside c.args.self.now c.self.view_is c.args.number c.requires in
    record {
      rules = rw c.open_rule.ensures.lines held;
      links = rw c.open_rule.ensures.lines linked;
      few = rw c.open_rule.ensures.lines c.self.invariant.few;
      live = rw c.open_rule.ensures.lines c.self.invariant.live;
      room = record {
        there = rw c.open_rule.ensures.lines there;
        owned = c.in_ok-open_rule.ensures.owned;
        head = rw c.open_rule.ensures.lines c.in_ok-open_rule.ensures.head;
        body = subst (λ (ls : List (Option Line)). All (IsOpen c.open_rule.new.uses) (line_at ls c.args.number).body) (sym c.open_rule.ensures.lines)
            c.in_ok-open_rule.ensures.body;
        lower = c.in_ok-open_links.ensures.lower;
        upper = c.in_ok-open_links.ensures.upper;
        below = c.in_ok-open_links.ensures.below;
        above = c.in_ok-open_links.ensures.above;
      };
    }
