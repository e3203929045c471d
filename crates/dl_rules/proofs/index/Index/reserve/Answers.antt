use Rattle.std.proofs.Common.{◌≡◌, ◌<◌, Option, List, length, ap, subst, arith}
use Rattle.std.proofs.lemmas.List.Elements.{All-weaker}
use Rattle.dl_rules.specs.Lines.{IndexLists, KeepsRules, Line}
use Rattle.dl_rules.specs.Indexes.{by_number, HasRules}
use Rattle.dl_rules.proofs.RuleLemmas.{HasRules-kept}
use Rattle.dl_rules.specs.KeptIndex.{index_of}
use Rattle.dl_rules.specs.declared.entry.Room.TheVariants.{ForRule}
use Rattle.dl_rules.proofs.index.Index.reserve.Goals as goal

pub invariant_of-self : goal.invariant_of-self
invariant_of-self c =
    let held : HasRules c.self.inside.lines.items c.reserve_rule.new.heads c.reserve_rule.new.uses =
    HasRules-kept c.self.invariant.rules
    c.reserve_rule.ensures.heads c.reserve_rule.ensures.uses
    (omega (arith, c.reserve_rule.ensures.heads_same, c.reserve_rule.ensures.uses_same, c.self.invariant.rules.as_wide)) in
    record {
      rules = rw c.reserve_rule.ensures.lines held;
      links = rw c.reserve_rule.ensures.lines c.self.invariant.links;
      few = rw c.reserve_rule.ensures.lines c.self.invariant.few;
      live = rw c.reserve_rule.ensures.lines c.self.invariant.live;
      room = tt;
    }

pub invariant_of-self-2 : goal.invariant_of-self-2
invariant_of-self-2 c =
    let held : HasRules c.self.inside.lines.items c.reserve_rule.new.heads c.reserve_rule.new.uses =
    HasRules-kept c.self.invariant.rules
    c.reserve_rule.ensures.heads c.reserve_rule.ensures.uses
    (omega (arith, c.reserve_rule.ensures.heads_same, c.reserve_rule.ensures.uses_same, c.self.invariant.rules.as_wide)) in
    let width : length c.self.inside.heads.lists ≡ c.args.self.now.width = ap (λ (v : IndexLists). v.width) c.self.view_is in
    record {
      rules = rw c.reserve_rule.ensures.lines held;
      links = rw c.reserve_rule.ensures.lines c.self.invariant.links;
      few = rw c.reserve_rule.ensures.lines c.self.invariant.few;
      live = rw c.reserve_rule.ensures.lines c.self.invariant.live;
      room = record {
        within = (
          omega (arith, c.reserve_rule.ensures.heads_same, width, c.requires.0),
          All-weaker (λ b. b < c.args.self.now.width) (λ b. b < length c.reserve_rule.new.heads.lists)
              (λ b lt. omega (arith, lt, c.reserve_rule.ensures.heads_same, width)) c.args.entry.body c.requires.1,
        );
        few = c.in_ok-reserve_rule.ensures.few;
        lines_room = c.in_ok-reserve_rule.ensures.lines_room;
        heads_room = c.in_ok-reserve_rule.ensures.heads_room;
        uses_room = c.in_ok-reserve_rule.ensures.uses_room;
      };
    }

pub returns-clause-kept : goal.returns-clause-kept
returns-clause-kept c =
    subst (λ (v : IndexLists). KeepsRules v (index_of (record {
      lines = c.reserve_rule.new.lines;
      live = c.self.inside.live;
      heads = c.reserve_rule.new.heads;
      uses = c.reserve_rule.new.uses;
      lowers = c.self.inside.lowers;
      uppers = c.self.inside.uppers;
      room = ForRule c.args.entry;
    }))) c.self.view_is
    (record {
      lines = c.reserve_rule.ensures.lines;
      lowers = ap (λ (ls : List (Option Line)). by_number (length ls) c.self.inside.lowers) c.reserve_rule.ensures.lines;
      uppers = ap (λ (ls : List (Option Line)). by_number (length ls) c.self.inside.uppers) c.reserve_rule.ensures.lines;
      wider = omega (arith, c.reserve_rule.ensures.heads_same);
    })
