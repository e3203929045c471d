use Rattle.std.proofs.Common.{◌≡◌, ◌+◌, ◌≤◌, ◌^◌, Option, Some, List, [], ◌∷◌, ◌++◌, length, sym, ap, subst, ◌∙◌, arith, length-append}
use Rattle.dl_rules.specs.declared.entry.Room.{Room}
use Rattle.dl_rules.specs.Lines.{IndexLists, Line}
use Rattle.dl_rules.specs.Indexes.{by_number, HasRules, HasLinks}
use Rattle.dl_rules.specs.KeptIndex.{HasRoom, HasRuleRoom, ready_of}
use Rattle.dl_rows.proofs.Keeping.{KeepsLists-refl}
use Rattle.dl_rules.proofs.LinkLemmas.{lower_past, upper_past}
use Rattle.dl_rules.proofs.NumberLemmas.{numbered_more}
use Rattle.dl_rules.proofs.RuleLemmas.{HasRules-add, HasLinks-more}
use Rattle.dl_rules.proofs.ThereLemmas.{there_kept}
use Rattle.dl_rows.specs.There.{there}
use Rattle.dl_rows.proofs.There.{live_push, live_most}
use Rattle.dl_rules.proofs.index.Index.put.Goals as goal

pub overflow_add-self : goal.overflow_add-self
overflow_add-self c = omega (arith, c.self.invariant.live, c.self.invariant.few, live_most c.self.inside.lines.items)

pub invariant_of-self : goal.invariant_of-self
invariant_of-self c =
    let room : HasRuleRoom c.self.inside c.in-ForRule.entry =
    subst (λ (r : Room). HasRoom c.self.inside r) (sym c.in-ForRule.ensures.value) c.self.invariant.room in
    let lines : List (Option Line) = c.self.inside.lines.items in
    let e : Line = c.in-ForRule.entry in
    let held : HasRules (lines ++ Some e ∷ []) c.put_rule.new.heads c.put_rule.new.uses =
    HasRules-add lines e c.self.inside.heads c.self.inside.uses c.put_rule.new.heads c.put_rule.new.uses c.self.invariant.rules
    room.within.0 c.put_rule.ensures.heads c.put_rule.ensures.uses c.put_rule.ensures.uses_same in
    let linked : HasLinks (lines ++ Some e ∷ []) c.self.inside.lowers c.self.inside.uppers =
    HasLinks-more lines (lines ++ Some e ∷ []) c.self.inside.lowers c.self.inside.uppers
    c.self.inside.lowers c.self.inside.uppers (KeepsLists-refl c.self.inside.lowers) (KeepsLists-refl c.self.inside.uppers) c.self.invariant.links
    (there_kept lines (Some e)) in
    let few : length (lines ++ Some e ∷ []) ≤ 2 ^ 32 = omega (arith, length-append lines (Some e ∷ []), room.few) in
    let live : c.self.inside.live + 1 ≡ length (there (lines ++ Some e ∷ [])) = omega (arith, c.self.invariant.live, live_push lines e) in
    record {
      rules = rw c.put_rule.ensures.lines held;
      links = rw c.put_rule.ensures.lines linked;
      few = rw c.put_rule.ensures.lines few;
      live = rw c.put_rule.ensures.lines live;
      room = rw c.replace.ensures.after tt;
    }

pub returns-clause-lines : goal.returns-clause-lines
returns-clause-lines c =
    subst (λ (v : IndexLists). c.put_rule.new.lines.items ≡ v.lines ++ v.ready ∷ []) c.self.view_is
    (c.put_rule.ensures.lines
    ∙ ap (λ (r : Room). c.self.inside.lines.items ++ ready_of r ∷ []) c.in-ForRule.ensures.value)

-- one more number
count : (lines new : List (Option Line)) (o : Option Line) → new ≡ lines ++ o ∷ [] → length new ≡ length lines + 1
count lines new o e = ap length e ∙ length-append lines (o ∷ [])

pub returns-clause-lowers : goal.returns-clause-lowers
returns-clause-lowers c =
    let lines : List (Option Line) = c.self.inside.lines.items in
    subst (λ (v : IndexLists). by_number (length c.put_rule.new.lines.items) c.self.inside.lowers ≡ v.lowers ++ [] ∷ []) c.self.view_is
    (numbered_more (length lines) (length c.put_rule.new.lines.items) c.self.inside.lowers
    (count lines c.put_rule.new.lines.items (Some c.in-ForRule.entry) c.put_rule.ensures.lines)
    (lower_past c.self.invariant.links (length lines) (omega arith)))

pub returns-clause-uppers : goal.returns-clause-uppers
returns-clause-uppers c =
    let lines : List (Option Line) = c.self.inside.lines.items in
    subst (λ (v : IndexLists). by_number (length c.put_rule.new.lines.items) c.self.inside.uppers ≡ v.uppers ++ [] ∷ []) c.self.view_is
    (numbered_more (length lines) (length c.put_rule.new.lines.items) c.self.inside.uppers
    (count lines c.put_rule.new.lines.items (Some c.in-ForRule.entry) c.put_rule.ensures.lines)
    (upper_past c.self.invariant.links (length lines) (omega arith)))
