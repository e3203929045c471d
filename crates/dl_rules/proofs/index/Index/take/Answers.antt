use Rattle.std.proofs.Common.{◌≡◌, ℕ, ◌-◌, ◌≤◌, ◌^◌, Option, None, List, [], length, set, map, ap, subst, ◌∙◌, arith}
use Rattle.std.proofs.Math.ListN.{length-set}
use Rattle.dl_rows.specs.Tables.{drop_item}
use Rattle.dl_rows.specs.There.{there}
use Rattle.dl_rules.specs.Lines.{IndexLists, Line, IsThere}
use Rattle.dl_rules.specs.Indexes.{by_number, HasRules, HasLinks}
use Rattle.dl_rules.proofs.NumberLemmas.{numbered_gone}
use Rattle.dl_rules.proofs.TakeLemmas.{HasRules-take, HasLinks-take, rows_taken}
use Rattle.dl_rules.proofs.ThereLemmas.{there_within, live_take}
use Rattle.dl_rules.proofs.OpenLemmas.{taking_room}
use Rattle.dl_rules.proofs.index.Index.take.Goals as goal

pub overflow_cast-rule : goal.overflow_cast-rule
overflow_cast-rule c = omega (arith, c.self.invariant.few, there_within c.self.inside.lines.items c.args.number (taking_room c.self.inside c.self.inside.room c.args.number c.self.invariant.room (ap (λ (v : IndexLists). v.taking) c.self.view_is ∙ c.requires)).there)

pub overflow_sub-self : goal.overflow_sub-self
overflow_sub-self c =
    omega (
      arith,
      c.self.invariant.live,
      live_take c.self.inside.lines.items c.args.number (taking_room c.self.inside c.self.inside.room c.args.number c.self.invariant.room (ap (λ (v : IndexLists). v.taking) c.self.view_is ∙ c.requires)).there,
    )

pub take_rule-requires-clause-there : goal.take_rule-requires-clause-there
take_rule-requires-clause-there c = (taking_room c.self.inside c.self.inside.room c.args.number c.self.invariant.room (ap (λ (v : IndexLists). v.taking) c.self.view_is ∙ c.requires)).there

pub take_rule-requires-clause-owned : goal.take_rule-requires-clause-owned
take_rule-requires-clause-owned c = (taking_room c.self.inside c.self.inside.room c.args.number c.self.invariant.room (ap (λ (v : IndexLists). v.taking) c.self.view_is ∙ c.requires)).owned

pub take_rule-requires-clause-head : goal.take_rule-requires-clause-head
take_rule-requires-clause-head c = (taking_room c.self.inside c.self.inside.room c.args.number c.self.invariant.room (ap (λ (v : IndexLists). v.taking) c.self.view_is ∙ c.requires)).head

pub take_rule-requires-clause-body : goal.take_rule-requires-clause-body
take_rule-requires-clause-body c = (taking_room c.self.inside c.self.inside.room c.args.number c.self.invariant.room (ap (λ (v : IndexLists). v.taking) c.self.view_is ∙ c.requires)).body

pub take_links-requires-clause-lower : goal.take_links-requires-clause-lower
take_links-requires-clause-lower c = (taking_room c.self.inside c.self.inside.room c.args.number c.self.invariant.room (ap (λ (v : IndexLists). v.taking) c.self.view_is ∙ c.requires)).lower

pub take_links-requires-clause-upper : goal.take_links-requires-clause-upper
take_links-requires-clause-upper c = (taking_room c.self.inside c.self.inside.room c.args.number c.self.invariant.room (ap (λ (v : IndexLists). v.taking) c.self.view_is ∙ c.requires)).upper

pub take_links-requires-clause-below : goal.take_links-requires-clause-below
take_links-requires-clause-below c = (taking_room c.self.inside c.self.inside.room c.args.number c.self.invariant.room (ap (λ (v : IndexLists). v.taking) c.self.view_is ∙ c.requires)).below

pub take_links-requires-clause-above : goal.take_links-requires-clause-above
take_links-requires-clause-above c = (taking_room c.self.inside c.self.inside.room c.args.number c.self.invariant.room (ap (λ (v : IndexLists). v.taking) c.self.view_is ∙ c.requires)).above

pub invariant_of-self : goal.invariant_of-self
invariant_of-self c =
    let lines : List (Option Line) = c.self.inside.lines.items in
    let x : ℕ = c.args.number in
    let stands : IsThere lines x = (taking_room c.self.inside c.self.inside.room c.args.number c.self.invariant.room (ap (λ (v : IndexLists). v.taking) c.self.view_is ∙ c.requires)).there in
    let lower = rows_taken x c.self.inside.lowers c.self.inside.uppers c.take_links.new.lowers c.self.invariant.links.turned c.take_links.ensures.lowers in
    let upper = rows_taken x c.self.inside.uppers c.self.inside.lowers c.take_links.new.uppers (λ s u m. c.self.invariant.links.turned_back u s m) c.take_links.ensures.uppers in
    let held : HasRules (set lines x None) c.take_rule.new.heads c.take_rule.new.uses =
    HasRules-take x c.self.invariant.rules stands c.take_rule.ensures.heads c.take_rule.ensures.heads_same c.take_rule.ensures.uses c.take_rule.ensures.uses_same in
    let linked : HasLinks (set lines x None) c.take_links.new.lowers c.take_links.new.uppers =
    HasLinks-take lines c.self.inside.lowers c.self.inside.uppers c.take_links.new.lowers c.take_links.new.uppers c.self.invariant.links x
    lower.0 upper.0 lower.1 upper.1 in
    let few : length (set lines x None) ≤ 2 ^ 32 = omega (arith, c.self.invariant.few, length-set lines x None) in
    let live : c.self.inside.live - 1 ≡ length (there (set lines x None)) = omega (arith, c.self.invariant.live, live_take lines x stands) in
    record {
      rules = rw c.take_rule.ensures.lines held;
      links = rw c.take_rule.ensures.lines linked;
      few = rw c.take_rule.ensures.lines few;
      live = rw c.take_rule.ensures.lines live;
      room = tt;
    }

pub returns-clause-lowers : goal.returns-clause-lowers
returns-clause-lowers c =
    let lines : List (Option Line) = c.self.inside.lines.items in
    let x : ℕ = c.args.number in
    let left = rows_taken x c.self.inside.lowers c.self.inside.uppers c.take_links.new.lowers c.self.invariant.links.turned c.take_links.ensures.lowers in
    subst (λ (v : IndexLists). by_number (length c.take_rule.new.lines.items) c.take_links.new.lowers ≡ set (map (drop_item x) v.lowers) x []) c.self.view_is
    (ap (λ (n : ℕ). by_number n c.take_links.new.lowers) (ap length c.take_rule.ensures.lines ∙ length-set lines x None)
    ∙ numbered_gone (length lines) c.self.inside.lowers c.take_links.new.lowers x (there_within lines x (taking_room c.self.inside c.self.inside.room c.args.number c.self.invariant.room (ap (λ (v : IndexLists). v.taking) c.self.view_is ∙ c.requires)).there) left.0 left.1)

pub returns-clause-uppers : goal.returns-clause-uppers
returns-clause-uppers c =
    let lines : List (Option Line) = c.self.inside.lines.items in
    let x : ℕ = c.args.number in
    let left = rows_taken x c.self.inside.uppers c.self.inside.lowers c.take_links.new.uppers (λ s u m. c.self.invariant.links.turned_back u s m) c.take_links.ensures.uppers in
    subst (λ (v : IndexLists). by_number (length c.take_rule.new.lines.items) c.take_links.new.uppers ≡ set (map (drop_item x) v.uppers) x []) c.self.view_is
    (ap (λ (n : ℕ). by_number n c.take_links.new.uppers) (ap length c.take_rule.ensures.lines ∙ length-set lines x None)
    ∙ numbered_gone (length lines) c.self.inside.uppers c.take_links.new.uppers x (there_within lines x (taking_room c.self.inside c.self.inside.room c.args.number c.self.invariant.room (ap (λ (v : IndexLists). v.taking) c.self.view_is ∙ c.requires)).there) left.0 left.1)
