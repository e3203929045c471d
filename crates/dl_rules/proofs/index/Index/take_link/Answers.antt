use Rattle.std.proofs.Common.{◌≡◌, length, ap, subst, ◌∙◌, arith, set}
use Rattle.dl_rows.specs.Tables.{drop_item, list_of}
use Rattle.dl_rules.specs.Lines.{IndexLists}
use Rattle.dl_rules.specs.Indexes.{by_number}
use Rattle.dl_rules.proofs.TakeLemmas.{HasLinks-drop, numbered_drop}
use Rattle.dl_rules.proofs.ThereLemmas.{there_within}
use Rattle.dl_rules.proofs.OpenLemmas.{unlinking_room}
use Rattle.dl_rules.proofs.index.Index.take_link.Goals as goal

pub overflow_cast-lower : goal.overflow_cast-lower
overflow_cast-lower c = omega (arith, c.self.invariant.few, there_within c.self.inside.lines.items c.args.lower (unlinking_room c.self.inside c.self.inside.room c.args.upper c.args.lower c.self.invariant.room (ap (λ (v : IndexLists). v.unlinking) c.self.view_is ∙ c.requires)).lower)

pub overflow_cast-upper : goal.overflow_cast-upper
overflow_cast-upper c = omega (arith, c.self.invariant.few, there_within c.self.inside.lines.items c.args.upper (unlinking_room c.self.inside c.self.inside.room c.args.upper c.args.lower c.self.invariant.room (ap (λ (v : IndexLists). v.unlinking) c.self.view_is ∙ c.requires)).upper)

pub invariant_of-self : goal.invariant_of-self
invariant_of-self c = record {
  rules = c.self.invariant.rules;
  links = HasLinks-drop c.self.inside.lines.items c.self.inside.lowers c.self.inside.uppers c.remove.new.self c.remove-2.new.self
      c.args.upper c.args.lower c.self.invariant.links
      c.remove.ensures.lists
      c.remove-2.ensures.lists;
  few = c.self.invariant.few;
  live = c.self.invariant.live;
  room = tt;
}

pub returns-clause-lowers : goal.returns-clause-lowers
returns-clause-lowers c =
    subst (λ (v : IndexLists). by_number (length c.self.inside.lines.items) c.remove.new.self ≡ set v.lowers c.args.upper (drop_item c.args.lower (list_of v.lowers c.args.upper))) c.self.view_is
    (numbered_drop c.self.inside.lowers c.remove.new.self c.args.upper c.args.lower c.remove.ensures.lists
    (length c.self.inside.lines.items) (there_within c.self.inside.lines.items c.args.upper (unlinking_room c.self.inside c.self.inside.room c.args.upper c.args.lower c.self.invariant.room (ap (λ (v : IndexLists). v.unlinking) c.self.view_is ∙ c.requires)).upper))

pub returns-clause-uppers : goal.returns-clause-uppers
returns-clause-uppers c =
    subst (λ (v : IndexLists). by_number (length c.self.inside.lines.items) c.remove-2.new.self ≡ set v.uppers c.args.lower (drop_item c.args.upper (list_of v.uppers c.args.lower))) c.self.view_is
    (numbered_drop c.self.inside.uppers c.remove-2.new.self c.args.lower c.args.upper c.remove-2.ensures.lists
    (length c.self.inside.lines.items) (there_within c.self.inside.lines.items c.args.lower (unlinking_room c.self.inside c.self.inside.room c.args.upper c.args.lower c.self.invariant.room (ap (λ (v : IndexLists). v.unlinking) c.self.view_is ∙ c.requires)).lower))

pub remove-requires : goal.remove-requires
remove-requires c = (unlinking_room c.self.inside c.self.inside.room c.args.upper c.args.lower c.self.invariant.room (ap (λ (v : IndexLists). v.unlinking) c.self.view_is ∙ c.requires)).lowers_open

pub remove-requires-2 : goal.remove-requires-2
remove-requires-2 c = (unlinking_room c.self.inside c.self.inside.room c.args.upper c.args.lower c.self.invariant.room (ap (λ (v : IndexLists). v.unlinking) c.self.view_is ∙ c.requires)).uppers_open
