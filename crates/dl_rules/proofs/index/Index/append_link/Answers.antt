use Rattle.std.proofs.Common.{◌≡◌, [], ◌∷◌, ◌++◌, length, set, subst}
use Rattle.dl_rules.specs.Lines.{IndexLists}
use Rattle.dl_rows.specs.Tables.{list_of}
use Rattle.dl_rules.specs.Indexes.{by_number}
use Rattle.dl_rules.proofs.LinkLemmas.{HasLinks-put, numbered_put}
use Rattle.dl_rules.proofs.ThereLemmas.{there_in, within_in}
use Rattle.dl_rules.proofs.index.Index.append_link.Goals as goal

pub invariant_of-self : goal.invariant_of-self
invariant_of-self c = record {
  rules = c.self.invariant.rules;
  links = HasLinks-put c.self.inside.lines.items c.self.inside.lowers c.self.inside.uppers c.append_both.new.lowers c.append_both.new.uppers
      c.args.upper c.args.lower c.self.invariant.links
      (there_in c.self.inside c.args.self.now c.self.view_is c.args.upper c.requires.upper)
      (there_in c.self.inside c.args.self.now c.self.view_is c.args.lower c.requires.lower)
      (record { within = c.in-Ok.ensures.lowers_wide; lists = c.in-Ok.ensures.lowers })
      (record { within = c.in-Ok.ensures.uppers_wide; lists = c.in-Ok.ensures.uppers });
  few = c.self.invariant.few;
  live = c.self.invariant.live;
  room = tt;
}

pub returns-in-Ok-clause-lowers : goal.returns-in-Ok-clause-lowers
returns-in-Ok-clause-lowers c =
    subst (λ (v : IndexLists). by_number (length c.self.inside.lines.items) c.append_both.new.lowers ≡ set v.lowers c.args.upper (list_of v.lowers c.args.upper ++ c.args.lower ∷ [])) c.self.view_is
    (numbered_put c.self.inside.lowers c.append_both.new.lowers c.args.upper c.args.lower
    (record { within = c.in-Ok.ensures.lowers_wide; lists = c.in-Ok.ensures.lowers })
    (length c.self.inside.lines.items) (within_in c.self.inside c.args.self.now c.self.view_is c.args.upper c.requires.upper))

pub returns-in-Ok-clause-uppers : goal.returns-in-Ok-clause-uppers
returns-in-Ok-clause-uppers c =
    subst (λ (v : IndexLists). by_number (length c.self.inside.lines.items) c.append_both.new.uppers ≡ set v.uppers c.args.lower (list_of v.uppers c.args.lower ++ c.args.upper ∷ [])) c.self.view_is
    (numbered_put c.self.inside.uppers c.append_both.new.uppers c.args.lower c.args.upper
    (record { within = c.in-Ok.ensures.uppers_wide; lists = c.in-Ok.ensures.uppers })
    (length c.self.inside.lines.items) (within_in c.self.inside c.args.self.now c.self.view_is c.args.lower c.requires.lower))
