use Rattle.std.proofs.Common.{arith}
use Rattle.dl_rules.specs.declared.entry.Room.TheVariants.{Nothing, ForLink}
use Rattle.dl_rows.proofs.Keeping.{KeepsLists-refl}
use Rattle.dl_rules.proofs.OpenLemmas.{only_wider}
use Rattle.dl_rules.proofs.RuleLemmas.{HasLinks-more}
use Rattle.dl_rules.proofs.ThereLemmas.{there_in, there_within}
use Rattle.dl_rules.proofs.index.Index.reserve_link.Goals as goal

pub overflow_cast-upper : goal.overflow_cast-upper
overflow_cast-upper c =
    omega (arith, c.self.invariant.few, there_within c.self.inside.lines.items c.args.upper (there_in c.self.inside c.args.self.now c.self.view_is c.args.upper c.requires.upper))

pub overflow_cast-lower : goal.overflow_cast-lower
overflow_cast-lower c =
    omega (arith, c.self.invariant.few, there_within c.self.inside.lines.items c.args.lower (there_in c.self.inside c.args.self.now c.self.view_is c.args.lower c.requires.lower))

pub invariant_of-self : goal.invariant_of-self
invariant_of-self c = record {
  rules = c.self.invariant.rules;
  links = HasLinks-more c.self.inside.lines.items c.self.inside.lines.items
      c.self.inside.lowers c.self.inside.uppers c.reserve_at.new.rows c.self.inside.uppers c.reserve_at.ensures.kept (KeepsLists-refl c.self.inside.uppers)
      c.self.invariant.links (λ s m. m);
  few = c.self.invariant.few;
  live = c.self.invariant.live;
  room = tt;
}

pub invariant_of-self-in_err-reserve_at-2 : goal.invariant_of-self-in_err-reserve_at-2
invariant_of-self-in_err-reserve_at-2 c = record {
  rules = c.self.invariant.rules;
  links = HasLinks-more c.self.inside.lines.items c.self.inside.lines.items
      c.self.inside.lowers c.self.inside.uppers c.reserve_at.new.rows c.reserve_at-2.new.rows c.reserve_at.ensures.kept c.reserve_at-2.ensures.kept
      c.self.invariant.links (λ s m. m);
  few = c.self.invariant.few;
  live = c.self.invariant.live;
  room = tt;
}

pub returns-in_err-reserve_at-clause-kept : goal.returns-in_err-reserve_at-clause-kept
returns-in_err-reserve_at-clause-kept c =
    only_wider c.self.inside c.reserve_at.new.rows c.self.inside.uppers Nothing c.reserve_at.ensures.kept (KeepsLists-refl c.self.inside.uppers) c.args.self.now c.self.view_is

pub returns-in_err-reserve_at-2-clause-kept : goal.returns-in_err-reserve_at-2-clause-kept
returns-in_err-reserve_at-2-clause-kept c =
    only_wider c.self.inside c.reserve_at.new.rows c.reserve_at-2.new.rows Nothing c.reserve_at.ensures.kept c.reserve_at-2.ensures.kept c.args.self.now c.self.view_is

pub returns-clause-kept : goal.returns-clause-kept
returns-clause-kept c =
    only_wider c.self.inside c.reserve_at.new.rows c.reserve_at-2.new.rows (ForLink (record { upper = c.args.upper; lower = c.args.lower }))
    c.reserve_at.ensures.kept c.reserve_at-2.ensures.kept c.args.self.now c.self.view_is

pub invariant_of-self-2 : goal.invariant_of-self-2
invariant_of-self-2 c = record {
  rules = c.self.invariant.rules;
  links = HasLinks-more c.self.inside.lines.items c.self.inside.lines.items
      c.self.inside.lowers c.self.inside.uppers c.reserve_at.new.rows c.reserve_at-2.new.rows c.reserve_at.ensures.kept c.reserve_at-2.ensures.kept
      c.self.invariant.links (λ s m. m);
  few = c.self.invariant.few;
  live = c.self.invariant.live;
  room = record {
    upper = there_in c.self.inside c.args.self.now c.self.view_is c.args.upper c.requires.upper;
    lower = there_in c.self.inside c.args.self.now c.self.view_is c.args.lower c.requires.lower;
    lowers_wide = c.in_ok-reserve_at.ensures.wide;
    uppers_wide = c.in_ok-reserve_at-2.ensures.wide;
    lowers_room = c.in_ok-reserve_at.ensures.room;
    uppers_room = c.in_ok-reserve_at-2.ensures.room;
  };
}
