use Rattle.std.proofs.Common.{sym, ◌∙◌}
use Rattle.std.specs.Prelude.{slice_get}
use Rattle.dl_sup.specs.declared.link.Link.{Link}
use Rattle.dl_rules.specs.Lines.{IsThere}
use Rattle.dl_rules.proofs.ThereLemmas.{there_within}
use Rattle.dl_net.proofs.PairRules.{told, told_all}
use Rattle.dl_net.proofs.load.have_room.Goals as goal

-- the rules of the pair that was told are there
met : (c : goal.In-Some) → IsThere c.args.index.now.lines c.in-Some.upper × IsThere c.args.index.now.lines c.in-Some.lower
met c =
    told_all (λ (l : Link). IsThere c.args.index.now.lines l.upper × IsThere c.args.index.now.lines l.lower) c.args.pairs.now c.requires c.loop-at.at
    c.in-Some.upper c.in-Some.lower
    (told (slice_get c.args.pairs.now c.loop-at.at) c.in-Some.upper c.in-Some.lower (sym c.rules_of.ensures ∙ c.in-Some.is))

pub has_room-all-requires-clause-upper : goal.has_room-all-requires-clause-upper
has_room-all-requires-clause-upper c = there_within c.args.index.now.lines c.in-Some.upper (met c).0

pub has_room-all-requires-clause-lower : goal.has_room-all-requires-clause-lower
has_room-all-requires-clause-lower c = there_within c.args.index.now.lines c.in-Some.lower (met c).1
