use Rattle.std.proofs.Common.{ℕ, ◌<◌, Option, Some, List, refl, length, map, sym, ap, subst, ◌∙◌}
use Rattle.std.specs.Prelude.{All}
use Rattle.dl_sup.specs.declared.link.Link.{Link}
use Rattle.dl_sup.specs.declared.stop.SupStop.TheVariants as sup_stop
use Rattle.dl_sup.specs.Adding.{IsSupStop}
use Rattle.dl_theory.specs.Pairs.{label_at}
use Rattle.dl_rows.specs.There.{there}
use Rattle.dl_net.specs.Kept.{HasOrder, lists_of}
use Rattle.dl_net.proofs.PairTables.{pairs_order, track_within, refused_there, refused_cycle}
use Rattle.dl_net.proofs.tables.Tables.add_to_order.Goals as goal

pub add_link-requires-clause-pairs : goal.add_link-requires-clause-pairs
add_link-requires-clause-pairs c = pairs_order (lists_of c.args.self.now) c.requires.kept.tables

pub returns-in-Ok-clause-added : goal.returns-in-Ok-clause-added
returns-in-Ok-clause-added c =
    subst (λ (o : Option (List Link)). HasOrder o c.args.self.now.pairs.items (Some c.args.link)) (sym c.in-Ok.ensures.added) (refl, c.in-Ok.ensures.accepted.0)

pub path_of-requires : goal.path_of-requires
path_of-requires c =
    let links : List Link = there c.args.self.now.pairs.items in
    let stop : IsSupStop links c.args.link (sup_stop.Cycle c.in-Err-Cycle.track) =
    subst (IsSupStop links c.args.link) c.in-Err-Cycle.field-0-is c.in-Err-Cycle.ensures.stopped in
    subst (λ (ns : List ℕ). All (λ n. n < length c.args.self.now.labels.labels) ns) (sym c.as_slice.ensures)
    (track_within (lists_of c.args.self.now) c.requires.kept.tables c.args.link c.requires.there c.in-Err-Cycle.track stop.1)

pub returns-in-Err-There-clause-stopped : goal.returns-in-Err-There-clause-stopped
returns-in-Err-There-clause-stopped c =
    refused_there (lists_of c.args.self.now) c.requires.kept.tables c.args.link c.requires.there
    (subst (IsSupStop (there c.args.self.now.pairs.items) c.args.link) c.in-Err-There.field-0-is c.in-Err-There.ensures.stopped)

pub returns-in_ok-path-in-Err-Cycle-clause-stopped : goal.returns-in_ok-path-in-Err-Cycle-clause-stopped
returns-in_ok-path-in-Err-Cycle-clause-stopped c =
    refused_cycle (lists_of c.args.self.now) c.requires.kept.tables c.args.link c.requires.there c.in-Err-Cycle.track c.in_ok-path-in-Err-Cycle.path
    (subst (IsSupStop (there c.args.self.now.pairs.items) c.args.link) c.in-Err-Cycle.field-0-is c.in-Err-Cycle.ensures.stopped)
    (c.in_ok-path-in-Err-Cycle.ensures ∙ ap (map (label_at c.args.self.now.labels.labels)) c.as_slice.ensures)
