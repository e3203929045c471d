use Rattle.std.proofs.Common.{ℕ, ◌<◌, List, length, sym, subst}
use Rattle.std.specs.Prelude.{All}
use Rattle.dl_theory.proofs.Numbers.{track_within}
use Rattle.dl_theory.proofs.superiority.add_link.Goals as goal

pub path_of-requires : goal.path_of-requires
path_of-requires c =
    subst (λ (ns : List ℕ). All (λ n. n < length c.args.items.now) ns) (sym c.as_slice.ensures)
    (track_within c.args.items.now c.args.order.now c.args.link c.in-Err-Cycle.track c.requires.within c.requires.link_within (rw c.in-Err-Cycle.field-0-is at c.in-Err-Cycle.ensures.stopped).1)
