use Rattle.std.proofs.Common.{ℕ, ◌++◌, List, subst, sym}
use Rattle.dl_base.specs.Paths.{IsDistinct}
use Rattle.dl_base.proofs.Distinct.{distinct_right}
use Rattle.dl_lists.specs.KeptNames.{shared_in}
use Rattle.dl_lists.proofs.label_names.LabelNames.copy.Goals as goal

pub add_all-requires : goal.add_all-requires
add_all-requires c =
    let later : List (List ℕ) = c.self.inside.later.keys in
    subst (λ (ls : List (List ℕ)). IsDistinct (ls ++ later)) (sym c.name_set-later.ensures)
    (distinct_right (shared_in c.self.inside.shared) later c.self.invariant)
