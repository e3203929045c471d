use Rattle.std.proofs.Common.{ℕ, ◌++◌, List, subst, sym, ◌∙◌}
use Rattle.dl_base.specs.Paths.{IsDistinct}
use Rattle.dl_base.proofs.Distinct.{distinct_left}
use Rattle.dl_lists.proofs.label_names.joined.Goals as goal

pub add_all-requires : goal.add_all-requires
add_all-requires c =
    let shared : List (List ℕ) = c.args.shared.now.keys in
    subst (λ (ls : List (List ℕ)). IsDistinct (ls ++ shared)) (sym (c.in_ok-reserve.ensures.keys ∙ c.name_set-names.ensures))
    (distinct_left shared c.args.later.now.keys c.requires)
