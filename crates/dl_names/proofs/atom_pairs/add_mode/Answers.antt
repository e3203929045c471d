use Rattle.std.proofs.Common.{◌≡◌, ℕ, List, false, sym, subst, ◌∙◌}
use Rattle.std.specs.List.{list_any}
use Rattle.std.specs.Str.{bytes_eq}
use Rattle.dl_base.specs.Paths.{IsDistinct}
use Rattle.dl_base.proofs.Distinct.{distinct_push}
use Rattle.dl_names.proofs.AtomLemmas.{key_added, no_mode}
use Rattle.dl_names.proofs.atom_pairs.add_mode.Goals as goal

pub returns-clause-distinct : goal.returns-clause-distinct
returns-clause-distinct c =
    let old : List (List ℕ) = c.args.modes.now.keys in
    let mode : List ℕ = c.in_ok-copy.field-0 in
    let none : list_any (bytes_eq mode) old ≡ false = subst (λ (m : List ℕ). list_any (bytes_eq m) old ≡ false) (sym c.in_ok-copy.ensures) c.requires.absent in
    subst (λ (modes : List (List ℕ)). IsDistinct modes) (sym (c.in_ok-insert.ensures.keys ∙ key_added bytes_eq old mode none))
    (distinct_push old mode c.requires.distinct (no_mode old mode none))
