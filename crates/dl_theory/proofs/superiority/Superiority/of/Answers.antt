use Rattle.std.proofs.Common.{◌≡◌, List, ℕ, map, sym, subst, ◌∙◌}
use Rattle.std.specs.Prelude.{All}
use Rattle.std.specs.Str.{bytes_eq}
use Rattle.std.proofs.lemmas.Slice.Eq.{bytes_eq-Decides}
use Rattle.dl_base.specs.Paths.{IsDistinct}
use Rattle.dl_sup.specs.declared.link.Link.{Link}
use Rattle.dl_theory.specs.Pairs.{named, IsWithin}
use Rattle.dl_theory.proofs.Places.{keys_distinct}
use Rattle.dl_theory.proofs.superiority.Superiority.of.Goals as goal

pub invariant_of-result : goal.invariant_of-result
invariant_of-result c =
    let labels : List (List ℕ) = c.args.labels.now.keys in
    let items : List (List ℕ) = c.in_ok-items.items.keys in
    let order : List Link = c.in_ok-order.order in
    let same : c.as_slice.result.now ≡ items = c.as_slice.ensures.keys ∙ sym c.in_ok-items.ensures in
    let links : c.args.links.now ≡ order = sym c.in_ok-order.ensures in
    record {
      distinct =
          subst (λ (ls : List (List ℕ)). IsDistinct ls) (sym c.in_ok-items.ensures)
          (keys_distinct bytes_eq bytes_eq-Decides labels c.as_slice.ensures.unique);
      within =
          subst (λ (ls : List (List ℕ)). All (IsWithin ls) order) (sym c.in_ok-items.ensures)
          (subst (λ (ls : List Link). All (IsWithin labels) ls) links c.requires.within);
      names = c.in_ok-pairs.ensures ∙ (λ i. map (named (same i)) (links i));
    }
