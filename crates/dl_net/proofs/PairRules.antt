-- The rules of pairs that are kept by their numbers.
use Rattle.std.proofs.Common.{refl, ◌≡◌, ℕ, List, Option, None, Some, get_or, sym, ap, subst, ◌∙◌}
use Rattle.std.specs.Prelude.{All, slice_get, option_map}
use Rattle.std.proofs.lemmas.Option.{slice_get-map, slice_get_within, get_or_from_slice_get}
use Rattle.dl_sup.specs.declared.link.Link.{Link}
use Rattle.dl_theory.specs.declared.rule.Pair.{Pair}
use Rattle.dl_graph.specs.Numbers.{NetLists, HasRule}
use Rattle.dl_net.specs.Linking.{ArePairs, IsPairOf, pair_at}

-- the member whose two numbers were told
pub record Told (o : Option Link) (upper lower : ℕ) : Type 0 where
  pub link : Link
  pub stands : o ≡ Some link
  pub is : link ≡ record { upper = upper; lower = lower }

pub told : (o : Option Link) (upper lower : ℕ) → option_map {U = ℕ × ℕ} (λ l. (l.upper, l.lower)) o ≡ Some (upper, lower) → Told o upper lower
told None upper lower e = cc
told (Some l) upper lower e =
    record { link = l; stands = refl; is = λ i. record { upper = ap (λ p. (numbers p).0) e i; lower = ap (λ p. (numbers p).1) e i } }
  where
    numbers : Option (ℕ × ℕ) → ℕ × ℕ
    numbers None = (0, 0)
    numbers (Some p) = p

-- what holds of all links holds of the one whose numbers were told
pub told_all : (P : Link → Type 0) (links : List Link) → All P links → (at upper lower : ℕ) → Told (slice_get links at) upper lower
    → P (record { upper = upper; lower = lower })
told_all P links all at upper lower t =
    subst P (get_or_from_slice_get links at t.link t.link t.stands ∙ t.is) (all at t.link (slice_get_within links at t.link t.stands))

-- the numbers that were told of a pair are those of its rules
pub told_pair : (N : NetLists) (links : List Link) → ArePairs N links → (at upper lower : ℕ) → Told (slice_get links at) upper lower → (d : Pair)
    → IsPairOf N (get_or N.theory.pairs at d) upper lower
told_pair N links h at upper lower t d =
    let there = told_all (λ l. HasRule N l.upper × HasRule N l.lower) links h.there at upper lower t in
    let is : get_or N.theory.pairs at d ≡ pair_at N (record { upper = upper; lower = lower }) =
    get_or_from_slice_get N.theory.pairs at (pair_at N t.link) d
    (ap (λ (ps : List Pair). slice_get ps at) h.are ∙ slice_get-map (pair_at N) links at ∙ ap (option_map (pair_at N)) t.stands)
    ∙ ap (pair_at N) t.is in record {
      upper_there = there.0;
      lower_there = there.1;
      upper_label = ap (λ (p : Pair). p.upper) (sym is);
      lower_label = ap (λ (p : Pair). p.lower) (sym is);
    }
