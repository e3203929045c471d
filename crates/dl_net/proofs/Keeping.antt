-- What stays where no literal joins the names, and where tables are equal.
use Rattle.std.proofs.Common.{◌≡◌, List, [], ◌∷◌, ◌++◌, refl, ap, ◌∙◌, inl, inr, arith, ◌≤◌, ◌⊎◌, Option, Some, length, sym, subst}
use Rattle.std.specs.Prelude.{All}
use Rattle.std.proofs.lemmas.List.{append-nil, length-map}
use Rattle.dl_lit.specs.declared.literal.Literal.{Literal}
use Rattle.dl_names.specs.Paired.{IsNear, Grows}
use Rattle.dl_theory.specs.declared.rule.Rule.{Rule}
use Rattle.dl_rows.specs.There.{there}
use Rattle.dl_rows.proofs.There.{live_most}
use Rattle.dl_graph.specs.Numbers.{NetLists}
use Rattle.dl_graph.specs.Tables.{rules_of}
use Rattle.dl_net.specs.declared.tables.Tables.{Tables}
use Rattle.dl_net.specs.Kept.{KeepsNumbers, KeepsTables, KeepsTheory, lists_of, net_in, numbered_anew, theory_in}

none_near : (more : List Literal) → All (IsNear []) more → more ≡ []
none_near [] h = refl
none_near (q ∷ more) h =
    elim (h 0 q (omega arith)) [
      | inl m ↦ absurd (omega (arith, m.1))
      | inr m ↦ absurd (omega (arith, m.1))
    ]

pub grown_by_none : (old new : List Literal) → Grows (IsNear []) old new → new ≡ old
grown_by_none old new g = g.is ∙ ap (λ (more : List Literal). old ++ more) (none_near g.more g.only) ∙ append-nil old

pub keeps_net : (old new : Tables) → KeepsTables [] old new → net_in new ≡ net_in old
keeps_net old new k = k.net ∙ ap (λ (ls : List Literal). record (net_in old) { names = ls }) (grown_by_none old.names.literals new.names.literals k.names)

-- ---- numbers that are given anew

-- the theory is the same
pub theory_renewed : (old new : Tables) → (net_in new ≡ net_in old) ⊎ (net_in new ≡ numbered_anew (net_in old)) → theory_in new ≡ theory_in old
theory_renewed old new (inl same) = ap (λ (N : NetLists). N.theory) same
theory_renewed old new (inr anew) = ap (λ (N : NetLists). N.theory) anew

names_renewed : (old new : Tables) → (net_in new ≡ net_in old) ⊎ (net_in new ≡ numbered_anew (net_in old)) → new.names.literals ≡ old.names.literals
names_renewed old new (inl same) = ap (λ (N : NetLists). N.names) same
names_renewed old new (inr anew) = ap (λ (N : NetLists). N.names) anew

rules_renewed : (old new : Tables) → (net_in new ≡ net_in old) ⊎ (net_in new ≡ numbered_anew (net_in old))
    → KeepsNumbers (rules_of (lists_of old)) (rules_of (lists_of new))
rules_renewed old new (inl same) = inl (ap (λ (N : NetLists). N.rules) same)
rules_renewed old new (inr anew) = inr (ap (λ (N : NetLists). N.rules) anew)

pub keeps_theory : {qs : List Literal} (old own renewed new : Tables) → net_in own ≡ net_in old
    → (net_in renewed ≡ net_in own) ⊎ (net_in renewed ≡ numbered_anew (net_in own)) → KeepsTables qs renewed new → KeepsTheory qs old new
keeps_theory {qs} old own renewed new same either k = record {
  kept = k.kept;
  theory = ap (λ (N : NetLists). N.theory) k.net ∙ theory_renewed own renewed either ∙ ap (λ (N : NetLists). N.theory) same;
  rules = subst (λ (rs : List (Option Rule)). KeepsNumbers rs (rules_of (lists_of new))) (ap (λ (N : NetLists). N.rules) same)
      (subst (λ (rs : List (Option Rule)). KeepsNumbers (rules_of (lists_of own)) rs) (sym (ap (λ (N : NetLists). N.rules) k.net))
      (rules_renewed own renewed either));
  names = subst (λ (ls : List Literal). Grows (IsNear qs) ls new.names.literals)
      (names_renewed own renewed either ∙ ap (λ (N : NetLists). N.names) same) k.names;
}

-- no more numbers than before
pub few_numbers : (old new : List (Option Rule)) → KeepsNumbers old new → length new ≤ length old
few_numbers old new (inl same) = omega (arith, ap length same)
few_numbers old new (inr anew) = omega (arith, ap length anew, length-map (there old) Some, live_most old)
