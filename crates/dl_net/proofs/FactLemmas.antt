-- Tables with a fact more, and with a fact less.
use Rattle.std.proofs.Common.{◌≡◌, ◌<◌, ℕ, Bool, true, false, not, Option, None, Some, List, [], ◌∷◌, ◌++◌, length, set, refl, sym, ap, subst, ◌∙◌, inl, inr, arith}
use Rattle.std.specs.Prelude.{All, Contains, filter, option_map}
use Rattle.std.proofs.lemmas.List.{map-append, map-set}
use Rattle.std.proofs.lemmas.List.Elements.{All-push, All-filter}
use Rattle.dl_base.specs.Paths.{IsDistinct}
use Rattle.dl_base.proofs.Members.{Contains-mapped, mapped_from}
use Rattle.dl_lit.specs.declared.literal.Literal.{Literal}
use Rattle.dl_lit.specs.Literal.{literal_eq}
use Rattle.dl_lit.specs.Order.{literal_eq-Decides}
use Rattle.dl_theory.specs.declared.edit.Edit.TheVariants.{AddFact, DropFact}
use Rattle.dl_theory.specs.Lists.{TheoryLists, IsWellFormed}
use Rattle.dl_theory.specs.Edits.{IsAccepted, after_edit}
use Rattle.dl_theory.proofs.WellFormed.{edit_keeps}
use Rattle.dl_rows.specs.There.{there, HasNumber}
use Rattle.dl_rows.proofs.There.{push_has, drop_has, there_has, there_map, there_push, there_drop, distinct_once}
use Rattle.dl_names.specs.Paired.{number_in}
use Rattle.dl_names.proofs.NameLemmas.{number_at, number_within}
use Rattle.dl_graph.specs.Numbers.{no_literal}
use Rattle.dl_graph.specs.Named.{HasFacts}
use Rattle.dl_graph.specs.Tables.{TableLists, AreTables, literal_in, facts_of, theory_of, net_of}
use Rattle.dl_graph.proofs.ReadLemmas.{slot_map}
use Rattle.dl_net.proofs.NetLemmas.{names_distinct, numbered_by, facts_left}
use Rattle.dl_net.proofs.JoinLemmas.{facts_joined}

abbrev pub with_fact : TableLists → ℕ → TableLists
with_fact t n = record t { facts = t.facts ++ Some n ∷ []; marks = set t.marks n true }

-- the fact with number k, whose literal has number n, is gone
abbrev pub without_fact : TableLists → ℕ → ℕ → TableLists
without_fact t n k = record t { facts = set t.facts k None; marks = set t.marks n false }

-- tables of which facts and marks were changed
module _ (t : TableLists) (h : AreTables t) (facts : List (Option ℕ)) (marks : List Bool) where
  abbrev changed : TableLists
  changed = record t { facts = facts; marks = marks }

  tables_changed : ((q n : ℕ) → HasNumber facts q n → q < length t.names) → IsWellFormed (theory_of changed) → All (Contains t.names) (there (facts_of changed))
      → HasFacts t.names (there (facts_of changed)) marks → AreTables changed
  tables_changed within formed named are = record {
    as_long = h.as_long;
    facts_within = within;
    formed = formed;
    numbered = numbered_by (net_of changed) (names_distinct (net_of t) h.numbered) h.paired named h.tables.rules_named refl refl refl;
    paired = h.paired;
    tables = record {
      facts_named = named;
      rules_named = h.tables.rules_named;
      facts = are;
      index = record { lines = h.tables.index.lines; lowers = h.tables.index.lowers; uppers = h.tables.index.uppers };
    };
    latest = h.latest;
    joined = h.joined;
  }

module _ (t : TableLists) (h : AreTables t) (q : Literal) (n : ℕ) (named : Contains t.names q) (is : n ≡ number_in t.names q) where
  distinct : IsDistinct t.names
  distinct = names_distinct (net_of t) h.numbered

  stands_for : literal_in t.names n ≡ q
  stands_for = ap (literal_in t.names) is ∙ (number_within t.names q distinct named).1 no_literal

  n_within : n < length t.names
  n_within = omega (arith, is, (number_within t.names q distinct named).0)

  -- the number is that of a fact where the literal is one
  pub fact_listed : Contains (there t.facts) n → Contains (theory_of t).facts q
  fact_listed m =
      subst (λ (x : Literal). Contains (theory_of t).facts x) stands_for
      (subst (λ (xs : List Literal). Contains xs (literal_in t.names n)) (sym (there_map (literal_in t.names) t.facts))
      (Contains-mapped (literal_in t.names) (there t.facts) n m))

  pub fact_numbered : Contains (theory_of t).facts q → Contains (there t.facts) n
  fact_numbered m =
      let from =
      mapped_from (literal_in t.names) (there t.facts) q (subst (λ (xs : List Literal). Contains xs q) (there_map (literal_in t.names) t.facts) m) in
      let at = there_has t.facts from.0 from.1 in
      let same : from.0 ≡ n =
      sym (number_at t.names from.0 no_literal distinct (h.facts_within from.0 at.0 at.1)) ∙ ap (number_in t.names) from.2 ∙ sym is in
      subst (λ (k : ℕ). Contains (there t.facts) k) same from.1

  -- ---- one more

  facts_with : there (facts_of (with_fact t n)) ≡ (theory_of t).facts ++ q ∷ []
  facts_with =
      ap there (map-append (option_map (literal_in t.names)) t.facts (Some n ∷ []))
      ∙ there_push (facts_of t) (literal_in t.names n)
      ∙ ap (λ (x : Literal). (theory_of t).facts ++ x ∷ []) stands_for

  pub theory_with : theory_of (with_fact t n) ≡ after_edit (theory_of t) (AddFact q)
  theory_with = λ i. record (theory_of t) { facts = facts_with i }

  within_with : (p k : ℕ) → HasNumber (t.facts ++ Some n ∷ []) p k → p < length t.names
  within_with p k has =
      elim (push_has t.facts (Some n) p k has) [
        | inl old ↦ h.facts_within p k old
        | inr new ↦ let same : n ≡ p = cc in omega (arith, same, n_within)
      ]

  pub tables_with : IsAccepted (theory_of t) (AddFact q) → n < length t.marks → AreTables (with_fact t n)
  tables_with accepted room =
      tables_changed t h (t.facts ++ Some n ∷ []) (set t.marks n true) within_with
      (subst (λ (T : TheoryLists). IsWellFormed T) (sym theory_with) (edit_keeps (theory_of t) (AddFact q) h.formed accepted))
      (subst (λ (qs : List Literal). All (Contains t.names) qs) (sym facts_with) (All-push (Contains t.names) (theory_of t).facts q h.tables.facts_named named))
      (subst (λ (qs : List Literal). HasFacts t.names qs (set t.marks n true)) (sym facts_with)
      (subst (λ (k : ℕ). HasFacts t.names ((theory_of t).facts ++ q ∷ []) (set t.marks k true)) (sym is)
      (facts_joined t.names (theory_of t).facts t.marks q distinct named (omega (arith, is, room)) h.tables.facts)))

  -- ---- one less

  module _ (k : ℕ) (has : HasNumber t.facts n k) where
    literal_at_k : HasNumber (facts_of t) q k
    literal_at_k =
        slot_map (literal_in t.names) t.facts k ∙ ap (option_map (literal_in t.names)) has ∙ ap Some stands_for

    facts_without : there (facts_of (without_fact t n k)) ≡ filter (λ x. not (literal_eq x q)) (theory_of t).facts
    facts_without =
        ap there (map-set (option_map (literal_in t.names)) t.facts k None)
        ∙ there_drop literal_eq literal_eq-Decides (facts_of t) q k (distinct_once (facts_of t) h.formed.facts_distinct) literal_at_k

    pub theory_without : theory_of (without_fact t n k) ≡ after_edit (theory_of t) (DropFact q)
    theory_without = λ i. record (theory_of t) { facts = facts_without i }

    pub tables_without : IsAccepted (theory_of t) (DropFact q) → AreTables (without_fact t n k)
    tables_without accepted =
        tables_changed t h (set t.facts k None) (set t.marks n false) (λ p j at. h.facts_within p j (drop_has t.facts k p j at).0)
        (subst (λ (T : TheoryLists). IsWellFormed T) (sym theory_without) (edit_keeps (theory_of t) (DropFact q) h.formed accepted))
        (subst (λ (qs : List Literal). All (Contains t.names) qs) (sym facts_without)
        (All-filter (λ x. not (literal_eq x q)) (Contains t.names) (theory_of t).facts h.tables.facts_named))
        (subst (λ (qs : List Literal). HasFacts t.names qs (set t.marks n false)) (sym facts_without)
        (subst (λ (j : ℕ). HasFacts t.names (filter (λ x. not (literal_eq x q)) (theory_of t).facts) (set t.marks j false)) (sym is)
        (facts_left t.names (theory_of t).facts t.marks q distinct named h.tables.facts)))
