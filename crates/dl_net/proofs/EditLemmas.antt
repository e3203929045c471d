-- What an edit of tables, and its preparation, leave.
use Rattle.std.proofs.Common.{◌≡◌, ℕ, Bool, not, Option, None, Some, List, [], get_or, set, map, refl, sym, ap, subst, ◌∙◌}
use Rattle.std.specs.Prelude.{filter, option_map}
use Rattle.dl_base.specs.Paths.{IsDistinct}
use Rattle.dl_lit.specs.declared.literal.Literal.{Literal}
use Rattle.dl_sup.specs.declared.link.Link.{Link}
use Rattle.dl_sup.specs.Links.{names_item}
use Rattle.dl_theory.specs.declared.edit.Edit.{Edit}
use Rattle.dl_theory.specs.declared.edit.Edit.TheVariants.{DropRule}
use Rattle.dl_theory.specs.Edits.{IsAccepted, after_edit}
use Rattle.dl_rows.specs.Tables.{drop_item}
use Rattle.dl_rows.specs.There.{there, kept_if}
use Rattle.dl_rows.proofs.There.{there_filter}
use Rattle.dl_rules.specs.Lines.{IndexLists, IsThere}
use Rattle.dl_lists.specs.Pairs.{PairLists}
use Rattle.dl_names.specs.Paired.{IsPaired, IsNear, Grows}
use Rattle.dl_names.proofs.NameLemmas.{Grows-none}
use Rattle.dl_graph.specs.Named.{HasFacts}
use Rattle.dl_graph.specs.Tables.{TableLists, AreTables, rules_of, theory_of, net_of}
use Rattle.dl_net.specs.declared.tables.Tables.{Tables}
use Rattle.dl_net.specs.Kept.{AreKept, AreSettled, HasOrder, KeepsTables, MakesEdit, lists_of, theory_in, rules_after}
use Rattle.dl_net.proofs.DropLemmas.{without_rule, rules_without, theory_without, tables_without}
use Rattle.dl_net.proofs.NetLemmas.{HasSame, names_distinct, net_grown, tables_grown}

-- an order that stays, of pairs that stay
pub order_same : (o o' : Option (List Link)) (pairs pairs' : List (Option Link)) (ready ready' : Option Link) → o' ≡ o → pairs' ≡ pairs → ready' ≡ ready
    → HasOrder o pairs ready → HasOrder o' pairs' ready'
order_same o o' pairs pairs' ready ready' eo ep er h =
    subst (λ (r : Option Link). HasOrder o' pairs' r) (sym er)
    (subst (λ (ps : List (Option Link)). HasOrder o' ps ready) (sym ep) (subst (λ (v : Option (List Link)). HasOrder v pairs ready) (sym eo) h))

-- an order of which the pairs of a rule go
pub order_left : (k : ℕ) (o : Option (List Link)) (pairs : List (Option Link)) (ready : Option Link) → ready ≡ None → HasOrder o pairs ready
    → HasOrder (option_map (filter (λ p. not (names_item k p))) o) (map (kept_if (λ p. not (names_item k p))) pairs) None
order_left k None pairs ready none h = tt
order_left k (Some order) pairs ready none h =
    ap (filter (λ p. not (names_item k p))) (subst (HasOrder (Some order) pairs) none h) ∙ sym (there_filter (λ p. not (names_item k p)) pairs)

-- names may grow, and all else stays
pub keeps_with : (qs : List Literal) (old new : Tables) → AreKept old → HasSame (lists_of old) (lists_of new) → IsDistinct new.names.literals → IsPaired new.names.literals
    → Grows (IsNear qs) old.names.literals new.names.literals
    → (HasFacts new.names.literals (theory_in old).facts old.marks.items → HasFacts new.names.literals (theory_in old).facts new.marks.items)
    → HasOrder new.order new.pairs.items new.pairs.ready → KeepsTables qs old new
keeps_with qs old new h same distinct paired grows marks order = record {
  kept = record { tables = tables_grown (IsNear qs) (lists_of old) (lists_of new) h.tables same distinct paired grows marks; order = order };
  net = net_grown (IsNear qs) (lists_of old) (lists_of new) h.tables same distinct paired grows;
  names = grows;
}

-- names and marks stay too
pub keeps_all : (old new : Tables) → AreKept old → HasSame (lists_of old) (lists_of new) → new.names.literals ≡ old.names.literals → new.marks.items ≡ old.marks.items
    → HasOrder new.order new.pairs.items new.pairs.ready → KeepsTables [] old new
keeps_all old new h same names marks order =
    keeps_with [] old new h same
    (subst (λ (ls : List Literal). IsDistinct ls) (sym names) (names_distinct (net_of (lists_of old)) h.tables.numbered))
    (subst (λ (ls : List Literal). IsPaired ls) (sym names) h.tables.paired)
    (subst (λ (ls : List Literal). Grows (IsNear []) old.names.literals ls) (sym names) (Grows-none (IsNear []) old.names.literals))
    (subst (λ (ms : List Bool). HasFacts new.names.literals (theory_in old).facts ms) (sym marks)) order

-- an edit, by the lists after it
pub made : (old new : Tables) (e : Edit) (t : TableLists) → lists_of new ≡ t → AreTables t → theory_of t ≡ after_edit (theory_in old) e
    → rules_of t ≡ rules_after (rules_of (lists_of old)) e → new.names.literals ≡ old.names.literals → HasOrder new.order new.pairs.items new.pairs.ready → AreSettled new
    → MakesEdit old e new
made old new e t is tables theory rules names order settled = record {
  kept = record { tables = subst (λ (u : TableLists). AreTables u) (sym is) tables; order = order };
  theory = ap theory_of is ∙ theory;
  rules = ap rules_of is ∙ rules;
  names = names;
  settled = settled;
}

-- a rule that goes
pub rule_goes : (old : Tables) → AreKept old → (label : List ℕ) (k : ℕ) → IsThere old.index.lines k → get_or old.labels.labels k [] ≡ label → AreSettled old
    → IsAccepted (theory_in old) (DropRule label) → (x : IndexLists) → x.lines ≡ set old.index.lines k None → x.lowers ≡ set (map (drop_item k) old.index.lowers) k []
    → x.uppers ≡ set (map (drop_item k) old.index.uppers) k [] → (pairs : PairLists) → pairs.items ≡ map (kept_if (λ p. not (names_item k p))) old.pairs.items
    → pairs.ready ≡ None → (order : Option (List Link)) → order ≡ option_map (filter (λ p. not (names_item k p))) old.order
    → MakesEdit old (DropRule label) (record old { pairs = pairs; index = x; order = order })
rule_goes old h label k there is settled accepted x lines lowers uppers pairs items ready order left =
    let t : TableLists = lists_of old in
    made old (record old { pairs = pairs; index = x; order = order }) (DropRule label) (without_rule t k x) (λ i. record t { pairs = items i; index = x })
    (tables_without t h.tables label k there is x lines lowers uppers accepted)
    (theory_without t h.tables label k there is x lines lowers uppers)
    (rules_without t h.tables label k there is x lines lowers uppers)
    refl
    (order_same (option_map (filter (λ p. not (names_item k p))) old.order) order (without_rule t k x).pairs pairs.items None pairs.ready left items ready
    (order_left k old.order old.pairs.items old.pairs.ready settled.pair h.order))
    (record { label = settled.label; pair = ready })
