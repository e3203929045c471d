-- Tables with a pair more, and with a pair less, and why a pair is refused.
use Rattle.std.proofs.Common.{inl, inr, ◌≡◌, ℕ, ◌<◌, ◌≤◌, true, false, not, Option, None, Some, List, [], ◌∷◌, ◌++◌, length, set, map, filter, refl, sym, ap, subst, ◌∙◌, arith}
use Rattle.std.specs.Prelude.{All, Contains, option_map, unwrap_or}
use Rattle.std.proofs.lemmas.List.{map-append, length-map}
use Rattle.std.proofs.lemmas.List.Elements.{All-contains, All-weaker}
use Rattle.dl_base.specs.Paths.{IsDistinct, IsPath, HasCycle}
use Rattle.dl_base.proofs.Members.{Contains-mapped}
use Rattle.dl_sup.specs.declared.link.Link.{Link}
use Rattle.dl_sup.specs.declared.stop.SupStop.TheVariants as sup_stop
use Rattle.dl_sup.specs.Links.{IsOver, IsOrder, same_link}
use Rattle.dl_sup.specs.Adding.{IsAddable, IsSupStop, ClosesCycle}
use Rattle.dl_theory.specs.declared.rule.Rule.{Rule}
use Rattle.dl_theory.specs.declared.rule.Pair.{Pair}
use Rattle.dl_theory.specs.declared.edit.Edit.TheVariants.{AddPair, DropPair}
use Rattle.dl_theory.specs.declared.edit.EditRefusal.TheVariants.{NoLabel, PairThere, Cycle, PairsFull}
use Rattle.dl_theory.specs.Lists.{TheoryLists, IsWellFormed, IsAbove, labels}
use Rattle.dl_theory.specs.Edits.{IsAccepted, IsMissing, IsRefused, after_edit}
use Rattle.dl_theory.specs.Pairs.{pair_eq, Closes, label_at, named}
use Rattle.dl_theory.proofs.Numbers.{same_link-Decides, without_pushed}
use Rattle.dl_theory.proofs.WellFormed.{edit_keeps}
use Rattle.dl_rows.specs.There.{there, HasNumber}
use Rattle.dl_rows.specs.Tables.{drop_item, list_of}
use Rattle.dl_rows.proofs.There.{has_there, there_has, push_has, drop_has, distinct_once, there_map, there_push, there_drop}
use Rattle.dl_lists.specs.Pairs.{PairLists, no_pairs}
use Rattle.dl_rules.specs.Lines.{Line, IndexLists, KeepsRules, IsThere, line_at}
use Rattle.dl_graph.specs.Above.{lower_step, upper_step}
use Rattle.dl_graph.specs.Numbers.{NetLists, of_rule, lowers_row, uppers_row}
use Rattle.dl_graph.specs.Tables.{TableLists, AreTables, HasIndex, net_of, theory_of, rules_of, rules_from}
use Rattle.dl_graph.proofs.LabelLemmas.{label_once}
use Rattle.dl_graph.proofs.TableLemmas.{label_here, label_within, line_named, rule_is_there}
use Rattle.dl_net.specs.declared.tables.Tables.{Tables}
use Rattle.dl_net.specs.Kept.{AreKept, AreSettled, HasOrder, HasPairRoom, KeepsTables, MakesEdit, lists_of, meets, theory_in}
use Rattle.dl_net.specs.Linking.{AreRules, IsPairOf}
use Rattle.dl_net.specs.PairEdits.{HasRules, IsLinkOf}
use Rattle.dl_net.proofs.AboveLemmas.{lowers_joined, lowers_none, uppers_joined, uppers_none}
use Rattle.dl_net.proofs.EditLemmas.{keeps_all, made}
use Rattle.dl_net.proofs.NetLemmas.{names_distinct}
use Rattle.dl_net.proofs.OrderLemmas.{path_named, track_known, not_closing, old_link, order_numbered, links_without}
use Rattle.dl_net.proofs.RuleLemmas.{has_label}
use Rattle.dl_net.proofs.PairEditLemmas.{rows_more, lowers_unlinked, uppers_unlinked}

module _ (a : TableLists) (h : AreTables a) where
  apart : (m n : ℕ) → IsThere a.index.lines m → IsThere a.index.lines n → label_at a.labels m ≡ label_at a.labels n → m ≡ n
  apart m n hm hn e =
      let rm = rule_is_there a h m hm in
      let rn = rule_is_there a h n hn in
      label_once (net_of a) h.numbered h.formed.labels_distinct m n rm rn (label_here a h m rm ∙ e ∙ sym (label_here a h n rn))

  pub head_within : (n : ℕ) → IsThere a.index.lines n → (line_at a.index.lines n).head < length a.names
  head_within n at = (line_named a h n at).0

  known : (l : Link) → Contains (there a.pairs) l → HasRules a.index.lines l
  known l m = let at = there_has a.pairs l m in h.joined l at.0 at.1

  pairs_are : (theory_of a).pairs ≡ map (named a.labels) (there a.pairs)
  pairs_are = there_map (named a.labels) a.pairs

  -- the pairs are an order
  pub pairs_order : IsOrder (there a.pairs)
  pairs_order =
      order_numbered a.labels (IsThere a.index.lines) apart (there a.pairs) known
      (subst (λ (ps : List Pair). IsDistinct ps) pairs_are h.formed.pairs_distinct)
      (subst (λ (ps : List Pair). ¬ HasCycle (IsAbove ps)) pairs_are h.formed.acyclic)

  -- ---- a pair of rules

  module _ (l : Link) (at : HasRules a.index.lines l) where
    -- a pair is there where its pair of numbers is
    pub pair_there : Contains (there a.pairs) l → Contains (theory_of a).pairs (named a.labels l)
    pair_there m =
        subst (λ (ps : List Pair). Contains ps (named a.labels l)) (sym pairs_are) (Contains-mapped (named a.labels) (there a.pairs) l m)

    pub link_there : Contains (theory_of a).pairs (named a.labels l) → Contains (there a.pairs) l
    link_there m =
        old_link a.labels (IsThere a.index.lines) apart (there a.pairs) known l at.0 at.1
        (subst (λ (ps : List Pair). Contains ps (named a.labels l)) pairs_are m)

    open_yet : (¬ ClosesCycle (there a.pairs) l) → ¬ Closes (theory_of a).pairs (named a.labels l)
    open_yet none =
        subst (λ (ps : List Pair). ¬ Closes ps (named a.labels l)) (sym pairs_are)
        (not_closing a.labels (IsThere a.index.lines) apart (there a.pairs) known l at.0 at.1 none)

    pub accepted : IsAddable (there a.pairs) l → length (there a.pairs) < 1000000 → IsAccepted (theory_of a) (AddPair (named a.labels l))
    accepted free room = (
      has_label a h l.upper at.0,
      has_label a h l.lower at.1,
      λ m. free.0 (link_there m),
      open_yet free.1,
      omega (arith, room, ap length pairs_are, length-map (there a.pairs) (named a.labels)),
    )

    pub full : IsAddable (there a.pairs) l → 1000000 ≤ length (there a.pairs) → IsRefused (theory_of a) (AddPair (named a.labels l)) PairsFull
    full free many = (
      has_label a h l.upper at.0,
      has_label a h l.lower at.1,
      λ m. free.0 (link_there m),
      open_yet free.1,
      omega (arith, many, ap length pairs_are, length-map (there a.pairs) (named a.labels)),
    )

    pub refused_there : IsOver (there a.pairs) l.upper l.lower → IsRefused (theory_of a) (AddPair (named a.labels l)) PairThere
    refused_there m = (has_label a h l.upper at.0, has_label a h l.lower at.1, pair_there m)

    pub track_within : (track : List ℕ) → IsPath (IsOver (there a.pairs)) l.lower l.upper track → All (λ n. n < length a.labels) track
    track_within track path =
        All-weaker (IsThere a.index.lines) (λ n. n < length a.labels) (label_within a h) track
        (track_known a.labels (IsThere a.index.lines) apart (there a.pairs) known l track at.1 path)

    pub refused_cycle : (track : List ℕ) (path : List (List ℕ)) → IsSupStop (there a.pairs) l (sup_stop.Cycle track)
        → path ≡ map (label_at a.labels) track → IsRefused (theory_of a) (AddPair (named a.labels l)) (Cycle path)
    refused_cycle track path stop e = (
      has_label a h l.upper at.0,
      has_label a h l.lower at.1,
      λ m. stop.0 (link_there m),
      subst (λ (xs : List (List ℕ)). IsPath (IsAbove (theory_of a).pairs) (label_at a.labels l.lower) (label_at a.labels l.upper) xs) (sym e)
          (subst (λ (ps : List Pair). IsPath (IsAbove ps) (label_at a.labels l.lower) (label_at a.labels l.upper) (map (label_at a.labels) track)) (sym pairs_are)
          (path_named a.labels (IsThere a.index.lines) apart (there a.pairs) known l track at.1 stop.1)),
    )

    -- ---- the rules below and above

    numbers : AreRules (net_of a) a.names a.index.lines
    numbers = record { names = refl; numbered = h.numbered; distinct = h.formed.labels_distinct; are = h.tables.index.lines }

    ends : IsPairOf (net_of a) (named a.labels l) l.upper l.lower
    ends =
        let upper = rule_is_there a h l.upper at.0 in
        let lower = rule_is_there a h l.lower at.1 in
        record { upper_there = upper; lower_there = lower; upper_label = label_here a h l.upper upper; lower_label = label_here a h l.lower lower }

    abbrev by_pairs : List Pair → NetLists
    by_pairs ps = record (net_of a) { theory = record (theory_of a) { pairs = ps } }

    -- one pair more
    abbrev grown : TableLists
    grown = record a { pairs = a.pairs ++ Some l ∷ [] }

    pub pairs_more : (theory_of a).pairs ++ named a.labels l ∷ [] ≡ (theory_of grown).pairs
    pairs_more =
        ap (λ (ps : List Pair). ps ++ named a.labels l ∷ []) pairs_are
        ∙ sym (there_map (named a.labels) (a.pairs ++ Some l ∷ []) ∙ ap (map (named a.labels)) (there_push a.pairs l)
        ∙ map-append (named a.labels) (there a.pairs) (l ∷ []))

    lowers_more : map (of_rule (λ t. lowers_row (net_of a) t ++ lower_step (net_of a) (named a.labels l) t)) (rules_of a) ≡ map (of_rule (lowers_row (net_of grown))) (rules_of a)
    lowers_more =
        rows_more (λ q t. lower_step (net_of a) q t) (theory_of a).pairs (named a.labels l) (rules_of a)
        ∙ ap (λ (ps : List Pair). map (of_rule (lowers_row (by_pairs ps))) (rules_of a)) pairs_more

    uppers_more : map (of_rule (λ t. uppers_row (net_of a) (λ _. true) t ++ upper_step (net_of a) (named a.labels l) t)) (rules_of a)
        ≡ map (of_rule (uppers_row (net_of grown) (λ _. true))) (rules_of a)
    uppers_more =
        rows_more (λ q t. upper_step (net_of a) q t) (theory_of a).pairs (named a.labels l) (rules_of a)
        ∙ ap (λ (ps : List Pair). map (of_rule (uppers_row (by_pairs ps) (λ _. true))) (rules_of a)) pairs_more

    pub index_linked : (x : IndexLists) → meets a.index l ≡ true → x.lines ≡ a.index.lines
        → x.lowers ≡ set a.index.lowers l.upper (list_of a.index.lowers l.upper ++ l.lower ∷ [])
        → x.uppers ≡ set a.index.uppers l.lower (list_of a.index.uppers l.lower ++ l.upper ∷ []) → HasIndex (net_of grown) x
    index_linked x met lines lowers uppers =
        let distinct : IsDistinct a.names = names_distinct (net_of a) h.numbered in
        record {
          lines = lines ∙ h.tables.index.lines;
          lowers = lowers
              ∙ ap (λ (ys : List (List ℕ)). set ys l.upper (list_of ys l.upper ++ l.lower ∷ [])) h.tables.index.lowers
              ∙ lowers_joined (net_of a) a.names a.index.lines numbers distinct h.paired (named a.labels l) l.upper l.lower ends (meets a.index l) refl met (lowers_row (net_of a))
              ∙ lowers_more;
          uppers = uppers
              ∙ ap (λ (ys : List (List ℕ)). set ys l.lower (list_of ys l.lower ++ l.upper ∷ [])) h.tables.index.uppers
              ∙ uppers_joined (net_of a) a.names a.index.lines numbers distinct h.paired (named a.labels l) l.upper l.lower ends (meets a.index l) refl met
              (uppers_row (net_of a) (λ _. true))
              ∙ uppers_more;
        }

    -- where the heads do not meet, the pair leads nowhere
    pub index_apart : meets a.index l ≡ false → HasIndex (net_of grown) a.index
    index_apart met =
        let distinct : IsDistinct a.names = names_distinct (net_of a) h.numbered in
        record {
          lines = h.tables.index.lines;
          lowers = h.tables.index.lowers
              ∙ lowers_none (net_of a) a.names a.index.lines numbers distinct h.paired (named a.labels l) l.upper l.lower ends (meets a.index l) refl met (lowers_row (net_of a))
              ∙ lowers_more;
          uppers = h.tables.index.uppers
              ∙ uppers_none (net_of a) a.names a.index.lines numbers distinct h.paired (named a.labels l) l.upper l.lower ends (meets a.index l) refl met
              (uppers_row (net_of a) (λ _. true))
              ∙ uppers_more;
        }

    -- one pair less
    module _ (n : ℕ) (has : HasNumber a.pairs l n) where
      abbrev fewer : TableLists
      fewer = record a { pairs = set a.pairs n None }

      pub links_left : there (set a.pairs n None) ≡ filter (λ q. not (same_link q l)) (there a.pairs)
      links_left = there_drop same_link same_link-Decides a.pairs l n (distinct_once a.pairs pairs_order.distinct) has

      pub pairs_left : filter (λ q. not (pair_eq q (named a.labels l))) (theory_of a).pairs ≡ (theory_of fewer).pairs
      pairs_left =
          ap (filter (λ q. not (pair_eq q (named a.labels l)))) pairs_are
          ∙ links_without a.labels (IsThere a.index.lines) apart (there a.pairs) known l at.0 at.1
          ∙ ap (map (named a.labels)) (sym links_left)
          ∙ sym (there_map (named a.labels) (set a.pairs n None))

      pub index_unlinked : (x : IndexLists) → x.lines ≡ a.index.lines
          → x.lowers ≡ set a.index.lowers l.upper (drop_item l.lower (list_of a.index.lowers l.upper))
          → x.uppers ≡ set a.index.uppers l.lower (drop_item l.upper (list_of a.index.uppers l.lower)) → HasIndex (net_of fewer) x
      index_unlinked x lines lowers uppers = record {
        lines = lines ∙ h.tables.index.lines;
        lowers = lowers
            ∙ ap (λ (ys : List (List ℕ)). set ys l.upper (drop_item l.lower (list_of ys l.upper))) h.tables.index.lowers
            ∙ sym (lowers_unlinked (net_of a) a.names a.index.lines numbers (named a.labels l) l.upper l.lower ends)
            ∙ ap (λ (ps : List Pair). map (of_rule (lowers_row (by_pairs ps))) (rules_of a)) pairs_left;
        uppers = uppers
            ∙ ap (λ (ys : List (List ℕ)). set ys l.lower (drop_item l.upper (list_of ys l.lower))) h.tables.index.uppers
            ∙ sym (uppers_unlinked (net_of a) a.names a.index.lines numbers (named a.labels l) l.upper l.lower ends)
            ∙ ap (λ (ps : List Pair). map (of_rule (uppers_row (by_pairs ps) (λ _. true))) (rules_of a)) pairs_left;
      }

-- ---- tables with other pairs

module _ (a : TableLists) (ps : List (Option Link)) (x : IndexLists) (h : AreTables a) (index : HasIndex (net_of (record a { pairs = ps })) x) where
  abbrev others : TableLists
  others = record a { pairs = ps; index = x }

  same_lines : a.index.lines ≡ x.lines
  same_lines = h.tables.index.lines ∙ sym index.lines

  pub tables_with : IsWellFormed (theory_of (record a { pairs = ps })) → ((l : Link) (n : ℕ) → HasNumber ps l n → HasRules a.index.lines l) → AreTables others
  tables_with formed joined =
      subst (λ (ls : List (Option Line)). AreTables (record a { pairs = ps; index = record x { lines = ls } })) same_lines
      (record {
        as_long = h.as_long;
        facts_within = h.facts_within;
        formed = formed;
        numbered = record {
          facts = refl;
          rules = refl;
          pairs = refl;
          distinct = h.numbered.distinct;
          mentioned = h.numbered.mentioned;
          complements = h.numbered.complements;
        };
        paired = h.paired;
        tables = record {
          facts_named = h.tables.facts_named;
          rules_named = h.tables.rules_named;
          facts = h.tables.facts;
          index = record { lines = h.tables.index.lines; lowers = index.lowers; uppers = index.uppers };
        };
        latest = h.latest;
        joined = joined;
      })

  pub rules_with : rules_of others ≡ rules_of a
  rules_with = ap (λ (ls : List (Option Line)). rules_from a.names a.labels ls) (sym same_lines)

  pub theory_with : theory_of others ≡ theory_of (record a { pairs = ps })
  theory_with = ap (λ (rs : List (Option Rule)). record (theory_of (record a { pairs = ps })) { rules = there rs }) rules_with

-- ---- the order of the pairs

order_more : (order : Option (List Link)) (ps : List (Option Link)) (l : Link) → HasOrder order ps (Some l) → HasOrder order (ps ++ Some l ∷ []) None
order_more None ps l h = tt
order_more (Some ls) ps l h = h.0 ∙ sym (there_push ps l)

order_less : (order : Option (List Link)) (ps qs : List (Option Link)) (l : Link) → there qs ≡ filter (λ q. not (same_link q l)) (there ps)
    → HasOrder order ps None → HasOrder (option_map (filter (λ q. not (same_link q l))) order) qs None
order_less None ps qs l few h = tt
order_less (Some ls) ps qs l few h = ap (filter (λ q. not (same_link q l))) h ∙ sym few

-- the pair that is prepared goes out again
pub order_forgotten : (order : Option (List Link)) (ps : List (Option Link)) (l : Link) → HasOrder order ps (Some l)
    → HasOrder (option_map (filter (λ q. not (same_link q l))) order) ps None
order_forgotten None ps l h = tt
order_forgotten (Some ls) ps l h = ap (filter (λ q. not (same_link q l))) h.0 ∙ without_pushed same_link same_link-Decides (there ps) l h.1

-- ---- the rules of a pair

-- a pair that misses a label is not there
pub no_pair : (T : TheoryLists) (p : Pair) (label : List ℕ) → IsWellFormed T → IsMissing (labels T) p (NoLabel label) → ¬ Contains T.pairs p
no_pair T p label h (inl upper) m = upper.1 (All-contains (λ q. Contains (labels T) q.upper × Contains (labels T) q.lower) T.pairs p h.pairs_label_rules m).0
no_pair T p label h (inr lower) m = lower.2 (All-contains (λ q. Contains (labels T) q.upper × Contains (labels T) q.lower) T.pairs p h.pairs_label_rules m).1

module _ (t : Tables) (k : AreKept t) (l : Link) (p : Pair) (is : IsLinkOf t l p) where
  pub pair_of_link : Contains (there t.pairs.items) l → Contains (theory_in t).pairs p
  pair_of_link m = subst (λ (q : Pair). Contains (theory_in t).pairs q) is.names (pair_there (lists_of t) k.tables l is.there m)

  pub link_of_pair : Contains (theory_in t).pairs p → Contains (there t.pairs.items) l
  link_of_pair m = link_there (lists_of t) k.tables l is.there (subst (λ (q : Pair). Contains (theory_in t).pairs q) (sym is.names) m)

-- the rules for which there is room
pub room_link : (t : Tables) (p : Pair) (l : Link) → HasPairRoom t p → t.pairs.ready ≡ Some l
    → IsLinkOf t l p × (meets t.index l ≡ true → t.index.linking ≡ Some (record { upper = l.upper; lower = l.lower }))
room_link t p l room ready =
    let same : room.link ≡ l = ap (λ (o : Option Link). unwrap_or o l) (sym room.ready ∙ ready) in
    subst (λ (q : Link). IsLinkOf t q p × (meets t.index q ≡ true → t.index.linking ≡ Some (record { upper = q.upper; lower = q.lower }))) same
    (record { names = room.names; there = (room.upper, room.lower) }, room.below)

-- ---- edits

module _ (old new : Tables) (k : AreKept old) (l : Link) (p : Pair) (is : IsLinkOf old l p) (none : new.pairs.ready ≡ None) (label : old.labels.ready ≡ None)
    (frame : new ≡ record old { pairs = new.pairs; index = new.index; order = new.order }) where
  settled : AreSettled new
  settled = record { label = ap (λ (t : Tables). t.labels.ready) frame ∙ label; pair = none }

  stays : (ps : List (Option Link)) → new.pairs.items ≡ ps → lists_of new ≡ record (lists_of old) { pairs = ps; index = new.index }
  stays ps items = ap lists_of frame ∙ ap (λ (qs : List (Option Link)). record (lists_of old) { pairs = qs; index = new.index }) items

  ordered : (ps : List (Option Link)) → new.pairs.items ≡ ps → HasOrder new.order ps None → HasOrder new.order new.pairs.items new.pairs.ready
  ordered ps items h =
      subst (HasOrder new.order new.pairs.items) (sym none) (subst (λ (qs : List (Option Link)). HasOrder new.order qs None) (sym items) h)

  -- the pair that is prepared goes last
  pub pair_put : IsAccepted (theory_in old) (AddPair p) → old.pairs.ready ≡ Some l → new.pairs.items ≡ old.pairs.items ++ old.pairs.ready ∷ []
      → new.order ≡ old.order → HasIndex (net_of (record (lists_of old) { pairs = old.pairs.items ++ Some l ∷ [] })) new.index → MakesEdit old (AddPair p) new
  pair_put accepted ready items order index =
      let ps : List (Option Link) = old.pairs.items ++ Some l ∷ [] in
      let put : new.pairs.items ≡ ps = items ∙ ap (λ (o : Option Link). old.pairs.items ++ o ∷ []) ready in
      let more : after_edit (theory_in old) (AddPair p) ≡ theory_of (record (lists_of old) { pairs = ps }) =
      ap (λ (q : Pair). after_edit (theory_in old) (AddPair q)) (sym is.names)
      ∙ ap (λ (qs : List Pair). record (theory_in old) { pairs = qs }) (pairs_more (lists_of old) k.tables l is.there) in
      made old new (AddPair p) (record (lists_of old) { pairs = ps; index = new.index }) (stays ps put)
      (tables_with (lists_of old) ps new.index k.tables index (subst IsWellFormed more (edit_keeps (theory_in old) (AddPair p) k.tables.formed accepted))
      (λ q n has. elim (push_has old.pairs.items (Some l) q n has) [
        | inl before ↦ k.tables.joined q n before
        | inr last ↦ let same : l ≡ q = cc in subst (HasRules old.index.lines) same is.there
      ]))
      (theory_with (lists_of old) ps new.index k.tables index ∙ sym more)
      (rules_with (lists_of old) ps new.index k.tables index)
      (ap (λ (t : Tables). t.names.literals) frame)
      (ordered ps put
      (subst (λ (o : Option (List Link)). HasOrder o ps None) (sym order) (order_more old.order old.pairs.items l (subst (HasOrder old.order old.pairs.items) ready k.order))))
      settled

  -- the pair goes, and leaves its number empty
  pub pair_dropped : (n : ℕ) → HasNumber old.pairs.items l n → old.pairs.ready ≡ None → new.pairs.items ≡ set old.pairs.items n None
      → new.order ≡ option_map (filter (λ q. not (same_link q l))) old.order
      → HasIndex (net_of (record (lists_of old) { pairs = set old.pairs.items n None })) new.index → MakesEdit old (DropPair p) new
  pair_dropped n has ready items order index =
      let ps : List (Option Link) = set old.pairs.items n None in
      let less : after_edit (theory_in old) (DropPair p) ≡ theory_of (record (lists_of old) { pairs = ps }) =
      ap (λ (q : Pair). after_edit (theory_in old) (DropPair q)) (sym is.names)
      ∙ ap (λ (qs : List Pair). record (theory_in old) { pairs = qs }) (pairs_left (lists_of old) k.tables l is.there n has) in
      made old new (DropPair p) (record (lists_of old) { pairs = ps; index = new.index }) (stays ps items)
      (tables_with (lists_of old) ps new.index k.tables index
      (subst IsWellFormed less (edit_keeps (theory_in old) (DropPair p) k.tables.formed (pair_of_link old k l p is (has_there old.pairs.items l n has))))
      (λ q m at. k.tables.joined q m (drop_has old.pairs.items n q m at).0))
      (theory_with (lists_of old) ps new.index k.tables index ∙ sym less)
      (rules_with (lists_of old) ps new.index k.tables index)
      (ap (λ (t : Tables). t.names.literals) frame)
      (ordered ps items
      (subst (λ (o : Option (List Link)). HasOrder o ps None) (sym order)
      (order_less old.order old.pairs.items ps l (links_left (lists_of old) k.tables l is.there n has) (subst (HasOrder old.order old.pairs.items) ready k.order))))
      settled

-- ---- preparing keeps the tables

-- the order, and what is prepared, are all that changes
pub keeps_pairs : (old : Tables) (pairs : PairLists) (x : IndexLists) (order : Option (List Link)) → AreKept old → pairs.items ≡ old.pairs.items
    → KeepsRules old.index x → HasOrder order pairs.items pairs.ready → KeepsTables [] old (record old { pairs = pairs; index = x; order = order })
keeps_pairs old pairs x order k same kept h =
    keeps_all old (record old { pairs = pairs; index = x; order = order }) k
    (record { labels = refl; facts = refl; pairs = same; lines = kept.lines; lowers = kept.lowers; uppers = kept.uppers }) refl refl h

pub keeps_rules : (x : IndexLists) → KeepsRules x x
keeps_rules x = record { lines = refl; lowers = refl; uppers = refl; wider = omega arith }

-- a pair for which there is no room is forgotten
pub pair_forgotten : (old mid new : Tables) (pairs : PairLists) (x : IndexLists) (order : Option (List Link)) → AreKept old → pairs.items ≡ old.pairs.items
    → mid ≡ record old { pairs = pairs; index = x; order = order } → KeepsRules old.index x
    → new ≡ record mid { pairs = record no_pairs { items = mid.pairs.items }; order = new.order } → HasOrder new.order mid.pairs.items None → KeepsTables [] old new
pair_forgotten old mid new pairs x before k same first kept then order =
    subst (KeepsTables [] old) (sym (then ∙ ap (λ (t : Tables). record t { pairs = record no_pairs { items = t.pairs.items }; order = new.order }) first))
    (keeps_pairs old (record no_pairs { items = pairs.items }) x new.order k same kept
    (subst (λ (ps : List (Option Link)). HasOrder new.order ps None) (ap (λ (t : Tables). t.pairs.items) first) order))

module _ (old mid : Tables) (first : mid ≡ record old { order = mid.order }) where
  pub room_kept : (x : IndexLists) → KeepsRules mid.index x → KeepsRules old.index x
  room_kept x kept = subst (λ (y : IndexLists). KeepsRules y x) (ap (λ (t : Tables). t.index) first) kept

  pub room_frame : (new : Tables) → new ≡ record mid { pairs = record no_pairs { items = mid.pairs.items; ready = new.pairs.ready }; index = new.index }
      → new ≡ record old { pairs = record no_pairs { items = old.pairs.items; ready = new.pairs.ready }; index = new.index; order = mid.order }
  room_frame new then =
      then ∙ ap (λ (t : Tables). record t { pairs = record no_pairs { items = t.pairs.items; ready = new.pairs.ready }; index = new.index; order = mid.order }) first

  -- a pair for which there is room is prepared
  pub pair_prepared : (new : Tables) (l : Link) → AreKept old → HasOrder mid.order old.pairs.items (Some l)
      → new ≡ record mid { pairs = record no_pairs { items = mid.pairs.items; ready = new.pairs.ready }; index = new.index } → KeepsRules mid.index new.index
      → new.pairs.ready ≡ Some l
      → KeepsTables [] old new
  pair_prepared new l k order then kept ready =
      subst (KeepsTables [] old) (sym (room_frame new then))
      (keeps_pairs old (record no_pairs { items = old.pairs.items; ready = new.pairs.ready }) new.index mid.order k refl (room_kept new.index kept) (subst (HasOrder mid.order old.pairs.items) (sym ready) order))
