-- A theory that was loaded is that of its tables, once it is known which rules stand below and above others.
use Rattle.std.proofs.Common.{◌≡◌, ◌<◌, ◌≤◌, ℕ, true, Option, None, Some, List, [], ◌∷◌, length, get_or, map, refl, sym, ap, subst, ◌∙◌, arith, true≢false}
use Rattle.std.specs.Prelude.{All, Contains, IsSome, is_some, option_map, unwrap_or}
use Rattle.std.proofs.Math.ListN.{length-map}
use Rattle.std.proofs.lemmas.List.{get_or-map}
use Rattle.std.proofs.lemmas.List.Elements.{All-nil, All-cons, All-head, All-tail, All-map, All-weaker, All-contains, Contains-get_or}
use Rattle.std.proofs.lemmas.Option.{slice_get-get_or, slice_get_within, get_or_from_slice_get}
use Rattle.dl_base.specs.Paths.{IsDistinct}
use Rattle.dl_base.proofs.Members.{map_agree}
use Rattle.dl_lit.specs.declared.literal.Literal.{Literal}
use Rattle.dl_sup.specs.declared.link.Link.{Link}
use Rattle.dl_theory.specs.declared.rule.Rule.{Rule}
use Rattle.dl_theory.specs.Lists.{IsWellFormed}
use Rattle.dl_theory.specs.Pairs.{named, IsWithin as IsPairWithin}
use Rattle.dl_rows.specs.There.{there}
use Rattle.dl_names.specs.Paired.{IsPaired, number_in}
use Rattle.dl_names.proofs.NameLemmas.{number_at}
use Rattle.dl_rules.specs.Lines.{Line, IndexLists, no_line, no_index, IsThere, IsWithin, IsThereWithin}
use Rattle.dl_rules.proofs.ThereLemmas.{there_within}
use Rattle.dl_lists.specs.Last.{IsLast}
use Rattle.dl_graph.specs.Numbers.{NetLists, IsNumbered, HasRule, rule_at, no_rule, no_literal, of_rule, lowers_row, uppers_row}
use Rattle.dl_graph.specs.Named.{HasLiterals, line_in}
use Rattle.dl_graph.specs.Tables.{TableLists, AreTables, HasTables, literal_in, rule_from, rules_from, net_of}
use Rattle.dl_graph.proofs.TableLemmas.{rules_at}
use Rattle.dl_net.specs.Linking.{HaveRules, AreRules, ArePairs, pair_at}
use Rattle.dl_net.specs.Loading.{LoadedLists, IsLoading, tables_of, theory_in}
use Rattle.dl_net.proofs.NetLemmas.{numbered_by}
use Rattle.dl_net.proofs.NumberedLemmas.{has_some, pairs_read, facts_read, facts_named, labels_from}

-- ---- rules of numbers

module _ (ls : List Literal) where
  literals_within : (ns : List ℕ) → All (λ n. n < length ls) ns → All (Contains ls) (map (literal_in ls) ns)
  literals_within ns w =
      All-map (Contains ls) (literal_in ls) ns
      (All-weaker (λ n. n < length ls) (λ n. Contains ls (literal_in ls n)) (λ n lt. Contains-get_or ls n no_literal lt) ns w)

  rules_named : (ks : List (List ℕ)) (lines : List (Option Line)) → All (IsThereWithin (length ls)) lines → All (HasLiterals ls) (there (rules_from ls ks lines))
  rules_named [] lines w = All-nil (HasLiterals ls)
  rules_named (k ∷ ks) [] w = All-nil (HasLiterals ls)
  rules_named (k ∷ ks) (None ∷ lines) w = rules_named ks lines (All-tail (IsThereWithin (length ls)) None lines w)
  rules_named (k ∷ ks) (Some l ∷ lines) w =
      let here : IsWithin (length ls) l = (All-head (IsThereWithin (length ls)) (Some l) lines w).1 in
      All-cons (HasLiterals ls) (rule_from ls k l) (there (rules_from ls ks lines))
      (Contains-get_or ls l.head no_literal here.0, literals_within l.body here.1)
      (rules_named ks lines (All-tail (IsThereWithin (length ls)) (Some l) lines w))

  module _ (distinct : IsDistinct ls) where
    numbers_back : (ns : List ℕ) → All (λ n. n < length ls) ns → map (number_in ls) (map (literal_in ls) ns) ≡ ns
    numbers_back [] w = refl
    numbers_back (n ∷ ns) w =
        λ i. number_at ls n no_literal distinct (All-head (λ m. m < length ls) n ns w) i ∷ numbers_back ns (All-tail (λ m. m < length ls) n ns w) i

    line_back : (k : List ℕ) (l : Line) → IsWithin (length ls) l → line_in ls (rule_from ls k l) ≡ l
    line_back k l w = λ i. record { kind = l.kind; head = number_at ls l.head no_literal distinct w.0 i; body = numbers_back l.body w.1 i }

    lines_back : (ks : List (List ℕ)) (lines : List (Option Line)) → length ks ≡ length lines → All (IsThereWithin (length ls)) lines
        → lines ≡ map (option_map (line_in ls)) (rules_from ls ks lines)
    lines_back [] [] e w = refl
    lines_back [] (l ∷ lines) e w = absurd (omega (arith, e))
    lines_back (k ∷ ks) [] e w = absurd (omega (arith, e))
    lines_back (k ∷ ks) (None ∷ lines) e w = absurd (true≢false (sym (All-head (IsThereWithin (length ls)) None lines w).0))
    lines_back (k ∷ ks) (Some l ∷ lines) e w = λ i.
        Some (sym (line_back k l (All-head (IsThereWithin (length ls)) (Some l) lines w).1) i)
        ∷ lines_back ks lines (omega (arith, e)) (All-tail (IsThereWithin (length ls)) (Some l) lines w) i

-- in a list without repeats each item stands last
last_in : (ks : List (List ℕ)) → IsDistinct ks → (n : ℕ) → n < length ks → IsLast ks (get_or ks n []) n
last_in ks distinct n lt = record {
  has = slice_get-get_or ks n [] lt;
  none_later = λ m later e.
      distinct n m [] later (slice_get_within ks m (get_or ks n []) e) (sym (get_or_from_slice_get ks m (get_or ks n []) [] e));
}

empty_map : {X Y : Type 0} (f : X → Y) (xs : List X) → map {B = List ℕ} (λ _. []) (map f xs) ≡ map (λ _. []) xs
empty_map f [] = refl
empty_map f (x ∷ xs) = ap (λ (ls : List (List ℕ)). [] ∷ ls) (empty_map f xs)

-- the number of a rule that is there
pub there_at : (w : ℕ) (lines : List (Option Line)) → All (IsThereWithin w) lines → (n : ℕ) → n < length lines → IsThere lines n
there_at w lines h n lt = (h n None lt).0

-- ---- the net of what was loaded

module _ (a : LoadedLists) (h : IsLoading a) (distinct : IsDistinct a.names) (paired : IsPaired a.names) where
  abbrev N : NetLists
  N = net_of (tables_of a)

  literals_there : All (HasLiterals a.names) (theory_in a).rules
  literals_there = rules_named a.names a.labels a.lines h.lines

  numbered : IsNumbered N
  numbered = numbered_by N distinct paired (facts_named a h) literals_there refl refl refl

  pub are_rules : (lines : List (Option Line)) → lines ≡ a.lines → AreRules N a.names lines
  are_rules lines e = record {
    names = refl;
    numbered = numbered;
    distinct = h.formed.labels_distinct;
    are = e ∙ lines_back a.names distinct a.labels a.lines h.as_long h.lines;
  }

  -- no rule stands below or above another yet
  pub empty_rows : map {B = List ℕ} (λ _. []) a.lines ≡ map (λ _. []) N.rules
  empty_rows =
      ap (map (λ _. [])) (lines_back a.names distinct a.labels a.lines h.as_long h.lines) ∙ empty_map (option_map (line_in a.names)) N.rules

  rule_read : (n : ℕ) → n < length a.labels → get_or N.rules n None ≡ Some (rule_from a.names (get_or a.labels n []) (unwrap_or (get_or a.lines n None) no_line))
  rule_read n lt =
      rules_at a.names a.labels a.lines n h.as_long ∙ by (get_or a.lines n None) (there_at (length a.names) a.lines h.lines n (omega (arith, lt, h.as_long)))
    where
      by : (o : Option Line) → IsSome o → option_map (rule_from a.names (get_or a.labels n [])) o ≡ Some (rule_from a.names (get_or a.labels n []) (unwrap_or o no_line))
      by None at = absurd (true≢false (sym at))
      by (Some l) at = refl

  has_rule : (n : ℕ) → n < length a.labels → HasRule N n
  has_rule n lt = ap is_some (rule_read n lt)

  label_read : (n : ℕ) → n < length a.labels → get_or a.labels n [] ≡ (rule_at N n).label
  label_read n lt = sym (ap (λ (o : Option Rule). (unwrap_or o no_rule).label) (rule_read n lt))

  pub are_pairs : ArePairs N a.pairs
  are_pairs = record {
    are = pairs_read a
        ∙ map_agree (named a.labels) (pair_at N) a.pairs
        (All-weaker (IsPairWithin a.labels) (λ l. named a.labels l ≡ pair_at N l)
        (λ l w i. record { upper = label_read l.upper w.0 i; lower = label_read l.lower w.1 i }) a.pairs h.pairs);
    there = All-weaker (IsPairWithin a.labels) (λ l. HasRule N l.upper × HasRule N l.lower) (λ l w. (has_rule l.upper w.0, has_rule l.lower w.1)) a.pairs h.pairs;
  }

  pub have_rules : HaveRules a.lines a.pairs
  have_rules =
      All-weaker (IsPairWithin a.labels) (λ l. IsThere a.lines l.upper × IsThere a.lines l.lower)
      (λ l w. (
        there_at (length a.names) a.lines h.lines l.upper (omega (arith, w.0, h.as_long)),
        there_at (length a.names) a.lines h.lines l.lower (omega (arith, w.1, h.as_long)),
      )) a.pairs h.pairs

  pub labels_few : length a.labels ≤ 1000000
  labels_few = omega (arith, h.formed.few_rules, ap length (labels_from a h), length-map (theory_in a).rules (λ r. r.label))

  pub order_distinct : IsDistinct a.order
  order_distinct i j d before within same =
      let facts : IsDistinct (map (literal_in a.names) a.order) = subst (λ (qs : List Literal). IsDistinct qs) (facts_read a) h.formed.facts_distinct in
      facts i j (literal_in a.names d) before (omega (arith, within, length-map a.order (literal_in a.names)))
      (get_or-map (literal_in a.names) a.order i d (literal_in a.names d) (omega (arith, before, within))
      ∙ ap (literal_in a.names) same
      ∙ sym (get_or-map (literal_in a.names) a.order j d (literal_in a.names d) within))

  module _ (x : IndexLists) (lines : x.lines ≡ a.lines) where
    abbrev pub with_index : TableLists
    with_index = record (tables_of a) { index = x }

    pub same_net : net_of with_index ≡ N
    same_net = ap (λ (ls : List (Option Line)). net_of (record (tables_of a) { index = record no_index { lines = ls } })) lines

    -- the tables stand for the theory
    pub are_tables : x.lowers ≡ map (of_rule (lowers_row N)) N.rules → x.uppers ≡ map (of_rule (uppers_row N (λ _. true))) N.rules → AreTables with_index
    are_tables lowers uppers = record {
      as_long = h.as_long ∙ sym (ap length lines);
      facts_within = λ q n has. All-contains (λ m. m < length a.names) a.order q h.order (has_some a.order q n has);
      formed = subst IsWellFormed (sym (ap (λ (M : NetLists). M.theory) same_net)) h.formed;
      numbered = subst IsNumbered (sym same_net) numbered;
      paired = paired;
      tables = subst (λ (M : NetLists). HasTables M a.marks x) (sym same_net)
          (record {
            facts_named = facts_named a h;
            rules_named = literals_there;
            facts = h.marks;
            index = record { lines = (are_rules x.lines lines).are; lowers = lowers; uppers = uppers };
          });
      latest = λ n at.
          last_in a.labels (subst (λ (ks : List (List ℕ)). IsDistinct ks) (labels_from a h) h.formed.labels_distinct) n
          (omega (arith, there_within x.lines n at, ap length lines, h.as_long));
      joined = λ l n has.
          subst (λ (ls : List (Option Line)). IsThere ls l.upper × IsThere ls l.lower) (sym lines)
          (All-contains (λ (k : Link). IsThere a.lines k.upper × IsThere a.lines k.lower) a.pairs l have_rules (has_some a.pairs l n has));
    }
