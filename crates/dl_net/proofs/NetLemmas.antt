-- The tables of a theory, of a theory after an edit, and of more names.
use Rattle.std.proofs.Common.{◌≡◌, ◌≢◌, ◌≤◌, ◌<◌, ℕ, suc, Bool, true, false, not, Option, None, Some, List, [], ◌∷◌, length, get_or, set, map, refl, sym, ap, subst, ◌∙◌, inl, inr, arith, length-append, true≢false, get_or-set_same, get_or-set_other}
use Rattle.std.specs.Prelude.{All, Contains, filter, option_map}
use Rattle.std.specs.Str.{bytes_eq}
use Rattle.std.specs.Set.{is_member}
use Rattle.std.proofs.Math.ListN.{get_or-append, length-map, length-set}
use Rattle.std.proofs.lemmas.Bool.{cases_eq, cases_lt}
use Rattle.std.proofs.lemmas.Bool.Decides.{Decides-like, same_from_decides}
use Rattle.std.proofs.lemmas.List.{get_or_default, get_or_past}
use Rattle.std.proofs.lemmas.List.Elements.{All-contains, All-nil, All-head, All-tail, All-push, All-filter, All-weaker, filter_passes}
use Rattle.std.proofs.lemmas.Map.Made.{is_member-Decides}
use Rattle.dl_base.specs.Paths.{IsDistinct}
use Rattle.dl_base.proofs.Filters.{false_unless, Contains-kept}
use Rattle.dl_base.proofs.Members.{map_agree, Contains-filtered}
use Rattle.dl_lit.specs.declared.literal.Literal.{Literal}
use Rattle.dl_lit.specs.Literal.{complement, literal_eq}
use Rattle.dl_lit.specs.Order.{literal_eq-Decides}
use Rattle.dl_theory.specs.declared.rule.Rule.{Rule}
use Rattle.dl_theory.specs.declared.edit.Edit.{Edit}
use Rattle.dl_theory.specs.declared.edit.Edit.TheVariants.{AddRule, DropRule, AddFact, DropFact, AddPair, DropPair}
use Rattle.dl_theory.specs.declared.rule.Pair.{Pair}
use Rattle.dl_theory.specs.Lists.{TheoryLists, no_lists, IsWellFormed}
use Rattle.dl_theory.specs.Listings.{Occurs, Mentions}
use Rattle.dl_theory.specs.Edits.{after_edit}
use Rattle.dl_theory.specs.Pairs.{named}
use Rattle.dl_sup.specs.declared.link.Link.{Link}
use Rattle.dl_rows.specs.There.{there, HasNumber}
use Rattle.dl_rows.proofs.There.{there_map}
use Rattle.dl_rules.specs.Lines.{Line, IsThere, IsWithin, line_at, no_index}
use Rattle.dl_lists.specs.Last.{IsLast}
use Rattle.dl_names.specs.Paired.{IsPaired, Grows, number_in}
use Rattle.dl_names.proofs.NameLemmas.{paired_closed, complement_twice, number_at, number_within, Grows-keeps}
use Rattle.dl_graph.specs.Numbers.{NetLists, IsNumbered, no_net, no_literal, literal_at, number}
use Rattle.dl_graph.specs.Named.{HasLiterals, HasFacts, line_in}
use Rattle.dl_graph.specs.Tables.{TableLists, AreTables, HasTables, literal_in, rule_from, rules_from, facts_of, rules_of, theory_of, net_of}
use Rattle.dl_graph.proofs.TableLemmas.{line_named}
use Rattle.dl_net.specs.Edited.{HasEditLiterals}

-- ---- literals with numbers

pub names_distinct : (N : NetLists) → IsNumbered N → IsDistinct N.names
names_distinct N h i j d before within same =
    let li : i < length N.names = omega (arith, before, within) in
    let alike : literal_at N i ≡ literal_at N j = get_or_default N.names i no_literal d li ∙ same ∙ get_or_default N.names j d no_literal within in
    let one : i ≡ j = sym (h.distinct i li) ∙ ap (number N) alike ∙ h.distinct j within in
    absurd (omega (arith, one, before))

-- a rule's literals stay
pub literals_kept : (a b : List Literal) (r : Rule) → ((q : Literal) → Contains a q → Contains b q) → HasLiterals a r → HasLiterals b r
literals_kept a b r more h = (more r.head h.0, All-weaker (Contains a) (Contains b) more r.body h.1)

module _ (T : TheoryLists) (ls : List Literal) (facts : All (Contains ls) T.facts) (rules : All (HasLiterals ls) T.rules) where
  occurs_in : (q : Literal) → Occurs T q → Contains ls q
  occurs_in q (inl m) = All-contains (Contains ls) T.facts q facts m
  occurs_in q (inr any) =
      let h : HasLiterals ls any.1 = subst (HasLiterals ls) any.3 (rules any.0 any.1 any.2) in
      elim any.4 [
        | inl head ↦ subst (Contains ls) head h.0
        | inr body ↦ All-contains (Contains ls) any.1.body q h.1 body
      ]

  pub mentioned_in : IsPaired ls → (q : Literal) → Mentions T q → Contains ls q
  mentioned_in paired q (inl o) = occurs_in q o
  mentioned_in paired q (inr o) = subst (Contains ls) (complement_twice q) (paired_closed ls paired (complement q) (occurs_in (complement q) o))

-- numbers of a theory's literals, where its lists are what is there
pub numbered_by : (N : NetLists) → IsDistinct N.names → IsPaired N.names → All (Contains N.names) N.theory.facts → All (HasLiterals N.names) N.theory.rules
    → N.theory.facts ≡ there N.facts → N.theory.rules ≡ there N.rules → N.theory.pairs ≡ there N.pairs → IsNumbered N
numbered_by N distinct paired named literals facts rules pairs = record {
  facts = facts;
  rules = rules;
  pairs = pairs;
  distinct = λ k lt. number_at N.names k no_literal distinct lt;
  mentioned = mentioned_in N.theory N.names named literals paired;
  complements = paired_closed N.names paired;
}

-- the literals of a theory after an edit
pub facts_after : (T : TheoryLists) (ls : List Literal) (e : Edit) → All (Contains ls) T.facts → HasEditLiterals ls e → All (Contains ls) (after_edit T e).facts
facts_after T ls (AddRule r) h k = h
facts_after T ls (DropRule l) h k = h
facts_after T ls (AddFact q) h k = All-push (Contains ls) T.facts q h k
facts_after T ls (DropFact q) h k = All-filter (λ x. not (literal_eq x q)) (Contains ls) T.facts h
facts_after T ls (AddPair p) h k = h
facts_after T ls (DropPair p) h k = h

pub rules_after : (T : TheoryLists) (ls : List Literal) (e : Edit) → All (HasLiterals ls) T.rules → HasEditLiterals ls e → All (HasLiterals ls) (after_edit T e).rules
rules_after T ls (AddRule r) h k = All-push (HasLiterals ls) T.rules r h k
rules_after T ls (DropRule l) h k = All-filter (λ r. not (bytes_eq r.label l)) (HasLiterals ls) T.rules h
rules_after T ls (AddFact q) h k = h
rules_after T ls (DropFact q) h k = h
rules_after T ls (AddPair p) h k = h
rules_after T ls (DropPair p) h k = h

-- more names keep the literals of a theory
pub facts_grown : (P : Literal → Type 0) (a b : List Literal) (qs : List Literal) → Grows P a b → All (Contains a) qs → All (Contains b) qs
facts_grown P a b qs g h = All-weaker (Contains a) (Contains b) (λ q m. Grows-keeps P a b q g m) qs h

pub rules_grown : (P : Literal → Type 0) (a b : List Literal) (rs : List Rule) → Grows P a b → All (HasLiterals a) rs → All (HasLiterals b) rs
rules_grown P a b rs g h = All-weaker (HasLiterals a) (HasLiterals b) (λ r k. literals_kept a b r (λ q m. Grows-keeps P a b q g m) k) rs h

-- ---- more names

module _ (a b : List Literal) (distinct : IsDistinct b) (P : Literal → Type 0) (g : Grows P a b) where
  kept_at : (n : ℕ) (d : Literal) → n < length a → get_or b n d ≡ get_or a n d
  kept_at n d lt = ap (λ (ls : List Literal). get_or ls n d) g.is ∙ get_or-append a g.more d n lt

  pub longer : length a ≤ length b
  longer = omega (arith, ap length g.is, length-append a g.more)

  distinct_before : IsDistinct a
  distinct_before i j d before within same =
      distinct i j d before (omega (arith, within, longer)) (kept_at i d (omega (arith, before, within)) ∙ same ∙ sym (kept_at j d within))

  pub number_kept : (q : Literal) → Contains a q → number_in a q ≡ number_in b q
  number_kept q m =
      ap (number_in a) (sym m.2) ∙ number_at a m.0 q distinct_before m.1
      ∙ sym (number_at b m.0 q distinct (omega (arith, m.1, longer))) ∙ ap (number_in b) (kept_at m.0 q m.1 ∙ m.2)

  pub line_kept : (r : Rule) → HasLiterals a r → line_in a r ≡ line_in b r
  line_kept r h = λ i. record {
    kind = r.kind;
    head = number_kept r.head h.0 i;
    body = map_agree (number_in a) (number_in b) r.body (All-weaker (Contains a) (λ q. number_in a q ≡ number_in b q) number_kept r.body h.1) i;
  }

  pub lines_kept : (rs : List (Option Rule)) → All (HasLiterals a) (there rs) → map (option_map (line_in a)) rs ≡ map (option_map (line_in b)) rs
  lines_kept [] h = refl
  lines_kept (None ∷ rs) h = ap (λ (xs : List (Option Line)). None ∷ xs) (lines_kept rs h)
  lines_kept (Some r ∷ rs) h =
      λ i. Some (line_kept r (All-head (HasLiterals a) r (there rs) h) i) ∷ lines_kept rs (All-tail (HasLiterals a) r (there rs) h) i

  -- what was not among the names is no fact
  new_unknown : (n : ℕ) (d : Literal) → length a ≤ n → n < length b → ¬ Contains a (get_or b n d)
  new_unknown n d past lt m =
      distinct m.0 n (get_or b n d) (omega (arith, m.1, past)) lt
      (kept_at m.0 (get_or b n d) m.1 ∙ m.2 ∙ get_or_default b n d (get_or b n d) lt)

  pub marks_kept : (facts : List Literal) (marks : List Bool) → All (Contains a) facts → HasFacts a facts marks → HasFacts b facts marks
  marks_kept facts marks named h = record {
    marked = λ n lt. elim (cases_lt n (length a)) [
      | inl before ↦ h.marked n before ∙ ap (is_member literal_eq facts) (sym (kept_at n no_literal before))
      | inr past ↦ get_or_past marks n false (omega (arith, h.within, past))
          ∙ sym (false_unless (is_member literal_eq facts (get_or b n no_literal)) (is_member-Decides literal_eq-Decides facts (get_or b n no_literal))
          (λ m. new_unknown n no_literal past lt (All-contains (Contains a) facts (get_or b n no_literal) named m)))
    ];
    within = omega (arith, h.within, longer);
  }

  -- ---- what numbers stand for

  literals_stand : (ns : List ℕ) → All (λ n. n < length a) ns → map (literal_in b) ns ≡ map (literal_in a) ns
  literals_stand ns h = map_agree (literal_in b) (literal_in a) ns (All-weaker (λ n. n < length a) (λ n. literal_in b n ≡ literal_in a n) (λ n lt. kept_at n no_literal lt) ns h)

  rule_stands : (label : List ℕ) (l : Line) → IsWithin (length a) l → rule_from b label l ≡ rule_from a label l
  rule_stands label l h = λ i. record {
    label = label;
    kind = l.kind;
    body = literals_stand l.body h.1 i;
    head = kept_at l.head no_literal h.0 i;
  }

  pub rules_stand : (labels : List (List ℕ)) (lines : List (Option Line)) → ((n : ℕ) → IsThere lines n → IsWithin (length a) (line_at lines n))
      → rules_from b labels lines ≡ rules_from a labels lines
  rules_stand [] lines h = refl
  rules_stand (label ∷ labels) [] h = refl
  rules_stand (label ∷ labels) (None ∷ lines) h = ap (λ (rs : List (Option Rule)). None ∷ rs) (rules_stand labels lines (λ n. h (suc n)))
  rules_stand (label ∷ labels) (Some l ∷ lines) h = λ i. Some (rule_stands label l (h 0 refl) i) ∷ rules_stand labels lines (λ n. h (suc n)) i

  pub facts_stand : (facts : List (Option ℕ)) → ((q n : ℕ) → HasNumber facts q n → q < length a)
      → map (option_map (literal_in b)) facts ≡ map (option_map (literal_in a)) facts
  facts_stand [] h = refl
  facts_stand (None ∷ facts) h = ap (λ (qs : List (Option Literal)). None ∷ qs) (facts_stand facts (λ q n. h q (suc n)))
  facts_stand (Some q ∷ facts) h = λ i. Some (kept_at q no_literal (h q 0 refl) i) ∷ facts_stand facts (λ p n. h p (suc n)) i

-- ---- tables with more names

-- the same labels, facts, pairs and rules
pub record HasSame (t t' : TableLists) : Type 0 where
  pub labels : t'.labels ≡ t.labels
  pub facts : t'.facts ≡ t.facts
  pub pairs : t'.pairs ≡ t.pairs
  pub lines : t'.index.lines ≡ t.index.lines
  pub lowers : t'.index.lowers ≡ t.index.lowers
  pub uppers : t'.index.uppers ≡ t.index.uppers

module _ (P : Literal → Type 0) (t t' : TableLists) (h : AreTables t) (same : HasSame t t') (distinct : IsDistinct t'.names) (paired : IsPaired t'.names)
    (g : Grows P t.names t'.names) where
  facts_same : facts_of t' ≡ facts_of t
  facts_same =
      ap (λ (fs : List (Option ℕ)). map (option_map (literal_in t'.names)) fs) same.facts
      ∙ facts_stand t.names t'.names distinct P g t.facts h.facts_within

  rules_same : rules_of t' ≡ rules_of t
  rules_same =
      (λ i. rules_from t'.names (same.labels i) (same.lines i))
      ∙ rules_stand t.names t'.names distinct P g t.labels t.index.lines (line_named t h)

  pub net_grown : net_of t' ≡ record (net_of t) { names = t'.names }
  net_grown = λ i. record {
    theory = record { facts = there (facts_same i); rules = there (rules_same i); pairs = there (map (option_map (named (same.labels i))) (same.pairs i)) };
    facts = facts_same i;
    rules = rules_same i;
    pairs = map (option_map (named (same.labels i))) (same.pairs i);
    names = t'.names;
    pending = None;
    frozen = false;
  }

  facts_here : All (Contains t'.names) (theory_of t).facts
  facts_here = facts_grown P t.names t'.names (theory_of t).facts g h.tables.facts_named

  rules_here : All (HasLiterals t'.names) (theory_of t).rules
  rules_here = rules_grown P t.names t'.names (theory_of t).rules g h.tables.rules_named

  held : HasFacts t'.names (theory_of t).facts t'.marks → HasTables (record (net_of t) { names = t'.names }) t'.marks t'.index
  held marks = record {
    facts_named = facts_here;
    rules_named = rules_here;
    facts = marks;
    index = record {
      lines = same.lines ∙ h.tables.index.lines ∙ lines_kept t.names t'.names distinct P g (rules_of t) h.tables.rules_named;
      lowers = same.lowers ∙ h.tables.index.lowers;
      uppers = same.uppers ∙ h.tables.index.uppers;
    };
  }

  -- the tables of a theory hold for more names
  pub tables_grown : (HasFacts t'.names (theory_of t).facts t.marks → HasFacts t'.names (theory_of t).facts t'.marks) → AreTables t'
  tables_grown marks = record {
    as_long = ap length same.labels ∙ h.as_long ∙ sym (ap length same.lines);
    facts_within = λ q n has. omega (arith, h.facts_within q n (subst (λ (fs : List (Option ℕ)). HasNumber fs q n) same.facts has), longer t.names t'.names distinct P g);
    formed = subst IsWellFormed (sym (ap (λ (N : NetLists). N.theory) net_grown)) h.formed;
    numbered = subst IsNumbered (sym net_grown) (numbered_by (record (net_of t) { names = t'.names }) distinct paired facts_here rules_here refl refl refl);
    paired = paired;
    tables =
        subst (λ (N : NetLists). HasTables N t'.marks t'.index) (sym net_grown)
        (held (marks (marks_kept t.names t'.names distinct P g (theory_of t).facts t.marks h.tables.facts_named h.tables.facts)));
    latest = λ n at.
        subst (λ (ls : List (List ℕ)). IsLast ls (get_or ls n []) n) (sym same.labels)
        (h.latest n (subst (λ (ls : List (Option Line)). IsThere ls n) same.lines at));
    joined = λ l n has.
        subst (λ (ls : List (Option Line)). IsThere ls l.upper × IsThere ls l.lower) (sym same.lines)
        (h.joined l n (subst (λ (ps : List (Option Link)). HasNumber ps l n) same.pairs has));
  }

-- ---- how many there are

pub facts_counted : (t : TableLists) → length (there t.facts) ≡ length (theory_of t).facts
facts_counted t = sym (ap length (there_map (literal_in t.names) t.facts) ∙ length-map (there t.facts) (literal_in t.names))

pub rules_counted : (t : TableLists) → AreTables t → length (there t.index.lines) ≡ length (theory_of t).rules
rules_counted t h =
    ap (λ (ls : List (Option Line)). length (there ls)) h.tables.index.lines
    ∙ ap length (there_map (line_in t.names) (rules_of t))
    ∙ length-map (there (rules_of t)) (line_in t.names)

-- ---- nothing yet

pub none_distinct : (A : Type 0) → IsDistinct {A = A} []
none_distinct A = λ i j d a b c. absurd (omega (arith, b))

pub none_formed : IsWellFormed no_lists
none_formed = record {
  labels_distinct = none_distinct (List ℕ);
  facts_distinct = none_distinct Literal;
  pairs_distinct = none_distinct Pair;
  pairs_label_rules = All-nil (λ (p : Pair). Contains [] p.upper × Contains [] p.lower);
  acyclic = λ h. omega (arith, h.closes.1);
  few_facts = omega arith;
  few_rules = omega arith;
  few_pairs = omega arith;
}

abbrev pub no_tables : TableLists
no_tables = record { names = []; labels = []; facts = []; pairs = []; marks = []; index = no_index }

pub none_tables : AreTables no_tables
none_tables = record {
  as_long = refl;
  facts_within = λ q n has. cc;
  formed = none_formed;
  numbered = numbered_by no_net (none_distinct Literal) tt (All-nil (Contains [])) (All-nil (HasLiterals [])) refl refl refl;
  paired = tt;
  tables = record {
    facts_named = All-nil (Contains []);
    rules_named = All-nil (HasLiterals []);
    facts = record { marked = λ n lt. absurd (omega (arith, lt)); within = omega arith };
    index = record { lines = refl; lowers = refl; uppers = refl };
  };
  latest = λ n there. absurd (true≢false (sym there));
  joined = λ l n has. cc;
}

-- ---- marks

-- a fact less
pub facts_left : (ls facts : List Literal) (marks : List Bool) (q : Literal) → IsDistinct ls → Contains ls q → HasFacts ls facts marks
    → HasFacts ls (filter (λ x. not (literal_eq x q)) facts) (set marks (number_in ls q) false)
facts_left ls facts marks q distinct there h = record {
  marked = λ n lt. elim (cases_eq n (number_in ls q)) [
    | inl e ↦
        let here : get_or ls n no_literal ≡ q = ap (λ k. get_or ls k no_literal) e ∙ (number_within ls q distinct there).1 no_literal in
        ap (λ k. get_or (set marks (number_in ls q) false) k false) e
        ∙ set_default marks (number_in ls q)
        ∙ sym (false_unless (is_member literal_eq (filter (λ x. not (literal_eq x q)) facts) (get_or ls n no_literal))
        (is_member-Decides literal_eq-Decides (filter (λ x. not (literal_eq x q)) facts) (get_or ls n no_literal))
        (λ m. not_left facts q (subst (λ (x : Literal). Contains (filter (λ y. not (literal_eq y q)) facts) x) here m)))
    | inr apart ↦
        let other : get_or ls n no_literal ≢ q = λ e. apart (sym (number_at ls n no_literal distinct lt) ∙ ap (number_in ls) e) in
        get_or-set_other marks (number_in ls q) n false false apart ∙ h.marked n lt
        ∙ same_from_decides (is_member literal_eq facts (get_or ls n no_literal)) (is_member literal_eq (filter (λ x. not (literal_eq x q)) facts) (get_or ls n no_literal))
        (is_member-Decides literal_eq-Decides facts (get_or ls n no_literal))
        (Decides-like (is_member literal_eq (filter (λ x. not (literal_eq x q)) facts) (get_or ls n no_literal))
        (λ m. Contains-filtered (λ x. not (literal_eq x q)) facts (get_or ls n no_literal) m)
        (λ m. Contains-kept (λ x. not (literal_eq x q)) facts (get_or ls n no_literal) m
        (ap not (false_unless (literal_eq (get_or ls n no_literal) q) (literal_eq-Decides (get_or ls n no_literal) q) other)))
        (is_member-Decides literal_eq-Decides (filter (λ x. not (literal_eq x q)) facts) (get_or ls n no_literal)))
  ];
  within = omega (arith, h.within, length-set marks (number_in ls q) false);
}
  where
    set_default : (ms : List Bool) (n : ℕ) → get_or (set ms n false) n false ≡ false
    set_default ms n =
        elim (cases_lt n (length ms)) [
          | inl lt ↦ get_or-set_same ms n false false lt
          | inr past ↦ get_or_past (set ms n false) n false (omega (arith, past, length-set ms n false))
        ]

    not_left : (xs : List Literal) (x : Literal) → ¬ Contains (filter (λ y. not (literal_eq y x)) xs) x
    not_left xs x m =
        let passes : not (literal_eq x x) ≡ true =
        All-contains (λ y. not (literal_eq y x) ≡ true) (filter (λ y. not (literal_eq y x)) xs) x (filter_passes (λ y. not (literal_eq y x)) xs) m in
        let same : literal_eq x x ≡ true = (literal_eq-Decides x x).1 refl in
        cc

-- a fact has a mark
pub fact_marked : (ls facts : List Literal) (marks : List Bool) (q : Literal) → IsDistinct ls → Contains ls q → Contains facts q → HasFacts ls facts marks
    → number_in ls q < length marks
fact_marked ls facts marks q distinct there fact h =
    let at = number_within ls q distinct there in
    elim (cases_lt (number_in ls q) (length marks)) [
      | inl lt ↦ lt
      | inr past ↦
          let off : get_or marks (number_in ls q) false ≡ false = get_or_past marks (number_in ls q) false past in
          let on : is_member literal_eq facts (get_or ls (number_in ls q) no_literal) ≡ true =
          (is_member-Decides literal_eq-Decides facts (get_or ls (number_in ls q) no_literal)).1
          (subst (λ (x : Literal). Contains facts x) (sym (at.1 no_literal)) fact) in
          let same = h.marked (number_in ls q) at.0 in
          cc
    ]
