-- What is there, where facts, rules and pairs get numbers anew.
use Rattle.std.proofs.Common.{◌≡◌, ◌<◌, ◌≤◌, ◌+◌, ℕ, zero, suc, Bool, true, false, Option, None, Some, List, [], ◌∷◌, ◌++◌, Result, Ok, Err, length, get_or, map, take, drop, refl, sym, ap, subst, ◌∙◌, arith}
use Rattle.std.specs.Prelude.{All, Contains, IsSome, is_some, is_ok, unwrap_or, option_map}
use Rattle.std.proofs.lemmas.List.{append-nil, take_more, take_all, length-take, length-map}
use Rattle.std.proofs.lemmas.List.Elements.{All-nil, All-map, Contains-get_or}
use Rattle.dl_base.specs.Paths.{IsDistinct}
use Rattle.dl_base.proofs.Distinct.{distinct_left, distinct_apart}
use Rattle.dl_lit.specs.declared.literal.Literal.{Literal}
use Rattle.dl_sup.specs.declared.link.Link.{Link}
use Rattle.dl_theory.specs.declared.rule.Rule.{Rule}
use Rattle.dl_theory.specs.declared.rule.Pair.{Pair}
use Rattle.dl_theory.specs.Lists.{TheoryLists, IsWellFormed, labels}
use Rattle.dl_theory.specs.Pairs.{named, IsWithin as IsPairWithin}
use Rattle.dl_theory.specs.Edits.{IsPairsOutcome}
use Rattle.dl_theory.specs.declared.edit.PairsStop.{PairsStop}
use Rattle.dl_theory.proofs.Additions.{after_additions}
use Rattle.dl_rows.specs.There.{there, HasNumber}
use Rattle.dl_rows.proofs.There.{there_has, there_some}
use Rattle.dl_rules.specs.Lines.{Line, no_line, line_at, IsThere, IsWithin, IsThereWithin}
use Rattle.dl_graph.specs.Numbers.{NetLists}
use Rattle.dl_graph.specs.Named.{HasFacts}
use Rattle.dl_graph.specs.Tables.{TableLists, AreTables, literal_in, rule_from, rules_from, facts_of, rules_of, pairs_of, theory_of, net_of}
use Rattle.dl_graph.proofs.TableLemmas.{line_named}
use Rattle.dl_net.specs.Anew.{labels_there}
use Rattle.dl_net.specs.Kept.{numbered_anew}
use Rattle.dl_net.specs.Loading.{LoadedLists, IsLoading, tables_of, theory_in}
use Rattle.dl_net.proofs.NetLemmas.{none_formed}

-- ---- what has a number

module _ {A : Type 0} where
  -- what holds of each that has a number
  pub all_there : (P : A → Type 0) (xs : List (Option A)) → ((x : A) (n : ℕ) → HasNumber xs x n → P x) → All P (there xs)
  all_there P xs h = λ k d lt. let at = there_has xs (get_or (there xs) k d) (Contains-get_or (there xs) k d lt) in h (get_or (there xs) k d) at.0 at.1

-- ---- labels

-- the label of a number, where its rule is there
abbrev pub label_if : List ℕ → Option Line → List (List ℕ)
label_if label None = []
label_if label (Some l) = label ∷ []

-- a number has a rule or none
pub rule_if : (o : Option Line) → is_some o ≡ true → (l : Line) × (o ≡ Some l)
rule_if None e = cc
rule_if (Some l) e = (l, refl)

pub no_label : (front : List (List ℕ)) (label : List ℕ) (o : Option Line) → is_some o ≡ false → front ++ label_if label o ≡ front
no_label front label None e = append-nil front
no_label front label (Some l) e = cc

labels_end : (ks : List (List ℕ)) (lines : List (Option Line)) (k : List ℕ) (o : Option Line) → length ks ≡ length lines
    → labels_there (ks ++ k ∷ []) (lines ++ o ∷ []) ≡ labels_there ks lines ++ label_if k o
labels_end [] [] k None e = refl
labels_end [] [] k (Some l) e = refl
labels_end [] (x ∷ lines) k o e = absurd (omega (arith, e))
labels_end (x ∷ ks) [] k o e = absurd (omega (arith, e))
labels_end (x ∷ ks) (None ∷ lines) k o e = labels_end ks lines k o (omega (arith, e))
labels_end (x ∷ ks) (Some l ∷ lines) k o e = ap (λ (xs : List (List ℕ)). x ∷ xs) (labels_end ks lines k o (omega (arith, e)))

labels_split : (n : ℕ) (ks : List (List ℕ)) (lines : List (Option Line)) → length ks ≡ length lines
    → labels_there ks lines ≡ labels_there (take n ks) (take n lines) ++ labels_there (drop n ks) (drop n lines)
labels_split zero ks lines e = refl
labels_split (suc n) [] [] e = refl
labels_split (suc n) [] (x ∷ lines) e = absurd (omega (arith, e))
labels_split (suc n) (k ∷ ks) [] e = absurd (omega (arith, e))
labels_split (suc n) (k ∷ ks) (None ∷ lines) e = labels_split n ks lines (omega (arith, e))
labels_split (suc n) (k ∷ ks) (Some l ∷ lines) e = ap (λ (xs : List (List ℕ)). k ∷ xs) (labels_split n ks lines (omega (arith, e)))

module _ (ks : List (List ℕ)) (lines : List (Option Line)) (e : length ks ≡ length lines) where
  pub labels_more : (n : ℕ) → n < length lines
      → labels_there (take (n + 1) ks) (take (n + 1) lines) ≡ labels_there (take n ks) (take n lines) ++ label_if (get_or ks n []) (get_or lines n None)
  labels_more n lt =
      (λ i. labels_there (take_more ks n [] (omega (arith, lt, e)) i) (take_more lines n None lt i))
      ∙ labels_end (take n ks) (take n lines) (get_or ks n []) (get_or lines n None)
      (omega (arith, length-take n ks, length-take n lines, e))

  pub labels_all : (n : ℕ) → length lines ≤ n → labels_there (take n ks) (take n lines) ≡ labels_there ks lines
  labels_all n past = λ i. labels_there (take_all n ks (omega (arith, past, e)) i) (take_all n lines past i)

  -- no two rules that are there have one label
  pub label_new : IsDistinct (labels_there ks lines) → (n : ℕ) → n < length lines → (l : Line) → get_or lines n None ≡ Some l
      → ¬ Contains (labels_there (take n ks) (take n lines)) (get_or ks n [])
  label_new distinct n lt l here m =
      let front : List (List ℕ) = labels_there (take n ks) (take n lines) in
      let more : labels_there (take (n + 1) ks) (take (n + 1) lines) ≡ front ++ get_or ks n [] ∷ [] =
      labels_more n lt ∙ ap (λ (o : Option Line). front ++ label_if (get_or ks n []) o) here in
      distinct_apart front (get_or ks n [] ∷ []) (get_or ks n [])
      (subst (λ (xs : List (List ℕ)). IsDistinct xs) more
      (distinct_left (labels_there (take (n + 1) ks) (take (n + 1) lines)) (labels_there (drop (n + 1) ks) (drop (n + 1) lines))
      (subst (λ (xs : List (List ℕ)). IsDistinct xs) (labels_split (n + 1) ks lines e) distinct)))
      m (0, omega arith, refl)

pub labels_len : (ks : List (List ℕ)) (lines : List (Option Line)) → length ks ≡ length lines → length (labels_there ks lines) ≡ length (there lines)
labels_len [] [] e = refl
labels_len [] (x ∷ lines) e = absurd (omega (arith, e))
labels_len (k ∷ ks) [] e = absurd (omega (arith, e))
labels_len (k ∷ ks) (None ∷ lines) e = labels_len ks lines (omega (arith, e))
labels_len (k ∷ ks) (Some l ∷ lines) e = omega (arith, labels_len ks lines (omega (arith, e)))

labels_named : (ls : List Literal) (ks : List (List ℕ)) (lines : List (Option Line)) → map (λ r. r.label) (there (rules_from ls ks lines)) ≡ labels_there ks lines
labels_named ls [] lines = refl
labels_named ls (k ∷ ks) [] = refl
labels_named ls (k ∷ ks) (None ∷ lines) = labels_named ls ks lines
labels_named ls (k ∷ ks) (Some l ∷ lines) = ap (λ (xs : List (List ℕ)). k ∷ xs) (labels_named ls ks lines)

-- the labels of a theory's rules are those that are there
pub theory_labels : (t : TableLists) → labels (theory_of t) ≡ labels_there t.labels t.index.lines
theory_labels t = labels_named t.names t.labels t.index.lines

-- ---- facts, rules and pairs

mapped_anew : {A B : Type 0} (f : A → B) (xs : List (Option A)) → map (option_map f) (map Some (there xs)) ≡ map Some (there (map (option_map f) xs))
mapped_anew f [] = refl
mapped_anew f (None ∷ xs) = mapped_anew f xs
mapped_anew {A} {B} f (Some x ∷ xs) = ap (λ (l : List (Option B)). Some (f x) ∷ l) (mapped_anew f xs)

rules_anew : (ls : List Literal) (ks : List (List ℕ)) (lines : List (Option Line))
    → rules_from ls (labels_there ks lines) (map Some (there lines)) ≡ map Some (there (rules_from ls ks lines))
rules_anew ls [] lines = refl
rules_anew ls (k ∷ ks) [] = refl
rules_anew ls (k ∷ ks) (None ∷ lines) = rules_anew ls ks lines
rules_anew ls (k ∷ ks) (Some l ∷ lines) = ap (λ (rs : List (Option Rule)). Some (rule_from ls k l) ∷ rs) (rules_anew ls ks lines)

some_pairs : (f : Link → Pair) (links : List Link) → map (option_map f) (map Some links) ≡ map Some (map f links)
some_pairs f [] = refl
some_pairs f (l ∷ links) = ap (λ (ps : List (Option Pair)). Some (f l) ∷ ps) (some_pairs f links)

-- a number that a table has is that of a line
pub line_is_there : (lines : List (Option Line)) (l : Line) (n : ℕ) → HasNumber lines l n → IsThere lines n × (line_at lines n ≡ l)
line_is_there lines l n has = (
  subst (λ (o : Option Line). IsSome o) (sym has) refl,
  ap (λ (o : Option Line). unwrap_or o no_line) has,
)

-- ---- pairs by the places of their labels

pub without_pairs : (T : TheoryLists) → IsWellFormed T → IsWellFormed (record T { pairs = [] })
without_pairs T h = record {
  labels_distinct = h.labels_distinct;
  facts_distinct = h.facts_distinct;
  pairs_distinct = none_formed.pairs_distinct;
  pairs_label_rules = All-nil (λ (p : Pair). Contains (labels T) p.upper × Contains (labels T) p.lower);
  acyclic = none_formed.acyclic;
  few_facts = h.few_facts;
  few_rules = h.few_rules;
  few_pairs = none_formed.few_pairs;
}

-- where pairs were added to none, they are all there
pub all_added : {A : Type 0} (T : TheoryLists) (ps new : List Pair) (r : Result A PairsStop) → is_ok r ≡ true
    → IsPairsOutcome (record T { pairs = [] }) ps (record T { pairs = new }) r → new ≡ ps
all_added T ps new (Ok x) e h = ap (λ (U : TheoryLists). U.pairs) (h.1 ∙ after_additions (record T { pairs = [] }) ps)
all_added T ps new (Err x) e h = cc

-- ---- tables with numbers anew

-- what is there of tables, with the same names
pub record IsRenewed (t : TableLists) (a : LoadedLists) : Type 0 where
  pub names : a.names ≡ t.names
  pub labels : a.labels ≡ labels_there t.labels t.index.lines
  pub order : a.order ≡ there t.facts
  pub pairs : map (named a.labels) a.pairs ≡ (theory_of t).pairs
  pub within : All (IsPairWithin a.labels) a.pairs
  pub marks : a.marks ≡ t.marks
  pub lines : a.lines ≡ map Some (there t.index.lines)

module _ (t : TableLists) (h : AreTables t) (a : LoadedLists) (r : IsRenewed t a) where
  facts_renewed : facts_of (tables_of a) ≡ map Some (there (facts_of t))
  facts_renewed = (λ i. map (option_map (literal_in (r.names i))) (map Some (r.order i))) ∙ mapped_anew (literal_in t.names) t.facts

  rules_renewed : rules_of (tables_of a) ≡ map Some (there (rules_of t))
  rules_renewed = (λ i. rules_from (r.names i) (r.labels i) (r.lines i)) ∙ rules_anew t.names t.labels t.index.lines

  pairs_renewed : pairs_of (tables_of a) ≡ map Some (there (pairs_of t))
  pairs_renewed = some_pairs (named a.labels) a.pairs ∙ ap (map Some) r.pairs

  pub net_renewed : net_of (tables_of a) ≡ numbered_anew (net_of t)
  net_renewed = λ i. record {
    theory = record {
      facts = (ap there facts_renewed ∙ there_some (there (facts_of t))) i;
      rules = (ap there rules_renewed ∙ there_some (there (rules_of t))) i;
      pairs = (ap there pairs_renewed ∙ there_some (there (pairs_of t))) i;
    };
    facts = facts_renewed i;
    rules = rules_renewed i;
    pairs = pairs_renewed i;
    names = r.names i;
    pending = None;
    frozen = false;
  }

  theory_renewed : theory_in a ≡ theory_of t
  theory_renewed = ap (λ (N : NetLists). N.theory) net_renewed

  lines_within : All (IsThereWithin (length t.names)) (map Some (there t.index.lines))
  lines_within =
      All-map (IsThereWithin (length t.names)) Some (there t.index.lines)
      (all_there (λ l. IsThereWithin (length t.names) (Some l)) t.index.lines
      (λ l n has. let at = line_is_there t.index.lines l n has in (refl, subst (λ (x : Line). IsWithin (length t.names) x) at.1 (line_named t h n at.0))))

  pub loading_renewed : IsLoading a
  loading_renewed = record {
    formed = subst IsWellFormed (sym theory_renewed) h.formed;
    as_long = ap length r.labels ∙ labels_len t.labels t.index.lines h.as_long ∙ sym (ap length r.lines ∙ length-map (there t.index.lines) Some);
    lines = subst (λ (ls : List Literal). All (IsThereWithin (length ls)) a.lines) (sym r.names)
        (subst (λ (ls : List (Option Line)). All (IsThereWithin (length t.names)) ls) (sym r.lines) lines_within);
    order = subst (λ (ls : List Literal). All (λ q. q < length ls) a.order) (sym r.names)
        (subst (λ (ns : List ℕ). All (λ q. q < length t.names) ns) (sym r.order) (all_there (λ q. q < length t.names) t.facts h.facts_within));
    pairs = r.within;
    marks = subst (λ (ls : List Literal). HasFacts ls (theory_in a).facts a.marks) (sym r.names)
        (subst (λ (ms : List Bool). HasFacts t.names (theory_in a).facts ms) (sym r.marks)
        (subst (λ (T : TheoryLists). HasFacts t.names T.facts t.marks) (sym theory_renewed) h.tables.facts));
  }
