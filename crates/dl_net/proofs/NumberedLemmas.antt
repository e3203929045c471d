-- A theory that is loaded by numbers, through more names, one fact more and one rule more.
use Rattle.std.proofs.Common.{◌≡◌, ◌≤◌, ◌<◌, ℕ, Bool, true, false, Option, None, Some, List, [], ◌∷◌, ◌++◌, length, get_or, set, map, refl, sym, ap, subst, ◌∙◌, arith, length-append, true≢false, Result, Ok, Err}
use Rattle.std.specs.Prelude.{All, Contains, ◌↔◌, IsErrAnd, option_map, unwrap_or, is_err}
use Rattle.std.specs.Set.{is_member}
use Rattle.std.proofs.Math.ListN.{get_or-append, length-map}
use Rattle.std.proofs.lemmas.List.{map-append}
use Rattle.std.proofs.lemmas.List.Elements.{All-nil, All-push, All-head, All-tail, All-weaker, All-map, All-contains, Contains-get_or}
use Rattle.std.proofs.lemmas.Map.Made.{is_member-Decides}
use Rattle.dl_base.specs.Paths.{IsDistinct}
use Rattle.dl_base.proofs.Members.{map_agree}
use Rattle.dl_lit.specs.declared.literal.Literal.{Literal}
use Rattle.dl_lit.specs.Literal.{literal_eq}
use Rattle.dl_lit.specs.Order.{literal_eq-Decides}
use Rattle.dl_sup.specs.declared.link.Link.{Link}
use Rattle.dl_theory.specs.declared.rule.Rule.{Rule}
use Rattle.dl_theory.specs.declared.edit.Edit.{Edit}
use Rattle.dl_theory.specs.declared.edit.Edit.TheVariants.{AddRule, AddFact}
use Rattle.dl_theory.specs.declared.edit.EditStop.{EditStop}
use Rattle.dl_theory.specs.declared.edit.EditStop.TheVariants as edit_stop
use Rattle.dl_theory.specs.Lists.{TheoryLists, IsWellFormed, labels}
use Rattle.dl_theory.specs.Pairs.{named, IsWithin as IsPairWithin}
use Rattle.dl_theory.specs.Edits.{IsAccepted, IsStopped, IsEdited, after_edit}
use Rattle.dl_theory.proofs.WellFormed.{edit_keeps}
use Rattle.dl_rows.specs.There.{there, HasNumber}
use Rattle.dl_rows.proofs.There.{there_map, there_some, there_push, has_there}
use Rattle.dl_names.specs.Paired.{Grows, number_in}
use Rattle.dl_names.proofs.NameLemmas.{number_within}
use Rattle.dl_rules.specs.Lines.{Line, no_line, line_at, IsThere, IsWithin, IsThereWithin}
use Rattle.dl_rules.proofs.ThereLemmas.{there_within}
use Rattle.dl_graph.specs.Numbers.{no_literal}
use Rattle.dl_graph.specs.Named.{HasFacts, HasLiterals, line_in}
use Rattle.dl_graph.specs.Tables.{literal_in, rule_from, rules_from}
use Rattle.dl_graph.proofs.LineLemmas.{line_within as numbers_of}
use Rattle.dl_net.specs.Loading.{LoadedLists, IsLoading, theory_in}
use Rattle.dl_net.proofs.NetLemmas.{marks_kept, longer, rules_stand, none_formed}
use Rattle.dl_net.proofs.RuleLemmas.{rules_push, rule_read, pairs_stand}
use Rattle.dl_net.proofs.JoinLemmas.{facts_joined}

-- ---- lists without empty numbers

read_all : {A B : Type 0} (f : A → B) (xs : List A) → there (map (option_map f) (map Some xs)) ≡ map f xs
read_all f xs = there_map f (map Some xs) ∙ ap (map f) (there_some xs)

pub has_some : {A : Type 0} (xs : List A) (x : A) (n : ℕ) → HasNumber (map Some xs) x n → Contains xs x
has_some {A} xs x n h = subst (λ (ys : List A). Contains ys x) (there_some xs) (has_there (map Some xs) x n h)

pub facts_read : (a : LoadedLists) → (theory_in a).facts ≡ map (literal_in a.names) a.order
facts_read a = read_all (literal_in a.names) a.order

pub pairs_read : (a : LoadedLists) → (theory_in a).pairs ≡ map (named a.labels) a.pairs
pairs_read a = read_all (named a.labels) a.pairs

-- the theory of these lists
theory_is : (a : LoadedLists) (T : TheoryLists) → map (literal_in a.names) a.order ≡ T.facts → there (rules_from a.names a.labels a.lines) ≡ T.rules
    → map (named a.labels) a.pairs ≡ T.pairs → theory_in a ≡ T
theory_is a T facts rules pairs = λ i. record { facts = (facts_read a ∙ facts) i; rules = rules i; pairs = (pairs_read a ∙ pairs) i }

-- ---- rules by label

labels_are : (ls : List Literal) (w : ℕ) (ks : List (List ℕ)) (lines : List (Option Line)) → length ks ≡ length lines → All (IsThereWithin w) lines
    → map (λ r. r.label) (there (rules_from ls ks lines)) ≡ ks
labels_are ls w [] lines e h = refl
labels_are ls w (label ∷ ks) [] e h = absurd (omega (arith, e))
labels_are ls w (label ∷ ks) (None ∷ lines) e h = absurd (true≢false (sym (All-head (IsThereWithin w) None lines h).0))
labels_are ls w (label ∷ ks) (Some l ∷ lines) e h =
    ap (λ (more : List (List ℕ)). label ∷ more) (labels_are ls w ks lines (omega (arith, e)) (All-tail (IsThereWithin w) (Some l) lines h))

module _ (a : LoadedLists) (h : IsLoading a) where
  pub labels_from : labels (theory_in a) ≡ a.labels
  labels_from = labels_are a.names (length a.names) a.labels a.lines h.as_long h.lines

  pub rules_len : length (theory_in a).rules ≡ length a.labels
  rules_len = sym (length-map (theory_in a).rules (λ r. r.label)) ∙ ap length labels_from

  pub facts_len : length (theory_in a).facts ≡ length a.order
  facts_len = ap length (facts_read a) ∙ length-map a.order (literal_in a.names)

  pub facts_named : All (Contains a.names) (theory_in a).facts
  facts_named =
      subst (λ (qs : List Literal). All (Contains a.names) qs) (sym (facts_read a))
      (All-map (Contains a.names) (literal_in a.names) a.order
      (All-weaker (λ n. n < length a.names) (λ n. Contains a.names (literal_in a.names n)) (λ n lt. Contains-get_or a.names n no_literal lt) a.order h.order))

-- ---- more names

-- numbers of rules that are there
pub line_within : (w : ℕ) (lines : List (Option Line)) → All (IsThereWithin w) lines → (n : ℕ) → IsThere lines n → IsWithin w (line_at lines n)
line_within w lines h n at = (h n None (there_within lines n at)).1

module _ (P : Literal → Type 0) (a b : List Literal) (g : Grows P a b) (distinct : IsDistinct b) where
  literals_same : (ns : List ℕ) → All (λ n. n < length a) ns → map (literal_in b) ns ≡ map (literal_in a) ns
  literals_same ns w =
      map_agree (literal_in b) (literal_in a) ns
      (All-weaker (λ n. n < length a) (λ n. literal_in b n ≡ literal_in a n)
      (λ n lt. ap (λ (ls : List Literal). get_or ls n no_literal) g.is ∙ get_or-append a g.more no_literal n lt) ns w)

  numbers_within : (ns : List ℕ) → All (λ n. n < length a) ns → All (λ n. n < length b) ns
  numbers_within ns w =
      All-weaker (λ n. n < length a) (λ n. n < length b) (λ n lt. omega (arith, lt, longer a b distinct P g)) ns w

  lines_within : (lines : List (Option Line)) → All (IsThereWithin (length a)) lines → All (IsThereWithin (length b)) lines
  lines_within lines w =
      All-weaker (IsThereWithin (length a)) (IsThereWithin (length b))
      (λ o v. (v.0, (omega (arith, v.1.0, longer a b distinct P g), numbers_within (unwrap_or o no_line).body v.1.1))) lines w

-- the same lists among more names
abbrev pub grown : LoadedLists → List Literal → List Bool → LoadedLists
grown a names marks = record a { names = names; marks = marks }

module _ (P : Literal → Type 0) (a : LoadedLists) (b : List Literal) (marks : List Bool) (g : Grows P a.names b) (distinct : IsDistinct b)
    (more : (qs : List Literal) → HasFacts b qs a.marks → HasFacts b qs marks) (h : IsLoading a) where
  pub grown_theory : theory_in (grown a b marks) ≡ theory_in a
  grown_theory =
      theory_is (grown a b marks) (theory_in a) (literals_same P a.names b g distinct a.order h.order ∙ sym (facts_read a)) (ap there (rules_stand a.names b distinct P g a.labels a.lines (line_within (length a.names) a.lines h.lines)))
      (sym (pairs_read a))

  pub grown_loading : IsLoading (grown a b marks)
  grown_loading = record {
    formed = subst IsWellFormed (sym grown_theory) h.formed;
    as_long = h.as_long;
    lines = lines_within P a.names b g distinct a.lines h.lines;
    order = numbers_within P a.names b g distinct a.order h.order;
    pairs = h.pairs;
    marks = subst (λ (T : TheoryLists). HasFacts b T.facts marks) (sym grown_theory)
        (more (theory_in a).facts (marks_kept a.names b distinct P g (theory_in a).facts a.marks (facts_named a h) h.marks));
  }

-- ---- one fact more

-- whether a literal is marked
pub mark_tells : (ls facts : List Literal) (marks : List Bool) (q : Literal) → IsDistinct ls → HasFacts ls facts marks → Contains ls q
    → (get_or marks (number_in ls q) false ≡ true) ↔ Contains facts q
mark_tells ls facts marks q distinct h there =
    let at = number_within ls q distinct there in
    let is : get_or marks (number_in ls q) false ≡ is_member literal_eq facts q =
    h.marked (number_in ls q) at.0 ∙ ap (is_member literal_eq facts) (at.1 no_literal) in
    let decides = is_member-Decides literal_eq-Decides facts q in
    (λ e. decides.0 (sym is ∙ e), λ m. is ∙ decides.1 m)

abbrev pub with_fact : LoadedLists → List ℕ → List Bool → LoadedLists
with_fact a order marks = record a { order = order; marks = marks }

module _ (a : LoadedLists) (h : IsLoading a) (distinct : IsDistinct a.names) (q : Literal) (there : Contains a.names q) (n : ℕ)
    (is : n ≡ number_in a.names q) where
  -- a number that is marked is that of a fact
  pub marked_fact : (get_or a.marks n false ≡ true) ↔ Contains (theory_in a).facts q
  marked_fact =
      let tells = mark_tells a.names (theory_in a).facts a.marks q distinct h.marks there in
      let same : get_or a.marks n false ≡ get_or a.marks (number_in a.names q) false = ap (λ (m : ℕ). get_or a.marks m false) is in
      (λ e. tells.0 (sym same ∙ e), λ m. same ∙ tells.1 m)

  pub new_fact : get_or a.marks n false ≡ false → length a.order < 1000000 → IsAccepted (theory_in a) (AddFact q)
  new_fact off few = (λ m. let on = marked_fact.1 m in cc, omega (arith, few, facts_len a h))

  module _ (order : List ℕ) (marks : List Bool) (put : order ≡ a.order ++ n ∷ []) (marked : marks ≡ set a.marks n true) where
    pub fact_theory : theory_in (with_fact a order marks) ≡ after_edit (theory_in a) (AddFact q)
    fact_theory =
        theory_is (with_fact a order marks) (after_edit (theory_in a) (AddFact q))
        (ap (map (literal_in a.names)) put ∙ map-append (literal_in a.names) a.order (n ∷ [])
        ∙ (λ i. sym (facts_read a) i ++ (ap (literal_in a.names) is ∙ (number_within a.names q distinct there).1 no_literal) i ∷ []))
        refl (sym (pairs_read a))

    pub fact_loading : length a.names ≤ length a.marks → IsAccepted (theory_in a) (AddFact q) → IsLoading (with_fact a order marks)
    fact_loading room accepted =
        let at = number_within a.names q distinct there in record {
          formed = subst IsWellFormed (sym fact_theory) (edit_keeps (theory_in a) (AddFact q) h.formed accepted);
          as_long = h.as_long;
          lines = h.lines;
          order = subst (λ (ns : List ℕ). All (λ m. m < length a.names) ns) (sym put)
              (All-push (λ m. m < length a.names) a.order n h.order (omega (arith, is, at.0)));
          pairs = h.pairs;
          marks = subst (λ (T : TheoryLists). HasFacts a.names T.facts marks) (sym fact_theory)
              (subst (λ (ms : List Bool). HasFacts a.names ((theory_in a).facts ++ q ∷ []) ms) (sym (marked ∙ ap (λ (m : ℕ). set a.marks m true) is))
              (facts_joined a.names (theory_in a).facts a.marks q distinct there (omega (arith, at.0, room)) h.marks));
        }

-- ---- one rule more

abbrev pub with_rule : LoadedLists → List (List ℕ) → List (Option Line) → LoadedLists
with_rule a ks lines = record a { labels = ks; lines = lines }

module _ (a : LoadedLists) (h : IsLoading a) (r : Rule) where
  -- a label that is new, where there are not so many rules
  pub new_rule : ¬ Contains a.labels r.label → length a.labels < 1000000 → IsAccepted (theory_in a) (AddRule r)
  new_rule new few = (
    λ m. new (subst (λ (ks : List (List ℕ)). Contains ks r.label) (labels_from a h) m),
    omega (arith, few, rules_len a h),
  )

  module _ (distinct : IsDistinct a.names) (known : HasLiterals a.names r) (ks : List (List ℕ)) (lines : List (Option Line)) (put : ks ≡ a.labels ++ r.label ∷ [])
      (entered : lines ≡ a.lines ++ Some (line_in a.names r) ∷ []) where
    pairs_named : map (option_map (named (a.labels ++ r.label ∷ []))) (map Some a.pairs) ≡ map (option_map (named a.labels)) (map Some a.pairs)
    pairs_named =
        pairs_stand a.labels (r.label ∷ []) (map Some a.pairs) (λ l n has. All-contains (IsPairWithin a.labels) a.pairs l h.pairs (has_some a.pairs l n has))

    pub rule_theory : theory_in (with_rule a ks lines) ≡ after_edit (theory_in a) (AddRule r)
    rule_theory =
        theory_is (with_rule a ks lines) (after_edit (theory_in a) (AddRule r)) (sym (facts_read a))
        (ap there
        ((λ i. rules_from a.names (put i) (entered i)) ∙ rules_push a.names a.labels a.lines r.label (Some (line_in a.names r)) h.as_long)
        ∙ there_push (rules_from a.names a.labels a.lines) (rule_from a.names r.label (line_in a.names r))
        ∙ ap (λ (s : Rule). there (rules_from a.names a.labels a.lines) ++ s ∷ []) (rule_read a.names r distinct known))
        (sym (pairs_read (record a { labels = ks })) ∙ ap there (ap (λ (ls : List (List ℕ)). map (option_map (named ls)) (map Some a.pairs)) put ∙ pairs_named))

    pub rule_loading : IsAccepted (theory_in a) (AddRule r) → IsLoading (with_rule a ks lines)
    rule_loading accepted = record {
      formed = subst IsWellFormed (sym rule_theory) (edit_keeps (theory_in a) (AddRule r) h.formed accepted);
      as_long = omega (
        arith,
        h.as_long,
        ap length put,
        ap length entered,
        length-append a.labels (r.label ∷ []),
        length-append a.lines (Some (line_in a.names r) ∷ []),
      );
      lines = subst (λ (ys : List (Option Line)). All (IsThereWithin (length a.names)) ys) (sym entered)
          (All-push (IsThereWithin (length a.names)) a.lines (Some (line_in a.names r)) h.lines
          (refl, numbers_of a.names (length a.names) r distinct known (omega arith)));
      order = h.order;
      pairs = subst (λ (ls : List (List ℕ)). All (IsPairWithin ls) a.pairs) (sym put)
          (All-weaker (IsPairWithin a.labels) (IsPairWithin (a.labels ++ r.label ∷ []))
          (λ l v. (omega (arith, v.0, length-append a.labels (r.label ∷ [])), omega (arith, v.1, length-append a.labels (r.label ∷ [])))) a.pairs h.pairs);
      marks = h.marks;
    }

-- ---- other pairs

abbrev pub with_pairs : LoadedLists → List Link → LoadedLists
with_pairs a links = record a { pairs = links }

module _ (a : LoadedLists) (h : IsLoading a) (links : List Link) where
  pub pairs_theory : theory_in (with_pairs a links) ≡ record (theory_in a) { pairs = map (named a.labels) links }
  pairs_theory = theory_is (with_pairs a links) (record (theory_in a) { pairs = map (named a.labels) links }) (sym (facts_read a)) refl refl

  pub pairs_loading : IsWellFormed (record (theory_in a) { pairs = map (named a.labels) links }) → All (IsPairWithin a.labels) links → IsLoading (with_pairs a links)
  pairs_loading formed within = record {
    formed = subst IsWellFormed (sym pairs_theory) formed;
    as_long = h.as_long;
    lines = h.lines;
    order = h.order;
    pairs = within;
    marks = h.marks;
  }

-- ---- nothing yet

pub none_loading : IsLoading (record { names = []; labels = []; order = []; pairs = []; marks = []; lines = [] })
none_loading = record {
  formed = none_formed;
  as_long = refl;
  lines = All-nil (IsThereWithin 0);
  order = All-nil (λ n. n < 0);
  pairs = All-nil (IsPairWithin []);
  marks = record { marked = λ n lt. absurd (omega (arith, lt)); within = omega arith };
}

-- ---- answers

-- want of memory, as `?` hands it on, stops an edit
pub memory_stops : {A : Type 0} (T U : TheoryLists) (e : Edit) (r : Result A EditStop) → IsErrAnd r (λ stop. stop ≡ edit_stop.Memory) → U ≡ T → IsEdited T e U r
memory_stops T U e (Ok x) memory same = absurd memory
memory_stops T U e (Err stop) memory same = (subst (IsStopped T e) (sym memory) tt, same)

-- an edit that is not stopped is made
pub edited : {A : Type 0} (T U : TheoryLists) (e : Edit) (r : Result A EditStop) → is_err r ≡ false → IsEdited T e U r → U ≡ after_edit T e
edited T U e (Ok x) fine h = h.1
edited T U e (Err stop) fine h = cc
