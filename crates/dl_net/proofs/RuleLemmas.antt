-- Tables with a rule more.
use Rattle.std.proofs.Common.{◌≡◌, ◌<◌, ◌&&◌, ℕ, suc, Bool, true, false, cond, Option, None, Some, List, [], ◌∷◌, ◌++◌, length, get_or, map, replicate, refl, sym, ap, subst, ◌∙◌, inl, inr, arith, length-append, true≢false}
use Rattle.std.specs.Prelude.{All, Contains, IfSome, IfNone, is_some, option_map}
use Rattle.std.specs.Str.{bytes_eq}
use Rattle.std.proofs.Math.ListN.{get_or-append}
use Rattle.std.proofs.lemmas.List.{map-append, get_or_push}
use Rattle.std.proofs.lemmas.List.Elements.{All-push}
use Rattle.std.proofs.lemmas.Slice.Eq.{bytes_eq-Decides}
use Rattle.dl_base.specs.Paths.{IsDistinct}
use Rattle.dl_base.proofs.Filters.{false_unless}
use Rattle.dl_base.proofs.Members.{Contains-mapped, map_agree}
use Rattle.dl_lit.specs.declared.literal.Literal.{Literal}
use Rattle.dl_sup.specs.declared.link.Link.{Link}
use Rattle.dl_theory.specs.declared.rule.Rule.{Rule}
use Rattle.dl_theory.specs.declared.rule.Pair.{Pair}
use Rattle.dl_theory.specs.declared.edit.Edit.TheVariants.{AddRule}
use Rattle.dl_theory.specs.Lists.{TheoryLists, IsWellFormed, labels}
use Rattle.dl_theory.specs.Pairs.{named}
use Rattle.dl_theory.specs.Edits.{IsAccepted, HasLabel, after_edit}
use Rattle.dl_theory.specs.Tests as test
use Rattle.dl_theory.proofs.WellFormed.{edit_keeps}
use Rattle.dl_rows.specs.Counting.{times}
use Rattle.dl_rows.specs.Rows.{places_from}
use Rattle.dl_rows.specs.There.{there, HasNumber}
use Rattle.dl_rows.proofs.There.{push_has, there_push}
use Rattle.dl_rules.specs.Lines.{Line, IndexLists, IsThere}
use Rattle.dl_rules.proofs.ThereLemmas.{there_is, there_kept}
use Rattle.dl_lists.specs.Last.{IsLast}
use Rattle.dl_lists.proofs.LastLemmas.{last_push, last_kept}
use Rattle.dl_names.specs.Paired.{number_in}
use Rattle.dl_names.proofs.NameLemmas.{number_within}
use Rattle.dl_graph.specs.Numbers.{NetLists, IsNumbered, HasRule, no_literal, rule_at, of_rule, mark_row, labelled, lowers_row, uppers_row}
use Rattle.dl_graph.specs.Above.{lower_step, upper_step}
use Rattle.dl_graph.specs.Named.{HasLiterals, line_in}
use Rattle.dl_graph.specs.Tables.{TableLists, AreTables, HasTables, literal_in, rule_from, rules_from, rules_of, pairs_of, theory_of, net_of}
use Rattle.dl_graph.proofs.Slots.{rule_in}
use Rattle.dl_graph.proofs.TableLemmas.{label_here, label_within, rule_is_there}
use Rattle.dl_net.proofs.NetLemmas.{names_distinct, numbered_by}
use Rattle.dl_net.proofs.JoinLemmas.{flat_agree, flat_none}

-- ---- numbers of rules and labels

-- a rule that is there has the label of its number
pub has_label : (t : TableLists) → AreTables t → (n : ℕ) → IsThere t.index.lines n → HasLabel (theory_of t) (get_or t.labels n [])
has_label t h n at =
    let has : HasRule (net_of t) n = rule_is_there t h n at in
    subst (λ (l : List ℕ). HasLabel (theory_of t) l) (label_here t h n has)
    (Contains-mapped (λ (r : Rule). r.label) (theory_of t).rules (rule_at (net_of t) n) (rule_in (net_of t) h.numbered n has))

-- what was found of a label says whether a rule has it
pub label_found : (t : TableLists) → AreTables t → (label : List ℕ) (o : Option ℕ) → IfSome o (λ r. IsThere t.index.lines r)
    → IfSome o (λ r. get_or t.labels r [] ≡ label) → is_some o ≡ true → HasLabel (theory_of t) label
label_found t h label None there is some = absurd (true≢false (sym some))
label_found t h label (Some r) there is some = subst (λ (l : List ℕ). HasLabel (theory_of t) l) is (has_label t h r there)

pub label_missing : (t : TableLists) (label : List ℕ) (o : Option ℕ) → IfNone o (¬ HasLabel (theory_of t) label) → is_some o ≡ false → ¬ HasLabel (theory_of t) label
label_missing t label None absent none = absent
label_missing t label (Some r) absent none = absurd (true≢false none)

pub rules_push : (ls : List Literal) (labels : List (List ℕ)) (lines : List (Option Line)) (label : List ℕ) (l : Option Line) → length labels ≡ length lines
    → rules_from ls (labels ++ label ∷ []) (lines ++ l ∷ []) ≡ rules_from ls labels lines ++ option_map (rule_from ls label) l ∷ []
rules_push ls [] [] label l e = refl
rules_push ls [] (k ∷ lines) label l e = absurd (omega (arith, e))
rules_push ls (m ∷ labels) [] label l e = absurd (omega (arith, e))
rules_push ls (m ∷ labels) (k ∷ lines) label l e =
    ap (λ (rs : List (Option Rule)). option_map (rule_from ls m) k ∷ rs) (rules_push ls labels lines label l (omega (arith, e)))

-- a rule is that of its numbers
pub rule_read : (ls : List Literal) (r : Rule) → IsDistinct ls → HasLiterals ls r → rule_from ls r.label (line_in ls r) ≡ r
rule_read ls r distinct h = λ i. record r { body = body r.body h.1 i; head = (number_within ls r.head distinct h.0).1 no_literal i }
  where
    body : (qs : List Literal) → All (Contains ls) qs → map (literal_in ls) (map (number_in ls) qs) ≡ qs
    body [] all = refl
    body (q ∷ qs) all =
        λ i. (number_within ls q distinct (all 0 q (omega arith))).1 no_literal i
        ∷ body qs (λ k d lt. all (suc k) d (omega (arith, lt))) i

-- pairs keep their labels while others come
pub pairs_stand : (labels more : List (List ℕ)) (pairs : List (Option Link)) → ((l : Link) (n : ℕ) → HasNumber pairs l n → (l.upper < length labels) × (l.lower < length labels))
    → map (option_map (named (labels ++ more))) pairs ≡ map (option_map (named labels)) pairs
pairs_stand labels more [] h = refl
pairs_stand labels more (None ∷ pairs) h = ap (λ (ps : List (Option Pair)). None ∷ ps) (pairs_stand labels more pairs (λ l n. h l (suc n)))
pairs_stand labels more (Some l ∷ pairs) h =
    λ i. Some (record { upper = get_or-append labels more [] l.upper (h l 0 refl).0 i; lower = get_or-append labels more [] l.lower (h l 0 refl).1 i })
    ∷ pairs_stand labels more pairs (λ l n. h l (suc n)) i

-- ---- places with one more at the end

pub places_push : {X : Type 0} (f : X → List ℕ) (q : ℕ) (xs : List X) (k : ℕ) (x : X) → times q (f x) ≡ 0 → places_from f k (xs ++ x ∷ []) q ≡ places_from f k xs q
places_push f q [] k x none = ap (λ n. replicate n k ++ []) none
places_push f q (y ∷ xs) k x none = ap (λ (ps : List ℕ). replicate (times q (f y)) k ++ ps) (places_push f q xs (suc k) x none)

pub rows_push : (g g' : Option Rule → List ℕ) (rs : List (Option Rule)) (r : Option Rule) → ((o : Option Rule) → g' o ≡ g o) → g' r ≡ []
    → map g' (rs ++ r ∷ []) ≡ map g rs ++ [] ∷ []
rows_push g g' rs r same none =
    map-append g' rs (r ∷ []) ∙ (λ i. map_agree g' g rs (λ j d lt. same (get_or rs j d)) i ++ none i ∷ [])

-- ---- a rule with a label that is free

module _ (N : NetLists) (r : Rule) (fresh : ¬ HasLabel N.theory r.label)
    (known : All (λ p. Contains (labels N.theory) p.upper × Contains (labels N.theory) p.lower) N.theory.pairs) where
  abbrev joined : NetLists
  joined = record N { theory = after_edit N.theory (AddRule r); rules = N.rules ++ Some r ∷ [] }

  other_label : (l : List ℕ) → Contains (labels N.theory) l → bytes_eq r.label l ≡ false
  other_label l there =
      false_unless (bytes_eq r.label l) (bytes_eq-Decides r.label l) (λ e. fresh (subst (λ (x : List ℕ). Contains (labels N.theory) x) (sym e) there))

  unmarked : (b v : Bool) → b ≡ false → times 0 (mark_row (b && v)) ≡ 0
  unmarked true v e = cc
  unmarked false v e = refl

  pub labelled_joined : (l : List ℕ) (p : Rule → Bool) → Contains (labels N.theory) l → labelled joined l p ≡ labelled N l p
  labelled_joined l p there =
      places_push (of_rule (λ x. mark_row (bytes_eq x.label l && p x))) 0 N.rules 0 (Some r) (unmarked (bytes_eq r.label l) (p r) (other_label l there))

  away : (l : List ℕ) (xs : List ℕ) → Contains (labels N.theory) l → cond (bytes_eq l r.label) xs [] ≡ []
  away l xs there =
      ap (λ b. cond b xs [])
      (false_unless (bytes_eq l r.label) (bytes_eq-Decides l r.label) (λ e. fresh (subst (λ (x : List ℕ). Contains (labels N.theory) x) e there)))

  lowers_same : (o : Option Rule) → of_rule (lowers_row joined) o ≡ of_rule (lowers_row N) o
  lowers_same None = refl
  lowers_same (Some t) =
      flat_agree (λ p. lower_step joined p t) (λ p. lower_step N p t) N.theory.pairs
      (λ j d lt. ap (λ (xs : List ℕ). cond (bytes_eq (get_or N.theory.pairs j d).upper t.label) xs [])
      (labelled_joined (get_or N.theory.pairs j d).lower (test.is_opposing N.theory t.head) (known j d lt).1))

  uppers_same : (o : Option Rule) → of_rule (uppers_row joined (λ _. true)) o ≡ of_rule (uppers_row N (λ _. true)) o
  uppers_same None = refl
  uppers_same (Some u) =
      flat_agree (λ p. upper_step joined p u) (λ p. upper_step N p u) N.theory.pairs
      (λ j d lt. ap (λ (xs : List ℕ). cond (bytes_eq (get_or N.theory.pairs j d).lower u.label) xs [])
      (labelled_joined (get_or N.theory.pairs j d).upper (λ t. test.is_opposing N.theory t.head u && true) (known j d lt).0))

  lowers_new : lowers_row joined r ≡ []
  lowers_new =
      flat_none (λ p. lower_step joined p r) N.theory.pairs
      (λ j d lt. away (get_or N.theory.pairs j d).upper (labelled joined (get_or N.theory.pairs j d).lower (test.is_opposing N.theory r.head)) (known j d lt).0)

  uppers_new : uppers_row joined (λ _. true) r ≡ []
  uppers_new =
      flat_none (λ p. upper_step joined p r) N.theory.pairs
      (λ j d lt. away (get_or N.theory.pairs j d).lower
      (labelled joined (get_or N.theory.pairs j d).upper (λ t. test.is_opposing N.theory t.head r && true)) (known j d lt).1)

  pub lowers_joined : map (of_rule (lowers_row joined)) joined.rules ≡ map (of_rule (lowers_row N)) N.rules ++ [] ∷ []
  lowers_joined = rows_push (of_rule (lowers_row N)) (of_rule (lowers_row joined)) N.rules (Some r) lowers_same lowers_new

  pub uppers_joined : map (of_rule (uppers_row joined (λ _. true))) joined.rules ≡ map (of_rule (uppers_row N (λ _. true))) N.rules ++ [] ∷ []
  uppers_joined = rows_push (of_rule (uppers_row N (λ _. true))) (of_rule (uppers_row joined (λ _. true))) N.rules (Some r) uppers_same uppers_new

-- ---- tables with the rule

abbrev pub with_rule : TableLists → List ℕ → IndexLists → TableLists
with_rule t label x = record t { labels = t.labels ++ label ∷ []; index = x }

module _ (t : TableLists) (h : AreTables t) (r : Rule) (x : IndexLists) (accepted : IsAccepted (theory_of t) (AddRule r)) (named : HasLiterals t.names r)
    (lines : x.lines ≡ t.index.lines ++ Some (line_in t.names r) ∷ []) (lowers : x.lowers ≡ t.index.lowers ++ [] ∷ []) (uppers : x.uppers ≡ t.index.uppers ++ [] ∷ []) where
  abbrev grown : NetLists
  grown = joined (net_of t) r accepted.0 h.formed.pairs_label_rules

  distinct : IsDistinct t.names
  distinct = names_distinct (net_of t) h.numbered

  pub rules_with : rules_of (with_rule t r.label x) ≡ rules_of t ++ Some r ∷ []
  rules_with =
      ap (rules_from t.names (t.labels ++ r.label ∷ [])) lines
      ∙ rules_push t.names t.labels t.index.lines r.label (Some (line_in t.names r)) h.as_long
      ∙ ap (λ (s : Rule). rules_of t ++ Some s ∷ []) (rule_read t.names r distinct named)

  pairs_with : pairs_of (with_rule t r.label x) ≡ pairs_of t
  pairs_with =
      pairs_stand t.labels (r.label ∷ []) t.pairs
      (λ l n has. let both = h.joined l n has in (label_within t h l.upper both.0, label_within t h l.lower both.1))

  net_with : net_of (with_rule t r.label x) ≡ grown
  net_with = λ i. record (net_of t) {
    theory = record (theory_of t) { rules = (ap there rules_with ∙ there_push (rules_of t) r) i; pairs = there (pairs_with i) };
    rules = rules_with i;
    pairs = pairs_with i;
  }

  pub theory_with : theory_of (with_rule t r.label x) ≡ after_edit (theory_of t) (AddRule r)
  theory_with = ap (λ (N : NetLists). N.theory) net_with

  literals_with : All (HasLiterals t.names) grown.theory.rules
  literals_with = All-push (HasLiterals t.names) (theory_of t).rules r h.tables.rules_named named

  held : HasTables grown t.marks x
  held = record {
    facts_named = h.tables.facts_named;
    rules_named = literals_with;
    facts = h.tables.facts;
    index = record {
      lines = lines
          ∙ ap (λ (ys : List (Option Line)). ys ++ Some (line_in t.names r) ∷ []) h.tables.index.lines
          ∙ sym (map-append (option_map (line_in t.names)) (rules_of t) (Some r ∷ []));
      lowers = lowers
          ∙ ap (λ (ys : List (List ℕ)). ys ++ [] ∷ []) h.tables.index.lowers
          ∙ sym (lowers_joined (net_of t) r accepted.0 h.formed.pairs_label_rules);
      uppers = uppers
          ∙ ap (λ (ys : List (List ℕ)). ys ++ [] ∷ []) h.tables.index.uppers
          ∙ sym (uppers_joined (net_of t) r accepted.0 h.formed.pairs_label_rules);
    };
  }

  -- the last number with the label of each rule
  latest_old : (n : ℕ) → IsThere t.index.lines n → IsLast (t.labels ++ r.label ∷ []) (get_or (t.labels ++ r.label ∷ []) n []) n
  latest_old n at =
      subst (λ (l : List ℕ). IsLast (t.labels ++ r.label ∷ []) l n) (sym (get_or-append t.labels (r.label ∷ []) [] n (label_within t h n at)))
      (last_kept t.labels (get_or t.labels n []) r.label n
      (λ e. accepted.0 (subst (λ (l : List ℕ). HasLabel (theory_of t) l) (sym e) (has_label t h n at)))
      (h.latest n at))

  latest_new : IsLast (t.labels ++ r.label ∷ []) (get_or (t.labels ++ r.label ∷ []) (length t.labels) []) (length t.labels)
  latest_new =
      subst (λ (l : List ℕ). IsLast (t.labels ++ r.label ∷ []) l (length t.labels)) (sym (get_or_push t.labels r.label [] (length t.labels) refl))
      (last_push t.labels r.label)

  latest_with : (n : ℕ) → IsThere (t.index.lines ++ Some (line_in t.names r) ∷ []) n → IsLast (t.labels ++ r.label ∷ []) (get_or (t.labels ++ r.label ∷ []) n []) n
  latest_with n at =
      elim (push_has t.index.lines (Some (line_in t.names r)) _ n (there_is (get_or (t.index.lines ++ Some (line_in t.names r) ∷ []) n None) at)) [
        | inl old ↦ latest_old n (ap is_some old)
        | inr new ↦
            let last : length t.labels ≡ n = omega (arith, new.0, h.as_long) in
            subst (λ (k : ℕ). IsLast (t.labels ++ r.label ∷ []) (get_or (t.labels ++ r.label ∷ []) k []) k) last latest_new
      ]

  pub tables_with : AreTables (with_rule t r.label x)
  tables_with = record {
    as_long = omega (arith, h.as_long, ap length lines, length-append t.labels (r.label ∷ []), length-append t.index.lines (Some (line_in t.names r) ∷ []));
    facts_within = h.facts_within;
    formed = subst (λ (T : TheoryLists). IsWellFormed T) (sym theory_with) (edit_keeps (theory_of t) (AddRule r) h.formed accepted);
    numbered =
        subst (λ (N : NetLists). IsNumbered N) (sym net_with)
        (numbered_by grown distinct h.paired h.tables.facts_named literals_with refl (sym (there_push (rules_of t) r)) refl);
    paired = h.paired;
    tables = subst (λ (N : NetLists). HasTables N t.marks x) (sym net_with) held;
    latest = λ n at. latest_with n (subst (λ (ls : List (Option Line)). IsThere ls n) lines at);
    joined = λ l n has.
        let both = h.joined l n has in
        subst (λ (ls : List (Option Line)). IsThere ls l.upper × IsThere ls l.lower) (sym lines) (
          there_kept t.index.lines (Some (line_in t.names r)) l.upper both.0,
          there_kept t.index.lines (Some (line_in t.names r)) l.lower both.1,
        );
  }
