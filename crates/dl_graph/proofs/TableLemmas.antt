-- The theory that tables stand for, read by number.
use Rattle.std.proofs.Common.{◌≡◌, ℕ, zero, suc, ◌<◌, Option, None, Some, List, [], ◌∷◌, length, get_or, true≢false, refl, sym, ap, subst, ◌∙◌, arith, inl, inr}
use Rattle.std.specs.Prelude.{IsSome, is_some, unwrap_or, option_map, Contains}
use Rattle.std.proofs.lemmas.Bool.{cases_lt}
use Rattle.std.proofs.lemmas.List.Elements.{All-map, Contains-get_or}
use Rattle.dl_lit.specs.declared.literal.Literal.{Literal}
use Rattle.dl_theory.specs.declared.rule.Rule.{Rule}
use Rattle.dl_theory.specs.Edits.{HasLabel}
use Rattle.dl_lists.specs.Last.{IsLast}
use Rattle.dl_rules.specs.Lines.{Line, no_line, line_at, IsThere, IsWithin}
use Rattle.dl_rules.proofs.ThereLemmas.{there_within}
use Rattle.dl_graph.specs.Numbers.{NetLists, HasRule, rule_at, no_rule, number}
use Rattle.dl_graph.specs.Tables.{TableLists, rule_from, rules_from, net_of, AreTables}
use Rattle.dl_graph.proofs.ReadLemmas.{is_there, there_is, line_is}
use Rattle.dl_graph.proofs.Slots.{rule_in}
use Rattle.dl_graph.proofs.FindLemmas.{number_finds, head_in, body_in}
use Rattle.dl_graph.proofs.LabelLemmas.{place_of_label}

pub rules_at : (ls : List Literal) (labels : List (List ℕ)) (lines : List (Option Line)) (k : ℕ) → length labels ≡ length lines
    → get_or (rules_from ls labels lines) k None ≡ option_map (rule_from ls (get_or labels k [])) (get_or lines k None)
rules_at ls [] [] k e = refl
rules_at ls [] (l ∷ lines) k e = absurd (omega (arith, e))
rules_at ls (label ∷ labels) [] k e = absurd (omega (arith, e))
rules_at ls (label ∷ labels) (l ∷ lines) zero e = refl
rules_at ls (label ∷ labels) (l ∷ lines) (suc k) e = rules_at ls labels lines k (omega (arith, e))

some_label : (ls : List Literal) (label : List ℕ) (o : Option Line) → IsSome (option_map (rule_from ls label) o)
    → (unwrap_or (option_map (rule_from ls label) o) no_rule).label ≡ label
some_label ls label None h = absurd (true≢false (sym h))
some_label ls label (Some l) h = refl

some_rule : (ls : List Literal) (label : List ℕ) (o : Option Line) → IsSome o → option_map (rule_from ls label) o ≡ Some (rule_from ls label (unwrap_or o no_line))
some_rule ls label None h = absurd (true≢false (sym h))
some_rule ls label (Some l) h = refl

-- one number is the last
last_once : (xs : List (List ℕ)) (x : List ℕ) (m n : ℕ) → IsLast xs x m → IsLast xs x n → m ≡ n
last_once xs x m n a b =
    elim (cases_lt m n) [
      | inl before ↦ absurd (a.none_later n before b.has)
      | inr after ↦ elim (cases_lt n m) [
        | inl before ↦ absurd (b.none_later m before a.has)
        | inr after' ↦ omega (arith, after, after')
      ]
    ]

module _ (t : TableLists) (are : AreTables t) where
  rules_here : (k : ℕ) → get_or (net_of t).rules k None ≡ option_map (rule_from t.names (get_or t.labels k [])) (get_or t.index.lines k None)
  rules_here k = rules_at t.names t.labels t.index.lines k are.as_long

  -- the label of a rule is that of its number
  pub label_here : (k : ℕ) → HasRule (net_of t) k → (rule_at (net_of t) k).label ≡ get_or t.labels k []
  label_here k h =
      ap (λ (o : Option Rule). (unwrap_or o no_rule).label) (rules_here k)
      ∙ some_label t.names (get_or t.labels k []) (get_or t.index.lines k None) (sym (ap is_some (rules_here k)) ∙ h)

  -- a rule is that of its label and its line
  pub rule_here : (k : ℕ) → IsThere t.index.lines k → get_or (net_of t).rules k None ≡ Some (rule_from t.names (get_or t.labels k []) (line_at t.index.lines k))
  rule_here k h = rules_here k ∙ some_rule t.names (get_or t.labels k []) (get_or t.index.lines k None) h

  -- a rule that is there has a label
  pub label_within : (k : ℕ) → IsThere t.index.lines k → k < length t.labels
  label_within k h = omega (arith, there_within t.index.lines k h, are.as_long)

  pub line_there : (k : ℕ) → HasRule (net_of t) k → IsThere t.index.lines k
  line_there = is_there (net_of t) t.index are.tables.index

  pub rule_is_there : (k : ℕ) → IsThere t.index.lines k → HasRule (net_of t) k
  rule_is_there = there_is (net_of t) t.index are.tables.index

  -- the numbers of a rule that is there are those of names
  pub line_named : (k : ℕ) → IsThere t.index.lines k → IsWithin (length t.names) (line_at t.index.lines k)
  line_named k l =
      let N : NetLists = net_of t in
      let h : HasRule N k = rule_is_there k l in
      let r : Rule = rule_at N k in
      let m : Contains N.theory.rules r = rule_in N are.numbered k h in
      subst (λ (l : Line). IsWithin (length t.names) l) (sym (line_is N t.index are.tables.index k h)) (
        (number_finds N are.numbered r.head (head_in N are.numbered r m)).0,
        All-map (λ b. b < length t.names) (number N) r.body
            (λ j d lt. (number_finds N are.numbered (get_or r.body j d) (body_in N are.numbered r m (get_or r.body j d) (Contains-get_or r.body j d lt))).0),
      )

  -- ---- labels

  -- a rule with a label is there
  pub label_has : (l : List ℕ) → HasLabel (net_of t).theory l → (k : ℕ) × IsThere t.index.lines k × (get_or t.labels k [] ≡ l)
  label_has l m =
      let at = place_of_label (net_of t) are.numbered are.formed.labels_distinct l m in
      (at.0, line_there at.0 at.1, sym (label_here at.0 at.1) ∙ at.2)

  -- no rule has a label that no number has
  pub label_none : (l : List ℕ) → (¬ Contains t.labels l) → ¬ HasLabel (net_of t).theory l
  label_none l absent m =
      let at = label_has l m in
      absent (subst (λ (x : List ℕ). Contains t.labels x) at.2 (Contains-get_or t.labels at.0 [] (label_within at.0 at.1)))

  -- the rule with a label is at the last number with it
  pub label_last : (l : List ℕ) (n : ℕ) → IsLast t.labels l n → HasLabel (net_of t).theory l → IsThere t.index.lines n
  label_last l n last m =
      let at = label_has l m in
      let same : IsLast t.labels l at.0 = subst (λ (x : List ℕ). IsLast t.labels x at.0) at.2 (are.latest at.0 at.1) in
      subst (λ (k : ℕ). IsThere t.index.lines k) (last_once t.labels l at.0 n same last) at.1
