-- What one pair adds to the rules below and above.
use Rattle.std.proofs.Common.{◌≡◌, ◌≢◌, ℕ, ◌<◌, ◌==◌, ◌&&◌, Bool, true, false, Option, None, Some, List, [], ◌∷◌, ◌++◌, length, get_or, set, map, refl, sym, ap, subst, ◌∙◌, arith, cond, append-nil, inl, inr}
use Rattle.std.specs.Prelude.{Contains, flat_map, unwrap_or, option_map}
use Rattle.std.specs.Str.{bytes_eq}
use Rattle.std.specs.Set.{is_member}
use Rattle.std.proofs.lemmas.Bool.{cases_eq}
use Rattle.std.proofs.lemmas.Bool.Decides.{Decides-eqb, Decides-like, same_from_decides}
use Rattle.std.proofs.lemmas.List.{get_or-map, get_or_default}
use Rattle.std.proofs.lemmas.List.Concat.{flat_map-append}
use Rattle.std.proofs.lemmas.Slice.Eq.{bytes_eq-Decides}
use Rattle.std.proofs.lemmas.Map.Made.{is_member-Decides}
use Rattle.dl_base.specs.Paths.{IsDistinct}
use Rattle.dl_base.proofs.Filters.{false_unless}
use Rattle.dl_base.proofs.Members.{only, map_agree}
use Rattle.dl_lit.specs.declared.literal.Literal.{Literal}
use Rattle.dl_lit.specs.Literal.{complement, literal_eq}
use Rattle.dl_lit.specs.Order.{literal_eq-Decides}
use Rattle.dl_theory.specs.declared.rule.Rule.{Rule}
use Rattle.dl_theory.specs.declared.rule.Pair.{Pair}
use Rattle.dl_theory.specs.Tests as test
use Rattle.dl_rows.specs.Tables.{list_of}
use Rattle.dl_rows.proofs.TableLemmas.{map_changed}
use Rattle.dl_rows.proofs.There.{has_within}
use Rattle.dl_names.specs.Paired.{flip, IsPaired, number_in}
use Rattle.dl_names.proofs.NameLemmas.{number_at, number_within, paired_at}
use Rattle.dl_rules.specs.Lines.{Line, no_line, line_at}
use Rattle.dl_graph.specs.Numbers.{NetLists, HasRule, rule_at, of_rule, labelled}
use Rattle.dl_graph.specs.Above.{lower_step, upper_step}
use Rattle.dl_graph.specs.Named.{line_in}
use Rattle.dl_graph.proofs.Slots.{rule_there, there_rule}
use Rattle.dl_graph.proofs.FindLemmas.{head_named}
use Rattle.dl_graph.proofs.LabelLemmas.{labelled_is, label_once}
use Rattle.dl_graph.proofs.ReadLemmas.{slot_map}
use Rattle.dl_net.specs.Linking.{AreRules, IsPairOf}

-- ---- the heads of two rules, by number

pub meets_is : (ls : List Literal) (q r : Literal) → IsDistinct ls → IsPaired ls → Contains ls q → Contains ls r
    → (number_in ls r == flip (number_in ls q)) ≡ is_member literal_eq (complement q ∷ []) r
meets_is ls q r distinct paired mq mr =
    let nq = number_within ls q distinct mq in
    let nr = number_within ls r distinct mr in
    let at = paired_at ls paired (number_in ls q) q nq.0 in
    let there : get_or ls (flip (number_in ls q)) q ≡ complement q = at.1 ∙ ap complement (nq.1 q) in
    same_from_decides (number_in ls r == flip (number_in ls q)) (is_member literal_eq (complement q ∷ []) r)
    (Decides-eqb (number_in ls r) (flip (number_in ls q)))
    (Decides-like (is_member literal_eq (complement q ∷ []) r)
    (λ m. ap (number_in ls) (only (complement q) r m ∙ sym there) ∙ number_at ls (flip (number_in ls q)) q distinct at.0)
    (λ e. (0, omega arith, sym (sym (nr.1 q) ∙ ap (λ k. get_or ls k q) e ∙ there)))
    (is_member-Decides literal_eq-Decides (complement q ∷ []) r))

module _ (N : NetLists) (ls : List Literal) (lines : List (Option Line)) (are : AreRules N ls lines) (distinct : IsDistinct ls) (paired : IsPaired ls) where
  line_is : (k : ℕ) → HasRule N k → line_at lines k ≡ line_in ls (rule_at N k)
  line_is k h =
      ap (λ (xs : List (Option Line)). line_at xs k) are.are
      ∙ ap (λ (o : Option Line). unwrap_or o no_line)
      (slot_map (line_in N.names) N.rules k ∙ ap (option_map (line_in N.names)) (rule_there N k h))
      ∙ ap (λ (names : List Literal). line_in names (rule_at N k)) are.names

  head_known : (k : ℕ) → HasRule N k → Contains ls (rule_at N k).head
  head_known k h = subst (λ (names : List Literal). Contains names (rule_at N k).head) are.names (head_named N are.numbered k h)

  -- the numbers tell whether one head attacks the other
  pub meet_is : (u l : ℕ) → HasRule N u → HasRule N l
      → ((line_at lines l).head == flip (line_at lines u).head) ≡ test.is_opposing N.theory (rule_at N u).head (rule_at N l)
  meet_is u l hu hl =
      (λ i. (line_is l hl i).head == flip (line_is u hu i).head)
      ∙ meets_is ls (rule_at N u).head (rule_at N l).head distinct paired (head_known u hu) (head_known l hl)

-- ---- where a pair leads down, and where up

module _ (N : NetLists) (ls : List Literal) (lines : List (Option Line)) (are : AreRules N ls lines) (p : Pair) (u l : ℕ) (pair : IsPairOf N p u l) where
  pub lower_here : lower_step N p (rule_at N u) ≡ cond (test.is_opposing N.theory (rule_at N u).head (rule_at N l)) (l ∷ []) []
  lower_here =
      ap (λ b. cond b (labelled N p.lower (test.is_opposing N.theory (rule_at N u).head)) [])
      ((bytes_eq-Decides p.upper (rule_at N u).label).1 (sym pair.upper_label))
      ∙ labelled_is N are.numbered are.distinct p.lower (test.is_opposing N.theory (rule_at N u).head) l pair.lower_there pair.lower_label

  pub lower_elsewhere : (i : ℕ) → HasRule N i → i ≢ u → lower_step N p (rule_at N i) ≡ []
  lower_elsewhere i h other =
      ap (λ b. cond b (labelled N p.lower (test.is_opposing N.theory (rule_at N i).head)) [])
      (false_unless (bytes_eq p.upper (rule_at N i).label) (bytes_eq-Decides p.upper (rule_at N i).label)
      (λ e. other (label_once N are.numbered are.distinct i u h pair.upper_there (sym e ∙ sym pair.upper_label))))

  and_true : (b : Bool) → (b && true) ≡ b
  and_true true = refl
  and_true false = refl

  pub upper_here : upper_step N p (rule_at N l) ≡ cond (test.is_opposing N.theory (rule_at N u).head (rule_at N l)) (u ∷ []) []
  upper_here =
      ap (λ b. cond b (labelled N p.upper (λ t. test.is_opposing N.theory t.head (rule_at N l) && true)) [])
      ((bytes_eq-Decides p.lower (rule_at N l).label).1 (sym pair.lower_label))
      ∙ labelled_is N are.numbered are.distinct p.upper (λ t. test.is_opposing N.theory t.head (rule_at N l) && true) u pair.upper_there pair.upper_label
      ∙ ap (λ b. cond b (u ∷ []) []) (and_true (test.is_opposing N.theory (rule_at N u).head (rule_at N l)))

  pub upper_elsewhere : (i : ℕ) → HasRule N i → i ≢ l → upper_step N p (rule_at N i) ≡ []
  upper_elsewhere i h other =
      ap (λ b. cond b (labelled N p.upper (λ t. test.is_opposing N.theory t.head (rule_at N i) && true)) [])
      (false_unless (bytes_eq p.lower (rule_at N i).label) (bytes_eq-Decides p.lower (rule_at N i).label)
      (λ e. other (label_once N are.numbered are.distinct i l h pair.lower_there (sym e ∙ sym pair.lower_label))))

-- ---- lists at the numbers of rules, where one changes

module _ (N : NetLists) (F F' : Rule → List ℕ) where
  same_at : (i : ℕ) (o : Option Rule) → get_or N.rules i None ≡ o → (HasRule N i → F' (rule_at N i) ≡ F (rule_at N i)) → of_rule F' o ≡ of_rule F o
  same_at i None e same = refl
  same_at i (Some r) e same =
      let at = there_rule N i r e in
      subst (λ (x : Rule). F' x ≡ F x) at.1 (same at.0)

  pub slots_changed : (f : List ℕ → List ℕ) (u : ℕ) → HasRule N u → F' (rule_at N u) ≡ f (F (rule_at N u))
      → ((i : ℕ) → HasRule N i → i ≢ u → F' (rule_at N i) ≡ F (rule_at N i))
      → map (of_rule F') N.rules ≡ set (map (of_rule F) N.rules) u (f (list_of (map (of_rule F) N.rules) u))
  slots_changed f u hu here other =
      let there : get_or N.rules u None ≡ Some (rule_at N u) = rule_there N u hu in
      let lt : u < length N.rules = has_within N.rules (rule_at N u) u there in
      map_changed (of_rule F) (of_rule F') N.rules u None (f (list_of (map (of_rule F) N.rules) u)) lt
      (ap (of_rule F') there ∙ here ∙ ap f (ap (of_rule F) (sym there) ∙ sym (get_or-map (of_rule F) N.rules u None [] lt)))
      (λ i within differs. same_at i (get_or N.rules i None) refl (λ hi. other i hi differs))

  pub slots_same : ((i : ℕ) → HasRule N i → F' (rule_at N i) ≡ F (rule_at N i)) → map (of_rule F') N.rules ≡ map (of_rule F) N.rules
  slots_same same =
      map_agree (of_rule F') (of_rule F) N.rules
      (λ i d within. subst (λ (o : Option Rule). of_rule F' o ≡ of_rule F o) (get_or_default N.rules i None d within)
      (same_at i (get_or N.rules i None) refl (same i)))

-- of which one gets one more number, or none
module _ (F step : Rule → List ℕ) (N : NetLists) (k : ℕ) (there : HasRule N k) (elsewhere : (i : ℕ) → HasRule N i → i ≢ k → step (rule_at N i) ≡ []) where
  abbrev more : Rule → List ℕ
  more t = F t ++ step t

  nothing_more : (i : ℕ) → step (rule_at N i) ≡ [] → more (rule_at N i) ≡ F (rule_at N i)
  nothing_more i none = ap (λ (ys : List ℕ). F (rule_at N i) ++ ys) none ∙ append-nil (F (rule_at N i))

  joined_step : (x : ℕ) → step (rule_at N k) ≡ x ∷ []
      → set (map (of_rule F) N.rules) k (list_of (map (of_rule F) N.rules) k ++ x ∷ []) ≡ map (of_rule more) N.rules
  joined_step x here =
      sym (slots_changed N F more (λ ys. ys ++ x ∷ []) k there (ap (λ (ys : List ℕ). F (rule_at N k) ++ ys) here)
      (λ i h other. nothing_more i (elsewhere i h other)))

  joined_none : step (rule_at N k) ≡ [] → map (of_rule F) N.rules ≡ map (of_rule more) N.rules
  joined_none here =
      sym (slots_same N F more (λ i h. nothing_more i (elim (cases_eq i k) [
        | inl e ↦ ap (λ j. step (rule_at N j)) e ∙ here
        | inr other ↦ elsewhere i h other
      ])))

-- ---- one pair more

module _ (N : NetLists) (ls : List Literal) (lines : List (Option Line)) (are : AreRules N ls lines) (distinct : IsDistinct ls) (paired : IsPaired ls)
    (p : Pair) (u l : ℕ) (pair : IsPairOf N p u l) (met : Bool) (tells : met ≡ ((line_at lines l).head == flip (line_at lines u).head)) where
  opposes : (b : Bool) → met ≡ b → test.is_opposing N.theory (rule_at N u).head (rule_at N l) ≡ b
  opposes b e = sym (meet_is N ls lines are distinct paired u l pair.upper_there pair.lower_there) ∙ sym tells ∙ e

  pub lowers_joined : met ≡ true → (F : Rule → List ℕ)
      → set (map (of_rule F) N.rules) u (list_of (map (of_rule F) N.rules) u ++ l ∷ []) ≡ map (of_rule (λ t. F t ++ lower_step N p t)) N.rules
  lowers_joined e F =
      joined_step F (lower_step N p) N u pair.upper_there (lower_elsewhere N ls lines are p u l pair) l
      (lower_here N ls lines are p u l pair ∙ ap (λ b. cond b (l ∷ []) []) (opposes true e))

  pub lowers_none : met ≡ false → (F : Rule → List ℕ) → map (of_rule F) N.rules ≡ map (of_rule (λ t. F t ++ lower_step N p t)) N.rules
  lowers_none e F =
      joined_none F (lower_step N p) N u pair.upper_there (lower_elsewhere N ls lines are p u l pair)
      (lower_here N ls lines are p u l pair ∙ ap (λ b. cond b (l ∷ []) []) (opposes false e))

  pub uppers_joined : met ≡ true → (F : Rule → List ℕ)
      → set (map (of_rule F) N.rules) l (list_of (map (of_rule F) N.rules) l ++ u ∷ []) ≡ map (of_rule (λ t. F t ++ upper_step N p t)) N.rules
  uppers_joined e F =
      joined_step F (upper_step N p) N l pair.lower_there (upper_elsewhere N ls lines are p u l pair) u
      (upper_here N ls lines are p u l pair ∙ ap (λ b. cond b (u ∷ []) []) (opposes true e))

  pub uppers_none : met ≡ false → (F : Rule → List ℕ) → map (of_rule F) N.rules ≡ map (of_rule (λ t. F t ++ upper_step N p t)) N.rules
  uppers_none e F =
      joined_none F (upper_step N p) N l pair.lower_there (upper_elsewhere N ls lines are p u l pair)
      (upper_here N ls lines are p u l pair ∙ ap (λ b. cond b (u ∷ []) []) (opposes false e))

-- what one more member adds to a list of lists
pub flat_map-push : {X : Type 0} (f : X → List ℕ) (xs : List X) (x : X) → flat_map f (xs ++ x ∷ []) ≡ flat_map f xs ++ f x
flat_map-push f xs x = flat_map-append f xs (x ∷ []) ∙ ap (λ (ys : List ℕ). flat_map f xs ++ ys) (append-nil (f x))
