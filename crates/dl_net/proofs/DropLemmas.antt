-- Tables of which a rule went.
use Rattle.std.proofs.Common.{◌≡◌, ◌≢◌, ◌+◌, ◌<◌, ◌==◌, ◌&&◌, ◌||◌, ◌⊎◌, ℕ, zero, suc, Bool, true, false, not, cond, Option, None, Some, List, [], ◌∷◌, ◌++◌, length, get_or, set, map, replicate, refl, sym, ap, subst, ◌∙◌, inl, inr, arith}
use Rattle.std.specs.Prelude.{All, is_some, filter, flat_map, option_map}
use Rattle.std.specs.Str.{bytes_eq}
use Rattle.std.proofs.Math.ListN.{length-set}
use Rattle.std.proofs.lemmas.Bool.Decides.{Decides-eqb, Decides-like, same_from_decides}
use Rattle.std.proofs.lemmas.List.{map-set}
use Rattle.std.proofs.lemmas.List.Elements.{All-filter, filter-append}
use Rattle.std.proofs.lemmas.Slice.Eq.{bytes_eq-Decides}
use Rattle.dl_base.specs.Paths.{IsDistinct}
use Rattle.dl_base.proofs.Filters.{false_unless}
use Rattle.dl_lit.specs.declared.literal.Literal.{Literal}
use Rattle.dl_sup.specs.declared.link.Link.{Link}
use Rattle.dl_sup.specs.Links.{names_item}
use Rattle.dl_theory.specs.declared.rule.Rule.{Rule}
use Rattle.dl_theory.specs.declared.rule.Pair.{Pair}
use Rattle.dl_theory.specs.declared.edit.Edit.TheVariants.{DropRule}
use Rattle.dl_theory.specs.Lists.{TheoryLists, IsWellFormed, labels}
use Rattle.dl_theory.specs.Pairs.{named}
use Rattle.dl_theory.specs.Edits.{IsAccepted, after_edit}
use Rattle.dl_theory.specs.Tests as test
use Rattle.dl_theory.proofs.WellFormed.{edit_keeps}
use Rattle.dl_rows.specs.Counting.{times}
use Rattle.dl_rows.specs.Rows.{places_from}
use Rattle.dl_rows.specs.Tables.{drop_item}
use Rattle.dl_rows.specs.There.{there, HasNumber, kept_if}
use Rattle.dl_rows.proofs.NumberLists.{alike, differ}
use Rattle.dl_rows.proofs.There.{drop_has, one_goes, there_filter}
use Rattle.dl_rules.specs.Lines.{Line, IndexLists, IsThere}
use Rattle.dl_rules.proofs.ThereLemmas.{there_is, there_left}
use Rattle.dl_graph.specs.Numbers.{NetLists, IsNumbered, HasRule, rule_at, of_rule, mark_row, labelled, lowers_row, uppers_row}
use Rattle.dl_graph.specs.Above.{lower_step, upper_step}
use Rattle.dl_graph.specs.Named.{HasLiterals, line_in}
use Rattle.dl_graph.specs.Tables.{TableLists, AreTables, HasTables, rules_from, rules_of, pairs_of, theory_of, net_of}
use Rattle.dl_graph.proofs.Slots.{there_rule}
use Rattle.dl_graph.proofs.LabelLemmas.{label_once, labelled_is}
use Rattle.dl_graph.proofs.TableLemmas.{label_here, rule_is_there}
use Rattle.dl_net.proofs.NetLemmas.{names_distinct, numbered_by}

-- ---- places when a number becomes empty

pub drop_item-append : (k : ℕ) (xs ys : List ℕ) → drop_item k (xs ++ ys) ≡ drop_item k xs ++ drop_item k ys
drop_item-append k xs ys = filter-append (λ y. not (y == k)) xs ys

drop_same : (n k : ℕ) → drop_item k (replicate n k) ≡ []
drop_same zero k = refl
drop_same (suc n) k = ap (λ b. cond (not b) (k ∷ drop_item k (replicate n k)) (drop_item k (replicate n k))) (alike k k refl) ∙ drop_same n k

drop_other : (n j k : ℕ) → j ≢ k → drop_item k (replicate n j) ≡ replicate n j
drop_other zero j k apart = refl
drop_other (suc n) j k apart =
    ap (λ b. cond (not b) (j ∷ drop_item k (replicate n j)) (drop_item k (replicate n j))) (differ j k apart)
    ∙ ap (λ (xs : List ℕ). j ∷ xs) (drop_other n j k apart)

module _ {X : Type 0} (f : Option X → List ℕ) (q : ℕ) (none : f None ≡ []) where
  places_behind : (xs : List (Option X)) (j k : ℕ) → k < j → drop_item k (places_from f j xs q) ≡ places_from f j xs q
  places_behind [] j k lt = refl
  places_behind (x ∷ xs) j k lt =
      drop_item-append k (replicate (times q (f x)) j) (places_from f (suc j) xs q)
      ∙ (λ i. drop_other (times q (f x)) j k (λ e. absurd (omega (arith, e, lt))) i ++ places_behind xs (suc j) k (omega (arith, lt)) i)

  pub places_emptied : (xs : List (Option X)) (j k : ℕ) → places_from f j (set xs k None) q ≡ drop_item (j + k) (places_from f j xs q)
  places_emptied [] j k = refl
  places_emptied (x ∷ xs) j zero =
      let at : j ≡ j + 0 = omega arith in
      ap (λ (ys : List ℕ). replicate (times q ys) j ++ places_from f (suc j) xs q) none
      ∙ sym (drop_item-append j (replicate (times q (f x)) j) (places_from f (suc j) xs q)
      ∙ (λ i. drop_same (times q (f x)) j i ++ places_behind xs (suc j) j (omega arith) i))
      ∙ ap (λ n. drop_item n (places_from f j (x ∷ xs) q)) at
  places_emptied (x ∷ xs) j (suc k) =
      let at : suc j + k ≡ j + suc k = omega arith in
      ap (λ (ys : List ℕ). replicate (times q (f x)) j ++ ys) (places_emptied xs (suc j) k ∙ ap (λ n. drop_item n (places_from f (suc j) xs q)) at)
      ∙ sym (drop_item-append (j + suc k) (replicate (times q (f x)) j) (places_from f (suc j) xs q)
      ∙ ap (λ (ys : List ℕ). ys ++ drop_item (j + suc k) (places_from f (suc j) xs q)) (drop_other (times q (f x)) j (j + suc k) (λ e. absurd (omega (arith, e)))))

-- ---- pairs when some go

-- what the pairs that are left lead to is what all led to, without the rule that goes
module _ (k : ℕ) (keep : Pair → Bool) (g g' : Pair → List ℕ) (moved : (p : Pair) → drop_item k (g p) ≡ g' p) (ended : (p : Pair) → keep p ≡ false → g' p ≡ []) where
  step_left : (p : Pair) (ps : List Pair) (b : Bool) → keep p ≡ b → g' p ++ flat_map g' (filter keep ps) ≡ flat_map g' (cond b (p ∷ filter keep ps) (filter keep ps))
  step_left p ps true e = refl
  step_left p ps false e = ap (λ xs. xs ++ flat_map g' (filter keep ps)) (ended p e)

  pub pairs_left : (ps : List Pair) → drop_item k (flat_map g ps) ≡ flat_map g' (filter keep ps)
  pairs_left [] = refl
  pairs_left (p ∷ ps) =
      drop_item-append k (g p) (flat_map g ps)
      ∙ (λ i. moved p i ++ pairs_left ps i)
      ∙ step_left p ps (keep p) refl

-- lists of which one is written, whatever it was
set_agree : {X Y : Type 0} (f g : X → Y) (xs : List X) (k : ℕ) (y : Y) (d : X) → ((i : ℕ) → i < length xs → i ≢ k → f (get_or xs i d) ≡ g (get_or xs i d))
    → set (map f xs) k y ≡ set (map g xs) k y
set_agree f g [] k y d h = refl
set_agree {X} {Y} f g (x ∷ xs) zero y d h =
    ap (λ (ys : List Y). y ∷ ys) (agree xs (λ i lt. h (suc i) (omega (arith, lt)) (λ e. absurd (omega (arith, e)))))
  where
    agree : (zs : List X) → ((i : ℕ) → i < length zs → f (get_or zs i d) ≡ g (get_or zs i d)) → map f zs ≡ map g zs
    agree [] h = refl
    agree (z ∷ zs) h = λ i. h 0 (omega arith) i ∷ agree zs (λ n lt. h (suc n) (omega (arith, lt))) i
set_agree f g (x ∷ xs) (suc k) y d h =
    λ i. h 0 (omega arith) (λ e. absurd (omega (arith, e))) i
    ∷ set_agree f g xs k y d (λ n lt apart. h (suc n) (omega (arith, lt)) (λ e. apart (omega (arith, e)))) i

-- ---- a rule that goes

module _ (N : NetLists) (numbered : IsNumbered N) (distinct : IsDistinct (labels N.theory)) (label : List ℕ) (k : ℕ) (has : HasRule N k)
    (is : (rule_at N k).label ≡ label) where
  abbrev keeps : Pair → Bool
  keeps p = not (bytes_eq p.upper label || bytes_eq p.lower label)

  abbrev left : NetLists
  left = record N { theory = after_edit N.theory (DropRule label); rules = set N.rules k None; pairs = map (kept_if keeps) N.pairs }

  -- only the rule with the number has the label
  other_label : (n : ℕ) (r : Rule) → HasNumber N.rules r n → n ≢ k → r.label ≢ label
  other_label n r at apart e =
      let there = there_rule N n r at in
      apart (label_once N numbered distinct n k there.0 has (ap (λ (s : Rule). s.label) there.1 ∙ e ∙ sym is))

  pub rules_left : set N.rules k None ≡ map (kept_if (λ r. not (bytes_eq r.label label))) N.rules
  rules_left =
      one_goes (λ r. not (bytes_eq r.label label)) N.rules k
      (λ r at.
      ap not ((bytes_eq-Decides r.label label).1 (sym (ap (λ (s : Rule). s.label) (there_rule N k r at).1) ∙ is)))
      (λ r n at apart. ap not (false_unless (bytes_eq r.label label) (bytes_eq-Decides r.label label) (other_label n r at apart)))

  labelled_left : (l : List ℕ) (p : Rule → Bool) → drop_item k (labelled N l p) ≡ labelled left l p
  labelled_left l p =
      let at : k ≡ 0 + k = omega arith in
      ap (λ n. drop_item n (labelled N l p)) at
      ∙ sym (places_emptied (of_rule (λ r. mark_row (bytes_eq r.label l && p r))) 0 refl N.rules 0 k)

  -- no rule that is left has the label
  gone_label : (p : Rule → Bool) → labelled left label p ≡ []
  gone_label p =
      sym (labelled_left label p) ∙ ap (drop_item k) (labelled_is N numbered distinct label p k has is) ∙ one (p (rule_at N k))
    where
      one : (b : Bool) → drop_item k (cond b (k ∷ []) []) ≡ []
      one true = ap (λ b. cond (not b) (k ∷ []) []) (alike k k refl)
      one false = refl

  by_label : (b : Bool) (l : List ℕ) (p : Rule → Bool) → drop_item k (cond b (labelled N l p) []) ≡ cond b (labelled left l p) []
  by_label true l p = labelled_left l p
  by_label false l p = refl

  none_by : (b : Bool) (xs : List ℕ) → xs ≡ [] → cond b xs [] ≡ []
  none_by true xs e = e
  none_by false xs e = refl

  -- a pair that goes names the label above or below
  ended_by : (P : Type 0) (a b : Bool) → not (a || b) ≡ false → (a ≡ true → P) → (b ≡ true → P) → P
  ended_by P true b e one two = one refl
  ended_by P false true e one two = two refl
  ended_by P false false e one two = cc

  lower_left : (t : Rule) → t.label ≢ label → drop_item k (lowers_row N t) ≡ lowers_row left t
  lower_left t apart =
      pairs_left k keeps (λ p. lower_step N p t) (λ p. lower_step left p t)
      (λ p. by_label (bytes_eq p.upper t.label) p.lower (test.is_opposing N.theory t.head))
      (λ p e. ended_by (lower_step left p t ≡ []) (bytes_eq p.upper label) (bytes_eq p.lower label) e
      (λ up. ap (λ b. cond b (labelled left p.lower (test.is_opposing N.theory t.head)) [])
      (false_unless (bytes_eq p.upper t.label) (bytes_eq-Decides p.upper t.label) (λ same. apart (sym same ∙ (bytes_eq-Decides p.upper label).0 up))))
      (λ low. none_by (bytes_eq p.upper t.label) (labelled left p.lower (test.is_opposing N.theory t.head))
      (ap (λ l. labelled left l (test.is_opposing N.theory t.head)) ((bytes_eq-Decides p.lower label).0 low)
      ∙ gone_label (test.is_opposing N.theory t.head))))
      N.theory.pairs

  upper_left : (u : Rule) → u.label ≢ label → drop_item k (uppers_row N (λ _. true) u) ≡ uppers_row left (λ _. true) u
  upper_left u apart =
      let over : Rule → Bool = λ t. test.is_opposing N.theory t.head u && true in
      pairs_left k keeps (λ p. upper_step N p u) (λ p. upper_step left p u)
      (λ p. by_label (bytes_eq p.lower u.label) p.upper over)
      (λ p e. ended_by (upper_step left p u ≡ []) (bytes_eq p.upper label) (bytes_eq p.lower label) e
      (λ up. none_by (bytes_eq p.lower u.label) (labelled left p.upper over)
      (ap (λ l. labelled left l over) ((bytes_eq-Decides p.upper label).0 up) ∙ gone_label over))
      (λ low. ap (λ b. cond b (labelled left p.upper over) [])
      (false_unless (bytes_eq p.lower u.label) (bytes_eq-Decides p.lower u.label) (λ same. apart (sym same ∙ (bytes_eq-Decides p.lower label).0 low)))))
      N.theory.pairs

  -- the lists at the rules that are left
  module _ (F F' : Rule → List ℕ) (rows : (t : Rule) → t.label ≢ label → drop_item k (F t) ≡ F' t) where
    slot_left : (n : ℕ) (o : Option Rule) → get_or N.rules n None ≡ o → n ≢ k → drop_item k (of_rule F o) ≡ of_rule F' o
    slot_left n None at apart = refl
    slot_left n (Some t) at apart = rows t (other_label n t at apart)

    pub rows_left : (xs : List (List ℕ)) → xs ≡ map (of_rule F) N.rules → set (map (drop_item k) xs) k [] ≡ map (of_rule F') (set N.rules k None)
    rows_left xs are =
        ap (λ (ys : List (List ℕ)). set (map (drop_item k) ys) k []) are
        ∙ ap (λ (ys : List (List ℕ)). set ys k []) (mapped N.rules)
        ∙ set_agree (λ o. drop_item k (of_rule F o)) (of_rule F') N.rules k [] None (λ n lt apart. slot_left n (get_or N.rules n None) refl apart)
        ∙ sym (map-set (of_rule F') N.rules k None)
      where
        mapped : (rs : List (Option Rule)) → map (drop_item k) (map (of_rule F) rs) ≡ map (λ o. drop_item k (of_rule F o)) rs
        mapped [] = refl
        mapped (r ∷ rs) = ap (λ (ys : List (List ℕ)). drop_item k (of_rule F r) ∷ ys) (mapped rs)

  pub lowers_left : (xs : List (List ℕ)) → xs ≡ map (of_rule (lowers_row N)) N.rules → set (map (drop_item k) xs) k [] ≡ map (of_rule (lowers_row left)) left.rules
  lowers_left = rows_left (lowers_row N) (lowers_row left) lower_left

  pub uppers_left : (xs : List (List ℕ)) → xs ≡ map (of_rule (uppers_row N (λ _. true))) N.rules
      → set (map (drop_item k) xs) k [] ≡ map (of_rule (uppers_row left (λ _. true))) left.rules
  uppers_left = rows_left (uppers_row N (λ _. true)) (uppers_row left (λ _. true)) upper_left

-- ---- tables without the rule

rules_emptied : (ls : List Literal) (labels : List (List ℕ)) (lines : List (Option Line)) (k : ℕ) → rules_from ls labels (set lines k None) ≡ set (rules_from ls labels lines) k None
rules_emptied ls [] lines k = refl
rules_emptied ls (label ∷ labels) [] k = refl
rules_emptied ls (label ∷ labels) (l ∷ lines) zero = refl
rules_emptied ls (label ∷ labels) (l ∷ lines) (suc k) = ap (λ (rs : List (Option Rule)). rules_from ls (label ∷ []) (l ∷ []) ++ rs) (rules_emptied ls labels lines k)

-- what stays passes
kept_passes : {A : Type 0} (p : A → Bool) (xs : List (Option A)) (x : A) (n : ℕ) → HasNumber (map (kept_if p) xs) x n → HasNumber xs x n × (p x ≡ true)
kept_passes p [] x n h = cc
kept_passes p (None ∷ xs) x zero h = cc
kept_passes {A} p (Some y ∷ xs) x zero h = by (p y) refl h
  where
    by : (b : Bool) → p y ≡ b → cond b (Some y) None ≡ Some x → (Some y ≡ Some x) × (p x ≡ true)
    by true e is = let same : y ≡ x = cc in (is, subst (λ (z : A). p z ≡ true) same e)
    by false e is = cc
kept_passes p (o ∷ xs) x (suc n) h = kept_passes p xs x n h

-- a test of what stands at a number is that of what it stands for
kept_named : {A B : Type 0} (f : A → B) (p : A → Bool) (q : B → Bool) (xs : List (Option A)) → ((x : A) (n : ℕ) → HasNumber xs x n → p x ≡ q (f x))
    → map (option_map f) (map (kept_if p) xs) ≡ map (kept_if q) (map (option_map f) xs)
kept_named f p q [] h = refl
kept_named {A} {B} f p q (None ∷ xs) h = ap (λ (ys : List (Option B)). None ∷ ys) (kept_named f p q xs (λ x n. h x (suc n)))
kept_named f p q (Some x ∷ xs) h = λ i. by (p x) (q (f x)) (h x 0 refl) i ∷ kept_named f p q xs (λ x n. h x (suc n)) i
  where
    by : (b c : Bool) → b ≡ c → option_map f (cond b (Some x) None) ≡ cond c (Some (f x)) None
    by true true e = refl
    by false false e = refl
    by true false e = cc
    by false true e = cc

abbrev pub without_rule : TableLists → ℕ → IndexLists → TableLists
without_rule t k x = record t { pairs = map (kept_if (λ p. not (names_item k p))) t.pairs; index = x }

module _ (t : TableLists) (h : AreTables t) (label : List ℕ) (k : ℕ) (at : IsThere t.index.lines k) (is : get_or t.labels k [] ≡ label) (x : IndexLists)
    (lines : x.lines ≡ set t.index.lines k None) (lowers : x.lowers ≡ set (map (drop_item k) t.index.lowers) k [])
    (uppers : x.uppers ≡ set (map (drop_item k) t.index.uppers) k []) where
  has_k : HasRule (net_of t) k
  has_k = rule_is_there t h k at

  label_k : (rule_at (net_of t) k).label ≡ label
  label_k = label_here t h k has_k ∙ is

  abbrev remains : NetLists
  remains = left (net_of t) h.numbered h.formed.labels_distinct label k has_k label_k

  -- a rule of a pair has the number where it has the label
  number_named : (u : ℕ) → IsThere t.index.lines u → (u == k) ≡ bytes_eq (get_or t.labels u []) label
  number_named u there =
      let has_u : HasRule (net_of t) u = rule_is_there t h u there in
      same_from_decides (u == k) (bytes_eq (get_or t.labels u []) label) (Decides-eqb u k)
      (Decides-like (bytes_eq (get_or t.labels u []) label)
      (λ e. label_once (net_of t) h.numbered h.formed.labels_distinct u k has_u has_k (label_here t h u has_u ∙ e ∙ sym label_k))
      (λ e. ap (λ n. get_or t.labels n []) e ∙ is)
      (bytes_eq-Decides (get_or t.labels u []) label))

  pairs_without : pairs_of (without_rule t k x) ≡ map (kept_if (λ p. not (bytes_eq p.upper label || bytes_eq p.lower label))) (pairs_of t)
  pairs_without =
      kept_named (named t.labels) (λ p. not (names_item k p)) (λ p. not (bytes_eq p.upper label || bytes_eq p.lower label)) t.pairs
      (λ l n has. let both = h.joined l n has in λ i. not (number_named l.upper both.0 i || number_named l.lower both.1 i))

  rules_emptied_of : rules_of (without_rule t k x) ≡ set (rules_of t) k None
  rules_emptied_of = ap (rules_from t.names t.labels) lines ∙ rules_emptied t.names t.labels t.index.lines k

  net_without : net_of (without_rule t k x) ≡ remains
  net_without = λ i. record (net_of t) {
    theory = record (theory_of t) {
      rules = (ap there (rules_emptied_of ∙ rules_left (net_of t) h.numbered h.formed.labels_distinct label k has_k label_k)
          ∙ there_filter (λ r. not (bytes_eq r.label label)) (rules_of t)) i;
      pairs = (ap there pairs_without ∙ there_filter (λ p. not (bytes_eq p.upper label || bytes_eq p.lower label)) (pairs_of t)) i;
    };
    rules = rules_emptied_of i;
    pairs = pairs_without i;
  }

  pub theory_without : theory_of (without_rule t k x) ≡ after_edit (theory_of t) (DropRule label)
  theory_without = ap (λ (N : NetLists). N.theory) net_without

  pub rules_without : rules_of (without_rule t k x) ≡ map (kept_if (λ r. not (bytes_eq r.label label))) (rules_of t)
  rules_without = rules_emptied_of ∙ rules_left (net_of t) h.numbered h.formed.labels_distinct label k has_k label_k

  literals_without : All (HasLiterals t.names) remains.theory.rules
  literals_without = All-filter (λ r. not (bytes_eq r.label label)) (HasLiterals t.names) (theory_of t).rules h.tables.rules_named

  held : HasTables remains t.marks x
  held = record {
    facts_named = h.tables.facts_named;
    rules_named = literals_without;
    facts = h.tables.facts;
    index = record {
      lines = lines
          ∙ ap (λ (ys : List (Option Line)). set ys k None) h.tables.index.lines
          ∙ sym (map-set (option_map (line_in t.names)) (rules_of t) k None);
      lowers = lowers ∙ lowers_left (net_of t) h.numbered h.formed.labels_distinct label k has_k label_k t.index.lowers h.tables.index.lowers;
      uppers = uppers ∙ uppers_left (net_of t) h.numbered h.formed.labels_distinct label k has_k label_k t.index.uppers h.tables.index.uppers;
    };
  }

  numbered_left : IsNumbered remains
  numbered_left =
      numbered_by remains (names_distinct (net_of t) h.numbered) h.paired h.tables.facts_named literals_without refl
      (sym (ap there (rules_left (net_of t) h.numbered h.formed.labels_distinct label k has_k label_k) ∙ there_filter (λ r. not (bytes_eq r.label label)) (rules_of t)))
      (sym (there_filter (λ p. not (bytes_eq p.upper label || bytes_eq p.lower label)) (pairs_of t)))

  still_there : (n : ℕ) → IsThere (set t.index.lines k None) n → IsThere t.index.lines n
  still_there n there = ap is_some (drop_has t.index.lines k _ n (there_is (get_or (set t.index.lines k None) n None) there)).0

  -- a pair that stays names other rules
  others : (l : Link) → not (names_item k l) ≡ true → (l.upper ≢ k) × (l.lower ≢ k)
  others l passes = (
    λ e. both (l.upper == k) (l.lower == k) passes (inl (alike l.upper k e)),
    λ e. both (l.upper == k) (l.lower == k) passes (inr (alike l.lower k e)),
  )
    where
      both : (a b : Bool) → not (a || b) ≡ true → ((a ≡ true) ⊎ (b ≡ true)) → ⊥
      both true b e one = cc
      both false true e one = cc
      both false false e (inl f) = cc
      both false false e (inr f) = cc

  joined_left : (l : Link) (n : ℕ) → HasNumber (without_rule t k x).pairs l n → IsThere x.lines l.upper × IsThere x.lines l.lower
  joined_left l n has =
      let kept = kept_passes (λ p. not (names_item k p)) t.pairs l n has in
      let both = h.joined l n kept.0 in
      let apart = others l kept.1 in
      subst (λ (ls : List (Option Line)). IsThere ls l.upper × IsThere ls l.lower) (sym lines) (
        there_left t.index.lines k l.upper both.0 apart.0,
        there_left t.index.lines k l.lower both.1 apart.1,
      )

  pub tables_without : IsAccepted (theory_of t) (DropRule label) → AreTables (without_rule t k x)
  tables_without accepted = record {
    as_long = omega (arith, h.as_long, ap length lines, length-set t.index.lines k None);
    facts_within = h.facts_within;
    formed = subst (λ (T : TheoryLists). IsWellFormed T) (sym theory_without) (edit_keeps (theory_of t) (DropRule label) h.formed accepted);
    numbered = subst (λ (N : NetLists). IsNumbered N) (sym net_without) numbered_left;
    paired = h.paired;
    tables = subst (λ (N : NetLists). HasTables N t.marks x) (sym net_without) held;
    latest = λ n there. h.latest n (still_there n (subst (λ (ls : List (Option Line)). IsThere ls n) lines there));
    joined = joined_left;
  }
