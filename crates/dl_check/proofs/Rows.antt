-- The conditions over the fields of a checker are those of the theory that it stands for.
use Rattle.std.proofs.Common.{◌≡◌, ℕ, Bool, true, false, not, ◌&&◌, ◌||◌, List, sym, ap, ◌∙◌}
use Rattle.std.specs.Prelude.{filter}
use Rattle.std.specs.List.{list_any, list_all}
use Rattle.std.specs.Set.{is_member}
use Rattle.std.specs.Str.{bytes_eq}
use Rattle.std.proofs.lemmas.List.{map-id}
use Rattle.std.proofs.lemmas.Slice.Eq.{bytes_eq-Decides}
use Rattle.std.proofs.lemmas.Bool.Decides.{same_from_decides, Decides-like}
use Rattle.dl_lit.specs.declared.literal.Literal.{Literal}
use Rattle.dl_lit.specs.declared.literal.Tagged.{Tagged}
use Rattle.dl_lit.specs.declared.literal.Family.{Family}
use Rattle.dl_lit.specs.declared.literal.Family.TheVariants.{Definite, Propagating, Support}
use Rattle.dl_lit.specs.Literal.{literal_eq, tagged, complement}
use Rattle.dl_theory.specs.declared.rule.Rule.{Rule}
use Rattle.dl_theory.specs.declared.rule.Pair.{Pair}
use Rattle.dl_theory.specs.Lists.{TheoryLists, can_support, is_strict}
use Rattle.dl_theory.specs.Pairs.{pair_eq}
use Rattle.dl_theory.specs.Tests as test
use Rattle.dl_check.specs.declared.checker.Checker.{Checker}
use Rattle.dl_check.specs.declared.band.Band.{Band}
use Rattle.dl_check.specs.declared.band.Kinds.TheVariants.{All, Supporting, Strict}
use Rattle.dl_check.specs.Bands.{is_in, on, not_off}
use Rattle.dl_check.specs.Checking.{StandsFor, is_fact, row, above, some_in, HasLabels, is_beaten, some_unbeaten, definite, prevails, fails}
use Rattle.dl_check.proofs.Shapes.{not_off_shape, answered_shape, team_shape, standing_shape, defeated_shape, threat_shape, supported_shape, unsupported_shape}
use Rattle.dl_check.proofs.Quantified.{any_congr, all_is, any_filter, any_map, and_any, any_swap, any_false, and_true, and_false, and_turned, and_assoc, or_assoc, or_false}

bytes_turned : (a b : List ℕ) → bytes_eq a b ≡ bytes_eq b a
bytes_turned a b = same_from_decides (bytes_eq a b) (bytes_eq b a) (bytes_eq-Decides a b) (Decides-like (bytes_eq b a) sym sym (bytes_eq-Decides b a))

-- a pair with these labels, where the rest holds
at_pairs : (h b : Bool) (upper lower : List ℕ) (pairs : List Pair)
    → list_any (λ p. bytes_eq p.lower lower && (h && (bytes_eq upper p.upper && b))) pairs
    ≡ ((h && is_member pair_eq pairs (record { upper = upper; lower = lower })) && b)
at_pairs true true upper lower pairs =
    any_congr (λ p. bytes_eq p.lower lower && (bytes_eq upper p.upper && true)) (λ p. bytes_eq upper p.upper && bytes_eq lower p.lower)
    (λ p. ap (λ v. bytes_eq p.lower lower && v) (and_true (bytes_eq upper p.upper))
    ∙ and_turned (bytes_eq p.lower lower) (bytes_eq upper p.upper)
    ∙ ap (λ v. bytes_eq upper p.upper && v) (bytes_turned p.lower lower)) pairs
    ∙ sym (and_true (is_member pair_eq pairs (record { upper = upper; lower = lower })))
at_pairs true false upper lower pairs =
    any_congr (λ p. bytes_eq p.lower lower && (bytes_eq upper p.upper && false)) (λ p. false)
    (λ p. ap (λ v. bytes_eq p.lower lower && v) (and_false (bytes_eq upper p.upper)) ∙ and_false (bytes_eq p.lower lower)) pairs
    ∙ any_false pairs
    ∙ sym (and_false (is_member pair_eq pairs (record { upper = upper; lower = lower })))
at_pairs false b upper lower pairs =
    any_congr (λ p. bytes_eq p.lower lower && false) (λ p. false) (λ p. and_false (bytes_eq p.lower lower)) pairs
    ∙ any_false pairs

module _ (c : Checker) (T : TheoryLists) (s : StandsFor c T) where
  row_is : (q : Literal) → row c q ≡ filter (λ r. literal_eq r.head q) T.rules
  row_is q = s.rules q ∙ map-id (filter (λ r. literal_eq r.head q) T.rules)

  fact_is : (q : Literal) → is_fact c q ≡ is_member literal_eq T.facts q
  fact_is q = ap (λ facts. is_member literal_eq facts q) s.facts

  any_row : (g : Rule → Bool) (q : Literal) → list_any g (row c q) ≡ list_any (λ r. literal_eq r.head q && g r) T.rules
  any_row g q = ap (list_any g) (row_is q) ∙ any_filter g (λ r. literal_eq r.head q) T.rules

  any_above : (m : List ℕ → Bool) (label : List ℕ) → list_any m (above c label) ≡ list_any (λ p. bytes_eq p.lower label && m p.upper) T.pairs
  any_above m label =
      ap (list_any m) (s.above label)
      ∙ any_map m (λ p. p.upper) (filter (λ p. bytes_eq p.lower label) T.pairs)
      ∙ any_filter (λ p. m p.upper) (λ p. bytes_eq p.lower label) T.pairs

  module _ (got : Tagged → Bool) where
    beaten_is : (q : Literal) (b : Band) (labels : List (List ℕ)) → HasLabels c got b q labels → (u : Rule)
        → is_beaten c labels u ≡ list_any (λ t. (literal_eq t.head q && test.is_beating T t u) && is_in got b t) T.rules
    beaten_is q b labels h u =
        any_above (is_member bytes_eq labels) u.label
        ∙ any_congr (λ p. bytes_eq p.lower u.label && is_member bytes_eq labels p.upper)
        (λ p. list_any (λ t. bytes_eq p.lower u.label && (literal_eq t.head q && (bytes_eq t.label p.upper && is_in got b t))) T.rules)
        (λ p. ap (λ v. bytes_eq p.lower u.label && v) (h p.upper ∙ any_row (λ t. bytes_eq t.label p.upper && is_in got b t) q)
        ∙ and_any (bytes_eq p.lower u.label) (λ t. literal_eq t.head q && (bytes_eq t.label p.upper && is_in got b t)) T.rules) T.pairs
        ∙ any_swap (λ p t. bytes_eq p.lower u.label && (literal_eq t.head q && (bytes_eq t.label p.upper && is_in got b t))) T.pairs T.rules
        ∙ any_congr (λ t. list_any (λ p. bytes_eq p.lower u.label && (literal_eq t.head q && (bytes_eq t.label p.upper && is_in got b t))) T.pairs)
        (λ t. (literal_eq t.head q && test.is_beating T t u) && is_in got b t)
        (λ t. at_pairs (literal_eq t.head q) (is_in got b t) t.label u.label T.pairs) T.rules

    unbeaten_is : (q against : Literal) (a b : Band) (labels : List (List ℕ)) → HasLabels c got b against labels
        → some_unbeaten c got a q labels
        ≡ list_any (λ u. literal_eq u.head q && (is_in got a u && not (list_any (λ t. (literal_eq t.head against && test.is_beating T t u) && is_in got b t) T.rules))) T.rules
    unbeaten_is q against a b labels h =
        any_row (λ u. is_in got a u && not (is_beaten c labels u)) q
        ∙ any_congr (λ u. literal_eq u.head q && (is_in got a u && not (is_beaten c labels u)))
        (λ u. literal_eq u.head q && (is_in got a u && not (list_any (λ t. (literal_eq t.head against && test.is_beating T t u) && is_in got b t) T.rules)))
        (λ u. ap (λ v. literal_eq u.head q && (is_in got a u && not v)) (beaten_is against b labels h u)) T.rules

    pub definite_is : (p : Bool) (q : Literal) → definite c got p q ≡ test.condition T got p Definite q
    definite_is true q =
        ap (λ v. v || some_in c got (on Strict Definite) q) (fact_is q)
        ∙ ap (λ v. is_member literal_eq T.facts q || v)
        (any_row (is_in got (on Strict Definite)) q
        ∙ any_congr (λ r. literal_eq r.head q && is_in got (on Strict Definite) r) (λ r. test.is_strict_for q r && test.is_on got Definite r)
        (λ r. sym (and_assoc (literal_eq r.head q) (is_strict r.kind) (test.is_on got Definite r))) T.rules)
    definite_is false q =
        ap (λ v. not v && not (some_in c got (not_off Strict Definite) q)) (fact_is q)
        ∙ ap (λ v. not (is_member literal_eq T.facts q) && v)
        (ap not
        (any_row (is_in got (not_off Strict Definite)) q
        ∙ any_congr (λ r. literal_eq r.head q && is_in got (not_off Strict Definite) r) (λ r. not (test.implies (test.is_strict_for q r) (test.is_off got Definite r)))
        (λ r. sym (not_off_shape (literal_eq r.head q) (is_strict r.kind) (test.is_off got Definite r))) T.rules)
        ∙ sym (all_is (λ r. test.implies (test.is_strict_for q r) (test.is_off got Definite r)) T.rules))

    some_supports : (f : Family) (q : Literal) → some_in c got (on Supporting f) q ≡ list_any (λ r. test.is_support q r && test.is_on got f r) T.rules
    some_supports f q =
        any_row (is_in got (on Supporting f)) q
        ∙ any_congr (λ r. literal_eq r.head q && is_in got (on Supporting f) r) (λ r. test.is_support q r && test.is_on got f r)
        (λ r. sym (and_assoc (literal_eq r.head q) (can_support r.kind) (test.is_on got f r))) T.rules

    none_supports : (f : Family) (q : Literal) → not (some_in c got (not_off Supporting f) q) ≡ list_all (λ r. test.implies (test.is_support q r) (test.is_off got f r)) T.rules
    none_supports f q =
        ap not
        (any_row (is_in got (not_off Supporting f)) q
        ∙ any_congr (λ r. literal_eq r.head q && is_in got (not_off Supporting f) r) (λ r. not (test.implies (test.is_support q r) (test.is_off got f r)))
        (λ r. sym (not_off_shape (literal_eq r.head q) (can_support r.kind) (test.is_off got f r))) T.rules)
        ∙ sym (all_is (λ r. test.implies (test.is_support q r) (test.is_off got f r)) T.rules)

    -- each rule against q is off or beaten by the team
    answered_is : (f against : Family) (q : Literal) (team : List (List ℕ)) → HasLabels c got (on Supporting f) q team
        → not (some_unbeaten c got (not_off All against) (complement q) team)
        ≡ list_all
        (λ u. test.implies (test.is_opposing T q u)
        (test.is_off got against u || list_any (λ t. (test.is_support q t && test.is_beating T t u) && test.is_on got f t) T.rules)) T.rules
    answered_is f against q team h =
        ap not
        (unbeaten_is (complement q) q (not_off All against) (on Supporting f) team h
        ∙ any_congr
        (λ u. literal_eq u.head (complement q)
        && (not (test.is_off got against u) && not (list_any (λ t. (literal_eq t.head q && test.is_beating T t u) && (can_support t.kind && test.is_on got f t)) T.rules)))
        (λ u. not (test.implies (test.is_opposing T q u)
        (test.is_off got against u || list_any (λ t. (test.is_support q t && test.is_beating T t u) && test.is_on got f t) T.rules)))
        (λ u.
        ap (λ v. literal_eq u.head (complement q) && (not (test.is_off got against u) && not v))
        (any_congr (λ t. (literal_eq t.head q && test.is_beating T t u) && (can_support t.kind && test.is_on got f t))
        (λ t. (test.is_support q t && test.is_beating T t u) && test.is_on got f t)
        (λ t. sym (team_shape (literal_eq t.head q) (can_support t.kind) (test.is_beating T t u) (test.is_on got f t))) T.rules)
        ∙ sym (answered_shape (literal_eq u.head (complement q)) (test.is_off got against u)
        (list_any (λ t. (test.is_support q t && test.is_beating T t u) && test.is_on got f t) T.rules))) T.rules)
        ∙ sym (all_is
        (λ u. test.implies (test.is_opposing T q u)
        (test.is_off got against u || list_any (λ t. (test.is_support q t && test.is_beating T t u) && test.is_on got f t) T.rules)) T.rules)

    pub prevails_is : (f against : Family) (q : Literal) (team : List (List ℕ)) → HasLabels c got (on Supporting f) q team
        → prevails c got f against q (complement q) team ≡ test.prevails T got f against q
    prevails_is f against q team h =
        ap (λ v. (v && got (tagged false Definite (complement q))) && not (some_unbeaten c got (not_off All against) (complement q) team)) (some_supports f q)
        ∙ ap (λ v. (list_any (λ r. test.is_support q r && test.is_on got f r) T.rules && v) && not (some_unbeaten c got (not_off All against) (complement q) team))
        (sym (and_true (got (tagged false Definite (complement q)))))
        ∙ ap (λ v. (list_any (λ r. test.is_support q r && test.is_on got f r) T.rules && (got (tagged false Definite (complement q)) && true)) && v)
        (answered_is f against q team h)

    -- some rule against q is on, and no supporting rule for q that is not off beats it
    defeated_is : (f against : Family) (q : Literal) (standing : List (List ℕ)) → HasLabels c got (not_off Supporting f) q standing
        → some_unbeaten c got (on All against) (complement q) standing
        ≡ list_any
        (λ u. (test.is_opposing T q u && test.is_on got against u)
        && list_all (λ t. test.implies (test.is_support q t) (test.is_off got f t || not (test.is_beating T t u))) T.rules) T.rules
    defeated_is f against q standing h =
        unbeaten_is (complement q) q (on All against) (not_off Supporting f) standing h
        ∙ any_congr
        (λ u. literal_eq u.head (complement q)
        && (test.is_on got against u && not (list_any (λ t. (literal_eq t.head q && test.is_beating T t u) && (can_support t.kind && not (test.is_off got f t))) T.rules)))
        (λ u. (test.is_opposing T q u && test.is_on got against u)
        && list_all (λ t. test.implies (test.is_support q t) (test.is_off got f t || not (test.is_beating T t u))) T.rules)
        (λ u.
        ap (λ v. literal_eq u.head (complement q) && (test.is_on got against u && v))
        (ap not
        (any_congr (λ t. (literal_eq t.head q && test.is_beating T t u) && (can_support t.kind && not (test.is_off got f t)))
        (λ t. not (test.implies (test.is_support q t) (test.is_off got f t || not (test.is_beating T t u))))
        (λ t. sym (standing_shape (literal_eq t.head q) (can_support t.kind) (test.is_off got f t) (test.is_beating T t u))) T.rules)
        ∙ sym (all_is (λ t. test.implies (test.is_support q t) (test.is_off got f t || not (test.is_beating T t u))) T.rules))
        ∙ sym (defeated_shape (literal_eq u.head (complement q)) (test.is_on got against u)
        (list_all (λ t. test.implies (test.is_support q t) (test.is_off got f t || not (test.is_beating T t u))) T.rules))) T.rules

    pub fails_is : (f against : Family) (q : Literal) (standing : List (List ℕ)) → HasLabels c got (not_off Supporting f) q standing
        → fails c got f against q (complement q) standing ≡ test.fails T got f against q
    fails_is f against q standing h =
        or_assoc (not (some_in c got (not_off Supporting f) q)) (got (tagged true Definite (complement q))) (some_unbeaten c got (on All against) (complement q) standing)
        ∙ ap (λ v. v || (got (tagged true Definite (complement q)) || some_unbeaten c got (on All against) (complement q) standing)) (none_supports f q)
        ∙ ap (λ v. list_all (λ r. test.implies (test.is_support q r) (test.is_off got f r)) T.rules || (v || some_unbeaten c got (on All against) (complement q) standing))
        (sym (or_false (got (tagged true Definite (complement q)))))
        ∙ ap (λ v. list_all (λ r. test.implies (test.is_support q r) (test.is_off got f r)) T.rules || ((got (tagged true Definite (complement q)) || false) || v))
        (defeated_is f against q standing h)

    -- threats: the rules against q that are not off
    pub supported_is : (q : Literal) (threats : List (List ℕ)) → HasLabels c got (not_off All Propagating) (complement q) threats
        → some_unbeaten c got (on Supporting Support) q threats
        ≡ list_any
        (λ r. (test.is_support q r && test.is_on got Support r)
        && list_all (λ u. test.implies (test.is_opposing T q u) (test.is_off got Propagating u || not (test.is_beating T u r))) T.rules) T.rules
    supported_is q threats h =
        unbeaten_is q (complement q) (on Supporting Support) (not_off All Propagating) threats h
        ∙ any_congr
        (λ r. literal_eq r.head q
        && ((can_support r.kind && test.is_on got Support r)
        && not (list_any (λ u. (literal_eq u.head (complement q) && test.is_beating T u r) && not (test.is_off got Propagating u)) T.rules)))
        (λ r. (test.is_support q r && test.is_on got Support r)
        && list_all (λ u. test.implies (test.is_opposing T q u) (test.is_off got Propagating u || not (test.is_beating T u r))) T.rules)
        (λ r.
        ap (λ v. literal_eq r.head q && ((can_support r.kind && test.is_on got Support r) && v))
        (ap not
        (any_congr (λ u. (literal_eq u.head (complement q) && test.is_beating T u r) && not (test.is_off got Propagating u))
        (λ u. not (test.implies (test.is_opposing T q u) (test.is_off got Propagating u || not (test.is_beating T u r))))
        (λ u. sym (threat_shape (literal_eq u.head (complement q)) (test.is_off got Propagating u) (test.is_beating T u r))) T.rules)
        ∙ sym (all_is (λ u. test.implies (test.is_opposing T q u) (test.is_off got Propagating u || not (test.is_beating T u r))) T.rules))
        ∙ sym (supported_shape (literal_eq r.head q) (can_support r.kind) (test.is_on got Support r)
        (list_all (λ u. test.implies (test.is_opposing T q u) (test.is_off got Propagating u || not (test.is_beating T u r))) T.rules))) T.rules

    -- foes: the rules against q that are on
    pub unsupported_is : (q : Literal) (foes : List (List ℕ)) → HasLabels c got (on All Propagating) (complement q) foes
        → not (some_unbeaten c got (not_off Supporting Support) q foes)
        ≡ list_all
        (λ r. test.implies (test.is_support q r)
        (test.is_off got Support r || list_any (λ u. (test.is_opposing T q u && test.is_beating T u r) && test.is_on got Propagating u) T.rules)) T.rules
    unsupported_is q foes h =
        ap not
        (unbeaten_is q (complement q) (not_off Supporting Support) (on All Propagating) foes h
        ∙ any_congr
        (λ r. literal_eq r.head q
        && ((can_support r.kind && not (test.is_off got Support r))
        && not (list_any (λ u. (literal_eq u.head (complement q) && test.is_beating T u r) && test.is_on got Propagating u) T.rules)))
        (λ r. not (test.implies (test.is_support q r)
        (test.is_off got Support r || list_any (λ u. (test.is_opposing T q u && test.is_beating T u r) && test.is_on got Propagating u) T.rules)))
        (λ r.
        ap (λ v. literal_eq r.head q && ((can_support r.kind && not (test.is_off got Support r)) && not v))
        (any_congr (λ u. (literal_eq u.head (complement q) && test.is_beating T u r) && test.is_on got Propagating u)
        (λ u. (test.is_opposing T q u && test.is_beating T u r) && test.is_on got Propagating u)
        (λ u. ap (λ v. (v && test.is_beating T u r) && test.is_on got Propagating u) (sym (or_false (literal_eq u.head (complement q))))) T.rules)
        ∙ sym (unsupported_shape (literal_eq r.head q) (can_support r.kind) (test.is_off got Support r)
        (list_any (λ u. (test.is_opposing T q u && test.is_beating T u r) && test.is_on got Propagating u) T.rules))) T.rules)
        ∙ sym (all_is
        (λ r. test.implies (test.is_support q r)
        (test.is_off got Support r || list_any (λ u. (test.is_opposing T q u && test.is_beating T u r) && test.is_on got Propagating u) T.rules)) T.rules)
