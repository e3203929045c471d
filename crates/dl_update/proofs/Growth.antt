-- Right marks where places come at the end, and where literals that the theory does not mention get numbers.
use Rattle.std.proofs.Common.{◌≡◌, ℕ, ◌<◌, ◌≤◌, ◌+◌, ◌∷◌, [], List, Bool, true, false, not, Option, Some, None, length, get_or, inl, inr, sym, subst, ap, arith, ◌∙◌, refl}
use Rattle.std.specs.Prelude.{◌↔◌, Contains, IsTrue, MatchOption, slice_get}
use Rattle.std.specs.Str.{bytes_eq}
use Rattle.std.proofs.lemmas.Bool.{cases_lt}
use Rattle.std.proofs.Math.ListN.{length-map}
use Rattle.std.proofs.lemmas.List.{get_or_default, get_or_append_left, length-append}
use Rattle.std.proofs.lemmas.Option.{slice_get_past, slice_get-get_or}
use Rattle.dl_base.specs.Paths.{IsDistinct}
use Rattle.dl_lit.specs.declared.literal.Literal.{Literal}
use Rattle.dl_lit.specs.declared.literal.Tag.{Tag}
use Rattle.dl_lit.specs.declared.literal.Family.{Family}
use Rattle.dl_lit.specs.Literal.{tagged}
use Rattle.dl_theory.specs.declared.edit.Edit.{Edit}
use Rattle.dl_theory.specs.declared.edit.Edit.TheVariants.{AddRule, DropRule, AddFact, DropFact, AddPair, DropPair}
use Rattle.dl_theory.specs.declared.rule.Rule.{Rule}
use Rattle.dl_rows.specs.There.{kept_if}
use Rattle.dl_net.specs.Kept.{rules_after}
use Rattle.dl_theory.specs.Lists.{TheoryLists}
use Rattle.dl_theory.specs.Listings.{Mentions}
use Rattle.dl_theory.specs.Derivations.{Follows}
use Rattle.dl_theory.specs.Marks.{IsRightAt, IsFamilyRight, AreRight}
use Rattle.dl_theory.proofs.Steps.{is_coherent}
use Rattle.dl_theory.proofs.Unmentioned.{refuted}
use Rattle.dl_marks.specs.Marks.{Marking, places, marked}
use Rattle.dl_net.specs.Edited.{edit_literals}
use Rattle.dl_graph.specs.Named.{IsNear, Grows}
use Rattle.dl_graph.specs.Numbers.{NetLists, IsNumbered, no_literal, number}
use Rattle.dl_fill.specs.Before.{tag_of}
use Rattle.dl_fill.specs.Filled.{stands}
use Rattle.dl_update.specs.declared.families.Families.{Families}
use Rattle.dl_update.specs.declared.families.Families.TheVariants.{All, One}
use Rattle.dl_update.specs.Drafts.{GrowsBy}
use Rattle.dl_update.specs.RightIn.{AreRightIn}

-- no two numbers stand for one literal
pub names_distinct : (N : NetLists) → IsNumbered N → IsDistinct N.names
names_distinct N numbered i j d before within same =
    let at : (k : ℕ) → k < length N.names → number N (get_or N.names k d) ≡ k =
    λ k lt. ap (number N) (get_or_default N.names k d no_literal lt) ∙ numbered.distinct k lt in
    let equal : i ≡ j = sym (at i (omega (arith, before, within))) ∙ ap (number N) same ∙ at j within in
    absurd (omega (arith, before, equal))

-- names that grow are no fewer
pub longer : (known names : List Literal) (e : Edit) → Grows (IsNear (edit_literals e)) known names → length known ≤ length names
longer known names e grows = omega (arith, ap (λ (ls : List Literal). length ls) grows.is, length-append known grows.more)

-- an edit adds one number of a rule at most
pub more_rules : (rs : List (Option Rule)) (e : Edit) → length (rules_after rs e) ≤ length rs + 1
more_rules rs (AddRule r) = omega (arith, length-append rs (Some r ∷ []))
more_rules rs (DropRule label) = omega (arith, length-map rs (kept_if (λ r. not (bytes_eq r.label label))))
more_rules rs (AddFact q) = omega arith
more_rules rs (DropFact q) = omega arith
more_rules rs (AddPair p) = omega arith
more_rules rs (DropPair p) = omega arith

-- what is right in all families is right in those that are kept, where these are all, and the other way round
pub to_all : (fs : Families) (T : TheoryLists) (names : List Literal) (m : Marking) → fs ≡ All → AreRightIn fs T names m → AreRight T names (places m) (stands m)
to_all fs T names m e h = subst (λ (gs : Families). AreRightIn gs T names m) e h

pub from_all : (fs : Families) (T : TheoryLists) (names : List Literal) (m : Marking) → fs ≡ All → AreRight T names (places m) (stands m) → AreRightIn fs T names m
from_all fs T names m e h = subst (λ (gs : Families). AreRightIn gs T names m) (sym e) h

-- exactly the minus tags stand
minus_only : (plus : Bool) → IsTrue (not plus) ↔ (plus ≡ false)
minus_only true = (λ e. cc, λ e. cc)
minus_only false = (λ e. refl, λ e. refl)

module _ (T : TheoryLists) where
  -- whether a mark is right where a name may stand
  abbrev Right : Bool → Family → Bool → Option Literal → Type 0
  Right plus f b o = MatchOption o (IsTrue b ↔ (plus ≡ false)) (λ q. IsTrue b ↔ Follows T (tagged plus f q))

  -- past the names a mark is right where it stands exactly for a minus tag
  pub past_right : (names : List Literal) (m : Marking) (plus : Bool) (f : Family) (n : ℕ) → length names ≤ n → marked m (tag_of plus f) n ≡ not plus
      → IsRightAt T names (stands m) (tag_of plus f) n
  past_right names m plus f n past fresh =
      subst (Right plus f (marked m (tag_of plus f) n)) (sym (slice_get_past names n past))
      (subst (λ (b : Bool). IsTrue b ↔ (plus ≡ false)) (sym fresh) (minus_only plus))

  -- what the theory does not mention is refuted
  unmentioned : (q : Literal) → (¬ Mentions T q) → (plus : Bool) (f : Family) → (plus ≡ false) ↔ Follows T (tagged plus f q)
  unmentioned q absent true f = (
    λ e. cc,
    λ follows. absurd (is_coherent T (tagged true f q) follows (refuted T q (λ there. absent (inl there)) f)),
  )
  unmentioned q absent false f = (λ e. refuted T q (λ there. absent (inl there)) f, λ follows. refl)

  -- marks stay right where places come at the end
  pub right_longer : (names : List Literal) (old new : Marking) → AreRight T names (places old) (stands old) → places old ≤ places new
      → ((t : Tag) (n : ℕ) → n < places old → marked new t n ≡ marked old t n)
      → ((t : Tag) (n : ℕ) → places old ≤ n → n < places new → marked new t n ≡ not t.plus)
      → AreRight T names (places new) (stands new)
  right_longer names old new right longer kept fresh = record {
    room = omega (arith, right.room, longer);
    right = λ f plus n within. elim (cases_lt n (places old)) [
      | inl before ↦
          subst (λ (b : Bool). Right plus f b (slice_get names n)) (sym (kept (tag_of plus f) n before)) (right.right f plus n before)
      | inr after ↦ past_right names new plus f n (omega (arith, right.room, after)) (fresh (tag_of plus f) n (omega (arith, after)) within)
    ];
  }

  -- marks that are the same are right in a family, and so in families
  family_same : (names : List Literal) (old new : Marking) (f : Family) → IsFamilyRight T names (places old) (stands old) f → places new ≡ places old
      → ((t : Tag) (n : ℕ) → marked new t n ≡ marked old t n) → IsFamilyRight T names (places new) (stands new) f
  family_same names old new f right len same = λ plus n within.
      subst (λ (b : Bool). Right plus f b (slice_get names n)) (sym (same (tag_of plus f) n)) (right plus n (omega (arith, within, len)))

  right_same : (fs : Families) (names : List Literal) (old new : Marking) → AreRightIn fs T names old → places new ≡ places old
      → ((t : Tag) (n : ℕ) → marked new t n ≡ marked old t n) → AreRightIn fs T names new
  right_same All names old new right len same = record {
    room = omega (arith, right.room, len);
    right = λ f. family_same names old new f (right.right f) len same;
  }
  right_same (One f) names old new right len same = (omega (arith, right.0, len), family_same names old new f right.1 len same)

  module _ (P : Literal → Type 0) (old new : List Literal) (mentioned : (q : Literal) → Mentions T q → Contains old q) (distinct : IsDistinct new)
      (grows : Grows P old new) where
    -- an old name stays at its number
    old_at : (n : ℕ) → n < length old → slice_get old n ≡ slice_get new n
    old_at n lt =
        let same : get_or new n no_literal ≡ get_or old n no_literal =
        ap (λ ls. get_or ls n no_literal) grows.is ∙ get_or_append_left old grows.more no_literal n lt in
        slice_get-get_or old n no_literal lt ∙ ap Some (sym same) ∙ sym (slice_get-get_or new n no_literal (omega (arith, lt, ap length grows.is, length-append old grows.more)))

    -- the theory does not mention a new name
    new_absent : (n : ℕ) → length old ≤ n → n < length new → ¬ Mentions T (get_or new n no_literal)
    new_absent n past within there =
        let m = mentioned (get_or new n no_literal) there in
        let same : get_or new m.0 no_literal ≡ get_or new n no_literal =
        ap (λ ls. get_or ls m.0 no_literal) grows.is ∙ get_or_append_left old grows.more no_literal m.0 m.1
        ∙ get_or_default old m.0 no_literal (get_or new n no_literal) m.1 ∙ m.2 in
        distinct m.0 n no_literal (omega (arith, m.1, past)) within same

    -- marks stay right where names come that the theory does not mention
    pub right_grown : (m : Marking) → length new ≤ places m → AreRight T old (places m) (stands m) → AreRight T new (places m) (stands m)
    right_grown m room right = record {
      room = room;
      right = λ f plus n within. elim (cases_lt n (length old)) [
        | inl before ↦ subst (Right plus f (marked m (tag_of plus f) n)) (old_at n before) (right.right f plus n within)
        | inr after ↦
            let minus : IsTrue (marked m (tag_of plus f) n) ↔ (plus ≡ false) =
            subst (Right plus f (marked m (tag_of plus f) n)) (slice_get_past old n (omega (arith, after))) (right.right f plus n within) in
            elim (cases_lt n (length new)) [
              | inl named ↦
                  let none = unmentioned (get_or new n no_literal) (new_absent n (omega (arith, after)) named) plus f in
                  subst (Right plus f (marked m (tag_of plus f) n)) (sym (slice_get-get_or new n no_literal named))
                  (λ b. none.0 (minus.0 b), λ follows. minus.1 (none.1 follows))
              | inr beyond ↦
                  subst (Right plus f (marked m (tag_of plus f) n)) (sym (slice_get_past new n (omega (arith, beyond)))) minus
            ]
      ];
    }

-- marks that are the same are right in equal families for an equal theory with equal names
pub right_moved : (fs fs' : Families) (T T' : TheoryLists) (names names' : List Literal) (old new : Marking) → fs' ≡ fs → T' ≡ T → names' ≡ names
    → places new ≡ places old → ((t : Tag) (n : ℕ) → marked new t n ≡ marked old t n) → AreRightIn fs T names old → AreRightIn fs' T' names' new
right_moved fs fs' T T' names names' old new families theory same_names len same right =
    subst (λ (gs : Families). AreRightIn gs T' names' new) (sym families)
    (subst (λ (U : TheoryLists). AreRightIn fs U names' new) (sym theory)
    (subst (λ (ls : List Literal). AreRightIn fs T ls new) (sym same_names) (right_same T fs names old new right len same)))

-- marks that are right before an edit are so for the names of a net that has prepared it, which a graph reads
pub right_prepared : (T : TheoryLists) (N G : NetLists) (known : List Literal) (e : Edit) (old new : Marking)
    → G ≡ record N { pending = None; frozen = false } → IsNumbered G → Grows (IsNear (edit_literals e)) known N.names → N.theory ≡ T
    → places new ≡ places old → ((t : Tag) (n : ℕ) → marked new t n ≡ marked old t n)
    → ((names : List Literal) → GrowsBy (edit_literals e) known names → AreRight T names (places old) (stands old))
    → AreRight N.theory N.names (places new) (stands new)
right_prepared T N G known e old new is numbered grows theory len same ready =
    let read : NetLists = record N { pending = None; frozen = false } in
    right_moved All All T N.theory N.names N.names old new refl theory refl len same
    (ready N.names (names_distinct read (subst IsNumbered is numbered), grows))
