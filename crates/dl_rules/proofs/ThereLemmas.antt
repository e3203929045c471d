-- Numbers that have a rule, and what is read of it.
use Rattle.std.proofs.Common.{◌≡◌, ℕ, suc, ◌+◌, ◌<◌, Bool, Option, None, Some, List, [], ◌∷◌, ◌++◌, length, set, refl, sym, ap, ◌∙◌, subst, inl, inr, cond, true≢false, get_or, get_or-set_other, ◌≢◌}
use Rattle.std.specs.Prelude.{All, IsSome, is_some, unwrap_or, option_map}
use Rattle.std.proofs.lemmas.Bool.{cases_lt}
use Rattle.std.proofs.lemmas.List.{get_or_past, get_or_append_left}
use Rattle.std.proofs.lemmas.List.Elements.{All-head, All-tail}
use Rattle.dl_theory.specs.declared.rule.Kind.{Kind}
use Rattle.dl_rules.specs.declared.index.Index.TheInside.{Inside}
use Rattle.dl_rules.specs.KeptIndex.{index_of}
use Rattle.dl_rules.specs.Lines.{Line, IndexLists, no_line, IsThere, IsThereWithin, heads_row, uses_row, kind_row, passes}
use Rattle.dl_rows.specs.Counting.{each_once}
use Rattle.dl_rows.specs.There.{there}
use Rattle.dl_rows.proofs.There.{live_drop}

pub there_is : (o : Option Line) → IsSome o → o ≡ Some (unwrap_or o no_line)
there_is None h = absurd (true≢false (sym h))
there_is (Some l) h = refl

-- no rule is there past the end
pub there_within : (lines : List (Option Line)) (s : ℕ) → IsThere lines s → s < length lines
there_within lines s h =
    elim (cases_lt s (length lines)) [
      | inl lt ↦ lt
      | inr past ↦ absurd (true≢false (sym h ∙ ap is_some (get_or_past lines s None past)))
    ]

pub there_kept : (lines : List (Option Line)) (o : Option Line) (s : ℕ) → IsThere lines s → IsThere (lines ++ o ∷ []) s
there_kept lines o s h = ap is_some (get_or_append_left lines (o ∷ []) None s (there_within lines s h)) ∙ h

pub there_left : (lines : List (Option Line)) (x s : ℕ) → IsThere lines s → s ≢ x → IsThere (set lines x None) s
there_left lines x s h other = ap is_some (get_or-set_other lines x s None None other) ∙ h

-- the kind that is found at a number
pub found_none : (o : Option Line) → ◌≡◌ {A = Option Kind} None (option_map (λ l. l.kind) o) → o ≡ None
found_none None e = refl
found_none (Some l) e = cc

pub found_there : (o : Option Line) (k : Kind) → Some k ≡ option_map (λ (l : Line). l.kind) o → IsSome o
found_there None k e = cc
found_there (Some l) k e = refl

pub found_kind : (o : Option Line) (k : Kind) → Some k ≡ option_map (λ (l : Line). l.kind) o → k ≡ (unwrap_or o no_line).kind
found_kind None k e = cc
found_kind (Some l) k e = cc

-- what a rule that is there has as its head, and as what it can prove
pub head_there : (o : Option Line) → IsSome o → heads_row o ≡ (unwrap_or o no_line).head ∷ []
head_there None h = absurd (true≢false (sym h))
head_there (Some l) h = refl

pub kind_there : (strict : Bool) (o : Option Line) → IsSome o
    → kind_row strict o ≡ cond (passes strict (unwrap_or o no_line).kind) ((unwrap_or o no_line).head ∷ []) []
kind_there strict None h = absurd (true≢false (sym h))
kind_there strict (Some l) h = refl

pub use_once : (o : Option Line) → uses_row o ≡ each_once (unwrap_or o no_line).body
use_once None = refl
use_once (Some l) = refl

-- ---- how many are there

pub live_all : (lines : List (Option Line)) (names : ℕ) → All (IsThereWithin names) lines → length lines ≡ length (there lines)
live_all [] names h = refl
live_all (None ∷ lines) names h = absurd (true≢false (sym (All-head (IsThereWithin names) None lines h).0))
live_all (Some l ∷ lines) names h = ap suc (live_all lines names (All-tail (IsThereWithin names) (Some l) lines h))

pub live_take : (lines : List (Option Line)) (x : ℕ) → IsThere lines x → length (there (set lines x None)) + 1 ≡ length (there lines)
live_take lines x h = live_drop lines (unwrap_or (get_or lines x None) no_line) x (there_is (get_or lines x None) h)

-- ---- the rules of an index

module _ (a : Inside) (v : IndexLists) (is : index_of a ≡ v) (s : ℕ) (h : IsThere v.lines s) where
  pub there_in : IsThere a.lines.items s
  there_in = subst (λ (w : IndexLists). IsThere w.lines s) (sym is) h

  pub within_in : s < length a.lines.items
  within_in = there_within a.lines.items s there_in
