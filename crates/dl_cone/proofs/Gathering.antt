-- Numbers that are gathered into a region along steps from a start, each member followed once.
use Rattle.std.proofs.Common.{◌≡◌, ℕ, ◌+◌, ◌<◌, ◌≤◌, List, [], ◌++◌, Some, length, get_or, inl, inr, sym, subst, ap, ◌∙◌, arith}
use Rattle.std.specs.Prelude.{◌↔◌, All, Contains, slice_get}
use Rattle.std.proofs.lemmas.Bool.{cases_lt}
use Rattle.std.proofs.lemmas.List.{get_or_default, get_or_append_left}
use Rattle.std.proofs.lemmas.List.Elements.{All-weaker, All-contains, All-append, Contains-append_left, Contains-get_or}
use Rattle.std.proofs.lemmas.Option.{slice_get_within, get_or_from_slice_get}
use Rattle.dl_lit.specs.declared.literal.Literal.{Literal}
use Rattle.dl_theory.specs.Verdicts.{Reaches}
use Rattle.dl_graph.specs.Region.{Numbers}
use Rattle.dl_graph.specs.Numbers.{NetLists, IsNumbered, no_literal, number, literal_at}
use Rattle.dl_fill.proofs.Links.{number_finds, number_inside}
use Rattle.dl_derive.specs.Back.{Gains}
use Rattle.dl_cone.specs.Walked.{IsNumberOf}

-- the members of which the first `at` have been followed
pub record IsGathered (N : NetLists) (Start : Literal → Type 0) (Step : Literal → Literal → Type 0) (at : ℕ) (r : Numbers) : Type 0 where
  pub bound : r.bound ≡ length N.names
  pub sound : All (IsNumberOf N (Reaches Start Step)) r.members
  pub start : (n : ℕ) → IsNumberOf N Start n → Contains r.members n
  pub closed : (k : ℕ) → k < at → k < length r.members → (n : ℕ) → IsNumberOf N (Step (literal_at N (get_or r.members k 0))) n → Contains r.members n

module _ (N : NetLists) (Start : Literal → Type 0) (Step : Literal → Literal → Type 0) where
  abbrev IsReached : ℕ → Type 0
  IsReached n = IsNumberOf N (Reaches Start Step) n

  pub gathered_start : (a r : Numbers) → a.bound ≡ length N.names → a.members ≡ [] → Gains (IsNumberOf N Start) a r → IsGathered N Start Step 0 r
  gathered_start a r bound none g = record {
    bound = g.bound ∙ bound;
    sound =
        subst (All IsReached) (sym (g.behind ∙ ap (λ (xs : List ℕ). xs ++ g.more) none))
        (All-weaker (IsNumberOf N Start) IsReached (λ n h. (h.0, Reaches.start (literal_at N n) h.1)) g.more g.sound);
    start = g.complete;
    closed = λ k before inside n step. absurd (omega (arith, before));
  }

  reached_at : (at x : ℕ) (r : Numbers) → slice_get r.members at ≡ Some x → IsGathered N Start Step at r → IsReached x
  reached_at at x r e h = All-contains IsReached r.members x h.sound (at, slice_get_within r.members at x e, get_or_from_slice_get r.members at x x e)

  pub gathered_inside : (at x : ℕ) (r : Numbers) → slice_get r.members at ≡ Some x → IsGathered N Start Step at r → x < length N.names
  gathered_inside at x r e h = (reached_at at x r e h).0

  pub gathered_next : (at x : ℕ) (r s : Numbers) → slice_get r.members at ≡ Some x → IsGathered N Start Step at r
      → Gains (IsNumberOf N (Step (literal_at N x))) r s → IsGathered N Start Step (at + 1) s
  gathered_next at x r s e h g =
      let within : at < length r.members = slice_get_within r.members at x e in
      let here : get_or r.members at 0 ≡ x = get_or_from_slice_get r.members at x 0 e in
      let mine = (reached_at at x r e h).1 in
      record {
        bound = g.bound ∙ h.bound;
        sound =
            subst (All IsReached) (sym g.behind)
            (All-append IsReached r.members g.more h.sound
            (All-weaker (IsNumberOf N (Step (literal_at N x))) IsReached (λ n m. (m.0, Reaches.step (literal_at N x) (literal_at N n) mine m.1)) g.more g.sound));
        start = λ n m. subst (λ (xs : List ℕ). Contains xs n) (sym g.behind) (Contains-append_left r.members g.more n (h.start n m));
        closed = λ k before inside n step.
            elim (cases_lt k at) [
              | inl early ↦
                  let old : k < length r.members = omega (arith, early, within) in
                  let same : get_or s.members k 0 ≡ get_or r.members k 0 =
                  ap (λ (xs : List ℕ). get_or xs k 0) g.behind ∙ get_or_append_left r.members g.more 0 k old in
                  subst (λ (xs : List ℕ). Contains xs n) (sym g.behind)
                  (Contains-append_left r.members g.more n
                  (h.closed k early old n (subst (λ (v : ℕ). IsNumberOf N (Step (literal_at N v)) n) same step)))
              | inr late ↦
                  let this : k ≡ at = omega (arith, before, late) in
                  let same : get_or s.members k 0 ≡ x =
                  ap (λ (i : ℕ). get_or s.members i 0) this ∙ ap (λ (xs : List ℕ). get_or xs at 0) g.behind
                  ∙ get_or_append_left r.members g.more 0 at within ∙ here in
                  g.complete n (subst (λ (v : ℕ). IsNumberOf N (Step (literal_at N v)) n) same step)
            ];
      }

  -- where what steps is named, a region in which every member has been followed has all that is named and reached
  module _ (numbered : IsNumbered N) (step_named : (x y : Literal) → Step x y → Contains N.names x) (at : ℕ) (r : Numbers) (past : length r.members ≤ at)
      (h : IsGathered N Start Step at r) where
    own : (x : Literal) → Contains N.names x → literal_at N (number N x) ≡ x
    own x named = number_finds N numbered x named

    reach : (x : Literal) → Contains N.names x → Reaches Start Step x → Contains r.members (number N x)
    reach x named (Reaches.start _ s) = h.start (number N x) (number_inside N numbered x named, subst Start (sym (own x named)) s)
    reach y named (Reaches.step x _ before step) =
        let from = step_named x y step in
        let k = reach x from before in
        let same : get_or r.members k.0 0 ≡ number N x = get_or_default r.members k.0 0 (number N x) k.1 ∙ k.2 in
        let there : literal_at N (get_or r.members k.0 0) ≡ x = ap (literal_at N) same ∙ own x from in
        h.closed k.0 (omega (arith, k.1, past)) k.1 (number N y)
        (number_inside N numbered y named, subst (Step (literal_at N (get_or r.members k.0 0))) (sym (own y named)) (subst (λ (v : Literal). Step v y) (sym there) step))

    pub gathered_all : (n : ℕ) → Contains r.members n ↔ IsNumberOf N (Reaches Start Step) n
    gathered_all n = (
      λ m. All-contains IsReached r.members n h.sound m,
      λ m. subst (Contains r.members) (numbered.distinct n m.0) (reach (literal_at N n) (Contains-get_or N.names n no_literal m.0) m.1),
    )
