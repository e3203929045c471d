-- What a board keeps after one more entry.
use Rattle.std.proofs.Common.{◌≡◌, ◌∙◌, ℕ, ◌+◌, ◌<◌, List, [], ◌∷◌, ◌++◌, length, refl, sym, ap, subst, arith}
use Rattle.dl_lit.specs.declared.literal.Literal.{Literal}
use Rattle.dl_theory.specs.declared.edit.Edit as edit
use Rattle.dl_theory.specs.declared.edit.EditRefusal.{EditRefusal}
use Rattle.dl_theory.specs.Lists.{TheoryLists}
use Rattle.dl_theory.specs.Edits.{after_edit, IsAccepted, IsRefused}
use Rattle.dl_edition.specs.Editions.{EditionLists}
use Rattle.dl_calls.specs.declared.call.Call.{Call}
use Rattle.dl_calls.specs.declared.call.Call.TheVariants.{Enrol, Edit, Publish, Hold}
use Rattle.dl_calls.specs.declared.reply.Reply.{Reply}
use Rattle.dl_calls.specs.declared.reply.Reply.TheVariants.{Enrolled, Edited, EditRefused, Edition}
use Rattle.dl_calls.specs.declared.entry.Entry.{Entry}
use Rattle.dl_calls.specs.Reasoner.{State, IsStep, held}
use Rattle.dl_calls.specs.Histories.{after, state_after}
use Rattle.dl_calls.proofs.Runs.{legal_more, state_more}
use Rattle.dl_board.specs.Boards.{BoardLists}
use Rattle.dl_board.specs.Kept.{numbered, IsKept}
use Rattle.dl_board.proofs.Numbering.{numbered_length, numbered_push}

-- the board with one entry more, so many seats and these names
abbrev pub with_entry : BoardLists → Entry → ℕ → List Literal → BoardLists
with_entry B e count names = record { start = B.start; history = B.history ++ e ∷ []; enrolled = count; names = names }

abbrev pub entry : ℕ → Call → Reply → Entry
entry seat asked reply = record { seat = seat; call = asked; reply = reply }

-- the state that the board keeps
abbrev pub state : BoardLists → State
state B = state_after B.start B.history

-- a step keeps the board, where draft, editions and seats go with it
keeps_step : (B : BoardLists) (draft new_draft : TheoryLists) (editions new_editions : List EditionLists) (total new_total count : ℕ) (names : List Literal) (e : Entry)
    → IsKept B draft editions total → IsStep (state B) e.seat e.call e.reply (after (state B) e) → new_draft ≡ (after (state B) e).draft
    → new_editions ≡ numbered 0 (after (state B) e).editions → count ≡ (after (state B) e).count → new_total ≡ count
    → IsKept (with_entry B e count names) new_draft new_editions new_total
keeps_step B draft new_draft editions new_editions total new_total count names e kept step d es n t =
    let more = sym (state_more B.start B.history e) in
    record {
      legal = legal_more B.start B.history e kept.legal step;
      draft_is = d ∙ ap (λ (s : State). s.draft) more;
      editions_are = es ∙ ap (λ (s : State). numbered 0 s.editions) more;
      count_is = n ∙ ap (λ (s : State). s.count) more;
      total_is = t;
    }

-- a hold leaves the state as it is
pub after_hold : (B : BoardLists) (seat n : ℕ) (reply : Reply) → state_after B.start (B.history ++ entry seat (Hold n) reply ∷ []) ≡ state B
after_hold B seat n reply = state_more B.start B.history (entry seat (Hold n) reply)

-- there are as many editions as the state has
pub edition_count : (B : BoardLists) (draft : TheoryLists) (editions : List EditionLists) (total : ℕ) → IsKept B draft editions total
    → length editions ≡ length (state B).editions
edition_count B draft editions total kept = ap (λ (l : List EditionLists). length l) kept.editions_are ∙ numbered_length 0 (state B).editions

module _ (B : BoardLists) (draft : TheoryLists) (editions : List EditionLists) (total : ℕ) (kept : IsKept B draft editions total) where
  pub keeps_enrolled : (new_total count : ℕ) → count ≡ B.enrolled + 1 → new_total ≡ count
      → IsKept (with_entry B (entry B.enrolled Enrol (Enrolled B.enrolled)) count B.names) draft editions new_total
  keeps_enrolled new_total count n t =
      keeps_step B draft draft editions editions total new_total count B.names (entry B.enrolled Enrol (Enrolled B.enrolled)) kept
      (kept.count_is, ap (λ (k : ℕ). Enrolled k) kept.count_is, refl) kept.draft_is kept.editions_are (n ∙ ap (λ (k : ℕ). k + 1) kept.count_is) t

  module _ (seat : ℕ) (enrolled : seat < B.enrolled) where
    here : seat < (state B).count
    here = subst (λ (n : ℕ). seat < n) kept.count_is enrolled

    pub keeps_edit : (new_draft : TheoryLists) (names : List Literal) (e : edit.Edit) → IsAccepted draft e → new_draft ≡ after_edit draft e
        → IsKept (with_entry B (entry seat (Edit e) Edited) B.enrolled names) new_draft editions total
    keeps_edit new_draft names e accepted changed =
        keeps_step B draft new_draft editions editions total total B.enrolled names (entry seat (Edit e) Edited) kept
        (here, subst (λ (T : TheoryLists). IsAccepted T e) kept.draft_is accepted, refl) (changed ∙ ap (λ (T : TheoryLists). after_edit T e) kept.draft_is)
        kept.editions_are kept.count_is kept.total_is

    pub keeps_refusal : (new_draft : TheoryLists) (names : List Literal) (e : edit.Edit) (x : EditRefusal) → IsRefused draft e x → new_draft ≡ draft
        → IsKept (with_entry B (entry seat (Edit e) (EditRefused x)) B.enrolled names) new_draft editions total
    keeps_refusal new_draft names e x refused same =
        keeps_step B draft new_draft editions editions total total B.enrolled names (entry seat (Edit e) (EditRefused x)) kept
        (here, subst (λ (T : TheoryLists). IsRefused T e x) kept.draft_is refused, refl) (same ∙ kept.draft_is) kept.editions_are kept.count_is kept.total_is

    pub keeps_publication : (E : EditionLists) (new_editions : List EditionLists) → E.number ≡ length editions → E.theory ≡ (state B).draft
        → new_editions ≡ editions ++ E ∷ [] → IsKept (with_entry B (entry seat Publish (Edition (length editions))) B.enrolled B.names) draft new_editions total
    keeps_publication E new_editions numbered_so is grown =
        let many = edition_count B draft editions total kept in
        keeps_step B draft draft editions new_editions total total B.enrolled B.names (entry seat Publish (Edition (length editions))) kept
        (here, ap (λ (n : ℕ). Edition n) many, refl) kept.draft_is
        (grown ∙ ap (λ (l : List EditionLists). l ++ E ∷ []) kept.editions_are
        ∙ ap (λ (n : ℕ). numbered 0 (state B).editions ++ record { number = n; theory = E.theory } ∷ []) (numbered_so ∙ many ∙ omega arith)
        ∙ ap (λ (T : TheoryLists). numbered 0 (state B).editions ++ record { number = 0 + length (state B).editions; theory = T } ∷ []) is
        ∙ sym (numbered_push 0 (state B).editions (state B).draft))
        kept.count_is kept.total_is

    pub keeps_hold : (n : ℕ) (reply : Reply) → reply ≡ held n (length (state B).editions)
        → IsKept (with_entry B (entry seat (Hold n) reply) B.enrolled B.names) draft editions total
    keeps_hold n reply is =
        keeps_step B draft draft editions editions total total B.enrolled B.names (entry seat (Hold n) reply) kept (here, is, refl) kept.draft_is kept.editions_are
        kept.count_is kept.total_is
