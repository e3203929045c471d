use Rattle.std.proofs.Common.{◌≡◌, ◌∙◌, ◌<◌, List, [], ◌∷◌, ◌++◌, ap, subst, sym, arith}
use Rattle.dl_theory.specs.declared.edit.EditStop.{EditStop}
use Rattle.dl_theory.specs.Edits.{IsRefused, IsStopped}
use Rattle.dl_calls.specs.declared.call.Call.TheVariants.{Edit}
use Rattle.dl_calls.specs.declared.reply.Reply.TheVariants.{Edited, EditRefused}
use Rattle.dl_calls.specs.declared.entry.Entry.{Entry}
use Rattle.dl_theory.specs.Lists.{TheoryLists}
use Rattle.dl_update.specs.Bound.{IsWithinCone}
use Rattle.dl_board.specs.Boards.{BoardLists}
use Rattle.dl_board.specs.Kept.{IsKept}
use Rattle.dl_board.proofs.Keeping.{entry, state, keeps_edit, keeps_refusal}
use Rattle.dl_board.proofs.board.Board.edit.Goals as goal

pub invariant_of-self-in-Ok : goal.invariant_of-self-in-Ok
invariant_of-self-in-Ok g c =
    let i = c.self.inside in
    let e : Entry = entry c.args.seat (Edit c.args.edit) Edited in
    let here = subst (λ (V : BoardLists). c.args.seat < V.enrolled) (sym c.self.view_is) c.requires.seat in
    let grown : c.push_reserved.new.self.items ≡ i.entries.items ++ e ∷ [] =
    c.push_reserved.ensures.items ∙ ap (λ (l : List Entry). l ++ e ∷ []) c.in_ok-reserve.ensures.items in
    subst (λ (h : List Entry). IsKept (record { start = i.start; history = h; enrolled = i.count; names = c.touch.new.self.names }) c.touch.new.self.theory i.editions.items i.book.total)
    (sym grown)
    (keeps_edit _ _ _ _ c.self.invariant c.args.seat here c.touch.new.self.theory c.touch.new.self.names c.args.edit c.in-Ok.ensures.edited.0 c.in-Ok.ensures.edited.1)

pub returns-in-Ok-clause-legal : goal.returns-in-Ok-clause-legal
returns-in-Ok-clause-legal g c = (invariant_of-self-in-Ok g c).legal

pub invariant_of-self-in-Err-Refused : goal.invariant_of-self-in-Err-Refused
invariant_of-self-in-Err-Refused g c =
    let i = c.self.inside in
    let x = c.in-Err-Refused.refusal in
    let e : Entry = entry c.args.seat (Edit c.args.edit) (EditRefused x) in
    let here = subst (λ (V : BoardLists). c.args.seat < V.enrolled) (sym c.self.view_is) c.requires.seat in
    let refused : IsRefused i.draft.theory c.args.edit x =
    subst (λ (stop : EditStop). IsStopped i.draft.theory c.args.edit stop) c.in-Err-Refused.field-0-is c.in-Err-Refused.ensures.edited.0 in
    let grown : c.push_reserved-in-Err-Refused.new.self.items ≡ i.entries.items ++ e ∷ [] =
    c.push_reserved-in-Err-Refused.ensures.items ∙ ap (λ (l : List Entry). l ++ e ∷ []) c.in_ok-reserve.ensures.items in
    subst (λ (h : List Entry). IsKept (record { start = i.start; history = h; enrolled = i.count; names = c.touch.new.self.names }) c.touch.new.self.theory i.editions.items i.book.total)
    (sym grown)
    (keeps_refusal _ _ _ _ c.self.invariant c.args.seat here c.touch.new.self.theory c.touch.new.self.names c.args.edit x refused c.in-Err-Refused.ensures.edited.1)

pub returns-in_ok-told-in-Err-Refused-clause-legal : goal.returns-in_ok-told-in-Err-Refused-clause-legal
returns-in_ok-told-in-Err-Refused-clause-legal g c = (invariant_of-self-in-Err-Refused g c).legal

pub returns-in_err-reserve-clause-bound : goal.returns-in_err-reserve-clause-bound
returns-in_err-reserve-clause-bound g c = λ cone fresh all new. omega arith

pub returns-in-Ok-clause-bound : goal.returns-in-Ok-clause-bound
returns-in-Ok-clause-bound g c =
    subst (λ (V : BoardLists). IsWithinCone (state V).draft V.names c.args.edit c.args.steps.now c.touch.new.steps) c.self.view_is
    (subst (λ (T : TheoryLists). IsWithinCone T c.self.inside.draft.names c.args.edit c.args.steps.now c.touch.new.steps) c.self.invariant.draft_is c.touch.ensures.steps)

pub returns-in_ok-told-in-Err-Refused-clause-bound : goal.returns-in_ok-told-in-Err-Refused-clause-bound
returns-in_ok-told-in-Err-Refused-clause-bound g c =
    subst (λ (V : BoardLists). IsWithinCone (state V).draft V.names c.args.edit c.args.steps.now c.touch.new.steps) c.self.view_is
    (subst (λ (T : TheoryLists). IsWithinCone T c.self.inside.draft.names c.args.edit c.args.steps.now c.touch.new.steps) c.self.invariant.draft_is c.touch.ensures.steps)

pub returns-in_err-told-in-Err-Refused-clause-bound : goal.returns-in_err-told-in-Err-Refused-clause-bound
returns-in_err-told-in-Err-Refused-clause-bound g c =
    subst (λ (V : BoardLists). IsWithinCone (state V).draft V.names c.args.edit c.args.steps.now c.touch.new.steps) c.self.view_is
    (subst (λ (T : TheoryLists). IsWithinCone T c.self.inside.draft.names c.args.edit c.args.steps.now c.touch.new.steps) c.self.invariant.draft_is c.touch.ensures.steps)

pub returns-in-Err-Memory-clause-bound : goal.returns-in-Err-Memory-clause-bound
returns-in-Err-Memory-clause-bound g c =
    subst (λ (V : BoardLists). IsWithinCone (state V).draft V.names c.args.edit c.args.steps.now c.touch.new.steps) c.self.view_is
    (subst (λ (T : TheoryLists). IsWithinCone T c.self.inside.draft.names c.args.edit c.args.steps.now c.touch.new.steps) c.self.invariant.draft_is c.touch.ensures.steps)
