use Rattle.std.proofs.Common.{ℕ, ◌==◌, List, length, sym, ap, subst, ◌∙◌}
use Rattle.dl_request.specs.declared.request.Request.TheVariants as request
use Rattle.dl_request.specs.declared.request.Asked.{Asked}
use Rattle.dl_request.specs.declared.request.Asked.TheVariants as asked
use Rattle.dl_request.specs.Requests.{Means, MayWantMemory}
use Rattle.dl_request.specs.Reading.{IsEditWord, spelled, Behind}
use Rattle.dl_request.proofs.CutWords.{clash, empty_list}
use Rattle.dl_request.proofs.Asking.{MeansOnly, variables_only, nothing_only, edit_only, key_only, edit_outside, key_outside, other_outside, edit_wants, ask_wants, at_err}
use Rattle.dl_request.proofs.read.read_request.Goals as goal

pub returns-then-has_variables-clause-asked : goal.returns-then-has_variables-clause-asked
returns-then-has_variables-clause-asked c =
    let cut = c.without_cr-line in
    subst (λ (l : List ℕ). MeansOnly l asked.Variables) cut.ensures (variables_only cut.result.now (sym c.has_variables.ensures ∙ c.if-has_variables.true))

pub returns-then-is_empty-clause-asked : goal.returns-then-is_empty-clause-asked
returns-then-is_empty-clause-asked c =
    let cut = c.without_cr-line in
    subst (λ (l : List ℕ). MeansOnly l asked.Nothing) cut.ensures
    (nothing_only cut.result.now (sym c.cut_word.ensures.word ∙ empty_list c.cut_word.result.0.now (sym c.is_empty.ensures ∙ c.if-is_empty.true)))

pub returns-in_err-edit-clause-memory : goal.returns-in_err-edit-clause-memory
returns-in_err-edit-clause-memory c =
    let cut = c.without_cr-line in
    let edits = subst (λ (w : List ℕ). IsEditWord w) c.cut_word.ensures.word (c.is_edit_word.ensures.0 c.if-is_edit_word.true) in
    at_err c.from_residual.result _
    (subst (λ (l : List ℕ). (y : Asked) → Means l y → MayWantMemory y) cut.ensures (edit_wants cut.result.now (sym c.has_variables.ensures ∙ c.if-has_variables.false) edits))

pub returns-in-Some-clause-asked : goal.returns-in-Some-clause-asked
returns-in-Some-clause-asked c =
    let cut = c.without_cr-line in
    let e = rw c.in-Some.is at c.in_ok-edit.ensures in
    subst (λ (l : List ℕ). MeansOnly l (asked.Request (request.Edit c.in-Some.edit))) cut.ensures (edit_only cut.result.now c.in-Some.edit e)

pub returns-in-None-clause-asked : goal.returns-in-None-clause-asked
returns-in-None-clause-asked c =
    let cut = c.without_cr-line in
    let none = rw c.in-None.is at c.in_ok-edit.ensures in
    let edits = subst (λ (w : List ℕ). IsEditWord w) c.cut_word.ensures.word (c.is_edit_word.ensures.0 c.if-is_edit_word.true) in
    subst (λ (l : List ℕ). MeansOnly l asked.Form) cut.ensures (edit_outside cut.result.now (sym c.has_variables.ensures ∙ c.if-has_variables.false) edits none)

pub returns-in_default-clause-asked : goal.returns-in_default-clause-asked
returns-in_default-clause-asked c =
    let cut = c.without_cr-line in
    let word = c.cut_word.ensures.word in
    subst (λ (l : List ℕ). MeansOnly l asked.Form) cut.ensures
    (other_outside cut.result.now (sym c.has_variables.ensures ∙ c.if-has_variables.false)
    (λ e. clash c.is_empty.result (c.is_empty.ensures ∙ ap (λ (w : List ℕ). length w == 0) (word ∙ e)) c.if-is_empty.false)
    (λ h. clash c.is_edit_word.result (c.is_edit_word.ensures.1 (subst (λ (w : List ℕ). IsEditWord w) (sym word) h)) c.if-is_edit_word.false)
    (λ k e. c.in_default.ensures k (word ∙ e)))

pub returns-in_err-asked-clause-memory : goal.returns-in_err-asked-clause-memory
returns-in_err-asked-clause-memory c =
    let cut = c.without_cr-line in
    let word = sym c.cut_word.ensures.word ∙ c.in-Some-keyword_of.ensures ∙ ap spelled c.in_err-asked.ensures.memory in
    at_err c.from_residual-in_err-asked.result _
    (subst (λ (l : List ℕ). (y : Asked) → Means l y → MayWantMemory y) cut.ensures (ask_wants cut.result.now (sym c.has_variables.ensures ∙ c.if-has_variables.false) word))

pub returns-in-Some-2-clause-asked : goal.returns-in-Some-2-clause-asked
returns-in-Some-2-clause-asked c =
    let cut = c.without_cr-line in
    let k = c.in-Some-keyword_of.keyword in
    let found = rw c.in-Some-2.is at c.in_ok-asked.ensures.found in
    subst (λ (l : List ℕ). MeansOnly l c.in-Some-2.asked) cut.ensures
    (key_only cut.result.now k c.in-Some-2.asked (sym c.cut_word.ensures.word ∙ c.in-Some-keyword_of.ensures)
    (subst (λ (r : List ℕ). Behind k r c.in-Some-2.asked) c.cut_word.ensures.rest found))

pub returns-in-None-2-clause-asked : goal.returns-in-None-2-clause-asked
returns-in-None-2-clause-asked c =
    let cut = c.without_cr-line in
    let k = c.in-Some-keyword_of.keyword in
    let none = rw c.in-None-2.is at c.in_ok-asked.ensures.found in
    subst (λ (l : List ℕ). MeansOnly l asked.Form) cut.ensures
    (key_outside cut.result.now k (sym c.has_variables.ensures ∙ c.if-has_variables.false) (sym c.cut_word.ensures.word ∙ c.in-Some-keyword_of.ensures)
    (λ x b. none x (subst (λ (r : List ℕ). Behind k r x) (sym c.cut_word.ensures.rest) b)))
