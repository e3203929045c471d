use Rattle.std.proofs.Common.{◌≡◌, ◌∙◌, IfOk, IfErr, ap, subst, rules}
use Rattle.std.specs.Prelude.{List}
use Rattle.std.proofs.lemmas.List.Sorted.{answers_always}
use Rattle.dl_edition.specs.Editions.{EditionLists}
use Rattle.dl_session.specs.Table.{TableView, IsAt, IsGapFor}
use Rattle.dl_session.proofs.Searched.{searched}
use Rattle.dl_session.proofs.table.HeldTable.search.Goals as goal

pub returns-clause-found : goal.returns-clause-found
returns-clause-found c =
    let facts = c.binary_search_by_key.ensures in
    let by_key = facts.position (λ (x : EditionLists). x.number) (answers_always _ _ _ (λ f a r g called. search rules)) in
    let same : c.deref.result.now ≡ c.args.self.now.editions = c.deref.ensures.value ∙ ap (λ (t : TableView). t.editions) c.self.view_is in
    subst (λ (l : List EditionLists). IfOk c.binary_search_by_key.result (IsAt l c.args.number)) same (searched _ (rw c.deref.ensures.value c.self.invariant) c.args.number _ facts.bound by_key).found

pub returns-clause-absent : goal.returns-clause-absent
returns-clause-absent c =
    let facts = c.binary_search_by_key.ensures in
    let by_key = facts.position (λ (x : EditionLists). x.number) (answers_always _ _ _ (λ f a r g called. search rules)) in
    let same : c.deref.result.now ≡ c.args.self.now.editions = c.deref.ensures.value ∙ ap (λ (t : TableView). t.editions) c.self.view_is in
    subst (λ (l : List EditionLists). IfErr c.binary_search_by_key.result (IsGapFor l c.args.number)) same (searched _ (rw c.deref.ensures.value c.self.invariant) c.args.number _ facts.bound by_key).absent
