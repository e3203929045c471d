use Rattle.std.proofs.Common.{◌≡◌, ◌∙◌, ℕ, ◌<◌, List, [], ◌∷◌, ◌++◌, length, ap, subst, sym, arith}
use Rattle.dl_calls.specs.declared.call.Call.TheVariants.{Publish}
use Rattle.dl_calls.specs.declared.reply.Reply.TheVariants.{Edition}
use Rattle.dl_calls.specs.declared.entry.Entry.{Entry}
use Rattle.dl_edition.specs.Editions.{EditionLists}
use Rattle.dl_board.specs.Boards.{BoardLists}
use Rattle.dl_board.specs.Kept.{IsKept}
use Rattle.dl_board.proofs.Keeping.{entry, state, edition_count, keeps_publication}
use Rattle.dl_board.proofs.board.Board.publish.Goals as goal

pub invariant_of-self-2 : goal.invariant_of-self-2
invariant_of-self-2 g c =
    let i = c.self-2.inside in
    let n = c.len-number.result in
    let E : EditionLists = c.in_ok-held.held in
    let B : BoardLists = record { start = i.start; history = i.entries.items; enrolled = i.count; names = i.draft.names } in
    let same : B ≡ c.args.self.now = c.self-2.view_is ∙ c.frozen.ensures.board in
    let here : c.args.seat < i.count = subst (λ (V : BoardLists). c.args.seat < V.enrolled) (sym same) c.requires.seat in
    let before : n ≡ length (state c.args.self.now).editions =
    subst (λ (V : BoardLists). n ≡ length (state V).editions) c.self.view_is
    (omega (arith, c.len-number.ensures, c.self.inside.editions.ok.0, edition_count _ _ _ _ c.self.invariant)) in
    let now : length i.editions.items ≡ length (state c.args.self.now).editions =
    subst (λ (V : BoardLists). length i.editions.items ≡ length (state V).editions) same (edition_count _ _ _ _ c.self-2.invariant) in
    let many : n ≡ length i.editions.items = before ∙ sym now in
    let draft : E.theory ≡ (state B).draft = subst (λ (V : BoardLists). E.theory ≡ (state V).draft) (sym same) c.in_ok-held.ensures.theory in
    let grown : c.push_reserved.new.self.items ≡ i.editions.items ++ E ∷ [] =
    c.push_reserved.ensures.items ∙ ap (λ (l : List EditionLists). l ++ E ∷ []) c.in_ok-reserve.ensures.items in
    let pushed : c.push.new.self.items ≡ i.entries.items ++ entry c.args.seat Publish (Edition (length i.editions.items)) ∷ [] =
    c.in_ok-push.ensures.items ∙ ap (λ (k : ℕ). i.entries.items ++ entry c.args.seat Publish (Edition k) ∷ []) many in
    subst (λ (h : List Entry). IsKept (record { start = i.start; history = h; enrolled = i.count; names = i.draft.names }) i.draft.theory c.push_reserved.new.self.items i.book.total)
    (sym pushed)
    (keeps_publication _ _ _ _ c.self-2.invariant c.args.seat here E c.push_reserved.new.self.items (c.in_ok-held.ensures.number ∙ many) draft grown)

pub returns-clause-legal : goal.returns-clause-legal
returns-clause-legal g c = (invariant_of-self-2 g c).legal
