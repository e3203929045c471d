use Rattle.std.proofs.Common.{◌≡◌, ◌∙◌, ◌<◌, List, [], ◌∷◌, ◌++◌, length, ap, subst, sym}
use Rattle.dl_calls.specs.declared.call.Call.TheVariants.{Hold}
use Rattle.dl_calls.specs.declared.reply.Reply.{Reply}
use Rattle.dl_calls.specs.declared.entry.Entry.{Entry}
use Rattle.dl_calls.specs.Reasoner.{State, held}
use Rattle.dl_calls.specs.Histories.{state_after}
use Rattle.dl_board.specs.Boards.{BoardLists}
use Rattle.dl_board.specs.Kept.{IsKept}
use Rattle.dl_board.specs.Turns.{HandsOut}
use Rattle.dl_board.proofs.Keeping.{entry, state, keeps_hold, after_hold}
use Rattle.dl_board.proofs.board.Board.hold.Goals as goal

pub invariant_of-self-2 : goal.invariant_of-self-2
invariant_of-self-2 g c =
    let i = c.self.inside in
    let r : Reply = c.in_ok-reply.reply in
    let here = subst (λ (V : BoardLists). c.args.seat < V.enrolled) (sym c.self.view_is) c.requires.seat in
    let is : r ≡ held c.args.number (length (state_after i.start i.entries.items).editions) =
    subst (λ (V : BoardLists). r ≡ held c.args.number (length (state V).editions)) (sym c.self.view_is) (c.in_ok-reply.ensures ∙ c.in_ok-turned.ensures.reply) in
    subst (λ (h : List Entry). IsKept (record { start = i.start; history = h; enrolled = i.count; names = i.draft.names }) i.draft.theory i.editions.items i.book.total)
    (sym c.in_ok-push.ensures.items) (keeps_hold _ _ _ _ c.self.invariant c.args.seat here c.args.number r is)

pub returns-clause-legal : goal.returns-clause-legal
returns-clause-legal g c = (invariant_of-self-2 g c).legal

pub returns-clause-answered : goal.returns-clause-answered
returns-clause-answered g c =
    let i = c.self.inside in
    let r : Reply = c.in_ok-reply.reply in
    let e : Entry = entry c.args.seat (Hold c.args.number) r in
    let pushed : c.push.new.self.items ≡ i.entries.items ++ e ∷ [] = c.in_ok-push.ensures.items in
    let known : HandsOut (state_after i.start i.entries.items) c.in_ok-turned.turned =
    subst (λ (V : BoardLists). HandsOut (state V) c.in_ok-turned.turned) (sym c.self.view_is) c.in_ok-turned.ensures.hands_out in
    record {
      start = ap (λ (V : BoardLists). V.start) c.self.view_is;
      history = pushed ∙ ap (λ (V : BoardLists). V.history ++ e ∷ []) c.self.view_is
          ∙ ap (λ (x : Reply). c.args.self.now.history ++ entry c.args.seat (Hold c.args.number) x ∷ []) c.in_ok-reply.ensures;
      enrolled = ap (λ (V : BoardLists). V.enrolled) c.self.view_is;
      hands_out = subst (λ (h : List Entry). HandsOut (state_after i.start h) c.in_ok-turned.turned) (sym pushed)
          (subst (λ (s : State). HandsOut s c.in_ok-turned.turned)
          (sym (after_hold (record { start = i.start; history = i.entries.items; enrolled = i.count; names = i.draft.names }) c.args.seat c.args.number r)) known);
    }
