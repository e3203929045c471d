use Rattle.std.proofs.Common.{[], ◌∷◌, List, All, take, get_or, arith, sym, subst}
use Rattle.std.proofs.lemmas.List.{take_all, take_more}
use Rattle.std.proofs.lemmas.List.Elements.{All-append, All-nil, All-cons}
use Rattle.dl_calls.specs.declared.entry.Entry.{Entry}
use Rattle.dl_calls.specs.Spelled.{IsSpelled}
use Rattle.dl_journal.proofs.Written.{item_within, item_is, past_end}
use Rattle.dl_journal.proofs.journal.history_is_spelled.Goals as goal

pub loop-entry-preserved : goal.loop-entry-preserved
loop-entry-preserved g c =
    let history = c.args.board.now.history in
    let at = c.loop-entry.at in
    let entry = c.in-Some.entry.now in
    let within = item_within history at entry c.in-Some.ensures in
    let one = subst IsSpelled (item_is history at entry c.in-Some.ensures) c.entry_is_spelled.ensures in
    record {
      within = omega (arith, within);
      spelled = subst (λ (l : List Entry). All IsSpelled l) (sym (take_more history at entry within))
          (All-append IsSpelled (take at history) (get_or history at entry ∷ []) c.loop-entry.invariant.spelled (All-cons IsSpelled (get_or history at entry) [] one (All-nil IsSpelled)));
    }

pub returns : goal.returns
returns g c =
    let history = c.args.board.now.history in
    subst (λ (l : List Entry). All IsSpelled l) (take_all c.loop-entry.at history (past_end history c.loop-entry.at c.in_default.ensures)) c.loop-entry.invariant.spelled
