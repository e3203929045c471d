use Rattle.std.proofs.Common.{◌∙◌, List, arith, ap}
use Rattle.std.proofs.lemmas.List.{take_all}
use Rattle.std.proofs.lemmas.Result.{err_from_is_err_and}
use Rattle.std.specs.Io.KnownBytes.{append_known}
use Rattle.dl_calls.specs.declared.entry.Entry.{Entry}
use Rattle.dl_calls.specs.Text.{entry_text, journal_text}
use Rattle.dl_print.proofs.Writes.{cut_line, line_more}
use Rattle.dl_journal.proofs.Written.{item_within, item_is, past_end}
use Rattle.dl_journal.proofs.journal.write_history.Goals as goal

pub returns-in_err-write_entry-clause-bytes : goal.returns-in_err-write_entry-clause-bytes
returns-in_err-write_entry-clause-bytes g c =
    let p = err_from_is_err_and c.from_residual.result c.from_residual.ensures.1 in
    let cut = c.in_err-write_entry.ensures.bytes in
    let history = c.args.board.now.history in
    rw p.1 (cut_line entry_text history c.loop-entry.at c.in-Some.entry.now _ _ _ cut.0 (item_within history c.loop-entry.at c.in-Some.entry.now c.in-Some.ensures)
    (item_is history c.loop-entry.at c.in-Some.entry.now c.in-Some.ensures) c.loop-entry.invariant.bytes cut.1 cut.2)

pub overflow_add-at : goal.overflow_add-at
overflow_add-at g c =
    let within = item_within c.args.board.now.history c.loop-entry.at c.in-Some.entry.now c.in-Some.ensures in
    omega (arith, within, c.entries-entries.ensures.len, c.entries-entries.type_inv)

pub loop-entry-smaller : goal.loop-entry-smaller
loop-entry-smaller g c =
    let within = item_within c.args.board.now.history c.loop-entry.at c.in-Some.entry.now c.in-Some.ensures in
    omega (arith, within)

pub loop-entry-preserved : goal.loop-entry-preserved
loop-entry-preserved g c =
    let history = c.args.board.now.history in
    let within = item_within history c.loop-entry.at c.in-Some.entry.now c.in-Some.ensures in
    record {
      bytes = line_more entry_text history c.loop-entry.at c.in-Some.entry.now _ _ _ within (item_is history c.loop-entry.at c.in-Some.entry.now c.in-Some.ensures)
          c.loop-entry.invariant.bytes c.in_ok-write_entry.ensures.bytes;
      within = omega (arith, within);
      faults = c.in_ok-write_entry.ensures.cause ∙ c.loop-entry.invariant.faults;
      name = c.in_ok-write_entry.ensures.name ∙ c.loop-entry.invariant.name;
    }

pub returns-clause-bytes : goal.returns-clause-bytes
returns-clause-bytes g c =
    let history = c.args.board.now.history in
    c.loop-entry.invariant.bytes
    ∙ ap (λ (l : List Entry). append_known (g.S.Sink.written c.args.sink.now) (journal_text l)) (take_all c.loop-entry.at history (past_end history c.loop-entry.at c.in_default.ensures))
