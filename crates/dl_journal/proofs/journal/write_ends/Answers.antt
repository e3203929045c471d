use Rattle.std.proofs.Common.{◌∙◌, ◌+◌, ℕ, List, get_or, arith, ap, sym}
use Rattle.std.specs.List.{flat_map, enumerate_from}
use Rattle.std.specs.Io.KnownBytes.{append_known}
use Rattle.std.proofs.lemmas.Result.{err_from_is_err_and}
use Rattle.std.proofs.lemmas.Option.{slice_get-get_or}
use Rattle.dl_session.specs.declared.end.End.{End}
use Rattle.dl_session.specs.declared.end.End.TheVariants.{Done}
use Rattle.dl_journal.specs.Journal.{end_line}
use Rattle.dl_print.proofs.Writes.{cut_line, line_more}
use Rattle.dl_journal.proofs.Written.{item_is, numbered_take, numbered_at, numbered_within}
use Rattle.dl_journal.proofs.journal.write_ends.Goals as goal

pub returns-in_err-write_end-clause-bytes : goal.returns-in_err-write_end-clause-bytes
returns-in_err-write_end-clause-bytes g c =
    let p = err_from_is_err_and c.from_residual.result c.from_residual.ensures.1 in
    let cut = c.in_err-write_end.ensures.bytes in
    let ends = c.args.ends.now in
    let at = c.loop-number.number in
    let end = get_or ends at Done in
    let is = item_is ends at end (sym (slice_get-get_or ends at Done c.loop-number-test.true)) in
    let line : ℕ × End → List ℕ = λ numbered. end_line numbered.0 numbered.1 in
    rw p.1 (cut_line line (enumerate_from 0 ends) at (at, end) _ _ _ cut.0 (numbered_within ends at c.loop-number-test.true) (numbered_at ends at end c.loop-number-test.true is)
    (c.loop-number.invariant.bytes ∙ ap (λ (l : List (ℕ × End)). append_known (g.S.Sink.written c.args.sink.now) (flat_map line l)) (numbered_take 0 ends at)) cut.1 cut.2)

pub loop-number-preserved : goal.loop-number-preserved
loop-number-preserved g c =
    let ends = c.args.ends.now in
    let at = c.loop-number.number in
    let end = get_or ends at Done in
    let is = item_is ends at end (sym (slice_get-get_or ends at Done c.loop-number-test.true)) in
    let line : ℕ × End → List ℕ = λ numbered. end_line numbered.0 numbered.1 in
    record {
      bytes = line_more line (enumerate_from 0 ends) at (at, end) _ _ _ (numbered_within ends at c.loop-number-test.true) (numbered_at ends at end c.loop-number-test.true is)
          (c.loop-number.invariant.bytes ∙ ap (λ (l : List (ℕ × End)). append_known (g.S.Sink.written c.args.sink.now) (flat_map line l)) (numbered_take 0 ends at)) c.in_ok-write_end.ensures.bytes
          ∙ ap (λ (l : List (ℕ × End)). append_known (g.S.Sink.written c.args.sink.now) (flat_map line l)) (sym (numbered_take 0 ends (at + 1)));
      within = omega (arith, c.loop-number-test.true);
      faults = c.in_ok-write_end.ensures.cause ∙ c.loop-number.invariant.faults;
      name = c.in_ok-write_end.ensures.name ∙ c.loop-number.invariant.name;
    }
