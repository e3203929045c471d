use Rattle.std.proofs.Common.{◌≡◌, ◌∙◌, ℕ, suc, ◌-◌, Some, drop, take, take_all, sym, ap, arith}
use Rattle.std.specs.Prelude.{slice_get}
use Rattle.std.specs.Option.{option_map}
use Rattle.std.specs.List.{flat_map}
use Rattle.std.specs.Io.KnownBytes.{append_known}
use Rattle.std.proofs.lemmas.Result.{err_from_is_err_and}
use Rattle.dl_lit.specs.Borrowed.{literal_of}
use Rattle.dl_print.specs.Text.{comma_text}
use Rattle.dl_print.proofs.Writes.{cut_line, line_more}
use Rattle.dl_edition.proofs.Writing.{never_past, stands_behind, length_behind, length_past}
use Rattle.dl_edition.proofs.rule.write_more.Goals as goal

pub returns-in_err-write_comma-in-Some-clause-bytes : goal.returns-in_err-write_comma-in-Some-clause-bytes
returns-in_err-write_comma-in-Some-clause-bytes g c =
    let p = err_from_is_err_and c.from_residual.result c.from_residual.ensures.1 in
    let cut = c.in_err-write_comma-in-Some.ensures.bytes in
    let body = c.args.rule.now.body in
    let i : ℕ = c.loop-at.at - 1 in
    let next : c.loop-at.at ≡ suc i = omega (arith, c.loop-at.auto.at) in
    let q = literal_of c.in-Some.literal in
    let found : Some q ≡ slice_get body (suc i) =
    sym (ap (option_map literal_of) c.in-Some.is) ∙ c.body.ensures ∙ ap (slice_get body) next in
    rw p.1
    (cut_line comma_text (drop 1 body) i q _ _ _ cut.0 (length_behind body i (omega (arith, c.loop-at-test.true, c.body_len-at-end.ensures, next)))
    (stands_behind body i q found) c.loop-at.invariant.bytes cut.1 cut.2)

pub unreachable-requires : goal.unreachable-requires
unreachable-requires g c =
    never_past c.args.rule.now.body c.loop-at.at (omega (arith, c.loop-at-test.true, c.body_len-at-end.ensures))
    (sym (ap (option_map literal_of) c.in-None.is) ∙ c.body.ensures)

pub loop-at-preserved : goal.loop-at-preserved
loop-at-preserved g c =
    let body = c.args.rule.now.body in
    let i : ℕ = c.loop-at.at - 1 in
    let next : c.loop-at.at ≡ suc i = omega (arith, c.loop-at.auto.at) in
    let q = literal_of c.in-Some.literal in
    let found : Some q ≡ slice_get body (suc i) =
    sym (ap (option_map literal_of) c.in-Some.is) ∙ c.body.ensures ∙ ap (slice_get body) next in
    let more =
    line_more comma_text (drop 1 body) i q _ _ _ (length_behind body i (omega (arith, c.loop-at-test.true, c.body_len-at-end.ensures, next)))
    (stands_behind body i q found) c.loop-at.invariant.bytes c.in_ok-write_comma-in-Some.ensures.bytes in
    record {
      bytes = more ∙ ap (λ (k : ℕ). append_known (g.S.Sink.written c.args.sink.now) (flat_map comma_text (take k (drop 1 body)))) (omega (arith, next));
      faults = c.in_ok-write_comma-in-Some.ensures.cause ∙ c.loop-at.invariant.faults;
      name = c.write_comma.ensures.name ∙ c.loop-at.invariant.name;
    }

pub returns-clause-bytes : goal.returns-clause-bytes
returns-clause-bytes g c =
    let body = c.args.rule.now.body in
    c.loop-at.invariant.bytes
    ∙ ap (λ l. append_known (g.S.Sink.written c.args.sink.now) (flat_map comma_text l))
    (take_all (c.loop-at.at - 1) (drop 1 body)
    (length_past body (c.loop-at.at - 1) (omega (arith, c.loop-at-test.false, c.body_len-at-end.ensures, c.loop-at.auto.at))))
