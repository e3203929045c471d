use Rattle.std.proofs.Common.{[], ◌∷◌, sym, subst}
use Rattle.std.specs.Prelude.{Option}
use Rattle.std.proofs.lemmas.Result.{err_from_is_err_and}
use Rattle.dl_io.specs.Streams.{WritesAll}
use Rattle.dl_theory.specs.declared.rule.Rule.{Rule}
use Rattle.dl_print.specs.Text.{rule_text, line}
use Rattle.dl_print.proofs.Writes.{Cuts, cut_first, then_all}
use Rattle.dl_edition.specs.Lines.{slot_text}
use Rattle.dl_edition.proofs.text.write_rule_line.Goals as goal

pub returns-in_err-write_rule_ref-in-Some-clause-bytes : goal.returns-in_err-write_rule_ref-in-Some-clause-bytes
returns-in_err-write_rule_ref-in-Some-clause-bytes g c =
    let p = err_from_is_err_and c.from_residual.result c.from_residual.ensures.1 in
    rw p.1
    (subst (λ (o : Option Rule). Cuts (g.S.Sink.written c.args.sink.now) (g.S.Sink.written c.write_rule_ref.new.sink) (slot_text (line rule_text) o))
    (sym c.in-Some.is) (cut_first _ _ (rule_text (c.in-Some.rule)) (10 ∷ []) c.in_err-write_rule_ref-in-Some.ensures.bytes))

pub returns-in_ok-write_rule_ref-in-Some-clause-bytes : goal.returns-in_ok-write_rule_ref-in-Some-clause-bytes
returns-in_ok-write_rule_ref-in-Some-clause-bytes g c =
    subst
    (λ (o : Option Rule).
    WritesAll (g.S.Sink.written c.args.sink.now) (g.S.Sink.written c.write_all.new.sink) c.write_all.result (slot_text (line rule_text) o))
    (sym c.in-Some.is) (then_all _ _ _ _ (rule_text (c.in-Some.rule)) (10 ∷ []) c.in_ok-write_rule_ref-in-Some.ensures.bytes c.write_all.ensures.bytes)
