use Rattle.std.proofs.Common.{◌≡◌, [], ◌∷◌, ◌++◌, subst}
use Rattle.std.specs.Io.KnownBytes.{append_known}
use Rattle.std.proofs.lemmas.Result.{err_from_is_err_and}
use Rattle.dl_io.specs.Streams.{WritesAll}
use Rattle.dl_lit.specs.declared.literal.Literal.{Literal}
use Rattle.dl_theory.specs.declared.rule.Kind.{Kind}
use Rattle.dl_print.specs.Text.{literal_text, body_text, arrow_text}
use Rattle.dl_print.proofs.Writes.{Cuts, cut_first, cut_after, then_all}
use Rattle.dl_edition.proofs.rule.write_content.Goals as goal

pub returns-in_err-write_body-clause-bytes : goal.returns-in_err-write_body-clause-bytes
returns-in_err-write_body-clause-bytes g c =
    let p = err_from_is_err_and c.from_residual.result c.from_residual.ensures.1 in
    let r = c.args.rule.now in
    rw p.1 (cut_first _ _ (body_text r.body) ((arrow_text r.kind ++ 32 ∷ []) ++ literal_text r.head) c.in_err-write_body.ensures.bytes)

pub returns-in_err-write_arrow-clause-bytes : goal.returns-in_err-write_arrow-clause-bytes
returns-in_err-write_arrow-clause-bytes g c =
    let p = err_from_is_err_and c.from_residual-in_err-write_arrow.result c.from_residual-in_err-write_arrow.ensures.1 in
    let r = c.args.rule.now in
    let arrow =
    subst (λ (k : Kind). Cuts (g.S.Sink.written c.write_body.new.sink) (g.S.Sink.written c.write_arrow.new.sink) (arrow_text k ++ 32 ∷ []))
    c.kind.ensures c.in_err-write_arrow.ensures.bytes in
    rw p.1
    (cut_after _ _ _ (body_text r.body) ((arrow_text r.kind ++ 32 ∷ []) ++ literal_text r.head) c.in_ok-write_body.ensures.bytes
    (cut_first _ _ (arrow_text r.kind ++ 32 ∷ []) (literal_text r.head) arrow))

pub returns-clause-bytes : goal.returns-clause-bytes
returns-clause-bytes g c =
    let r = c.args.rule.now in
    let arrow =
    subst (λ (k : Kind). g.S.Sink.written c.write_arrow.new.sink ≡ append_known (g.S.Sink.written c.write_body.new.sink) (arrow_text k ++ 32 ∷ []))
    c.kind.ensures c.in_ok-write_arrow.ensures.bytes in
    let head =
    subst
    (λ (q : Literal).
    WritesAll (g.S.Sink.written c.write_arrow.new.sink) (g.S.Sink.written c.write_literal_ref.new.sink) c.write_literal_ref.result (literal_text q))
    c.head.ensures c.write_literal_ref.ensures.bytes in
    then_all _ _ _ _ (body_text r.body) ((arrow_text r.kind ++ 32 ∷ []) ++ literal_text r.head) c.in_ok-write_body.ensures.bytes
    (then_all _ _ _ _ (arrow_text r.kind ++ 32 ∷ []) (literal_text r.head) arrow head)
