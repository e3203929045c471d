use Rattle.std.proofs.Common.{◌≡◌, ℕ, List, [], ◌∷◌, ◌++◌, subst}
use Rattle.std.specs.Io.KnownBytes.{append_known}
use Rattle.std.proofs.lemmas.Result.{err_from_is_err_and}
use Rattle.dl_theory.specs.declared.rule.Rule.{Rule}
use Rattle.dl_print.specs.Text.{literal_text, body_text, arrow_text}
use Rattle.dl_print.proofs.Writes.{Cuts, cut_first, cut_after, then_all}
use Rattle.dl_edition.proofs.rule.write_rule_ref.Goals as goal

-- what stands behind the label
abbrev content : Rule → List ℕ
content r = body_text r.body ++ ((arrow_text r.kind ++ 32 ∷ []) ++ literal_text r.head)

pub returns-in_err-write_name-clause-bytes : goal.returns-in_err-write_name-clause-bytes
returns-in_err-write_name-clause-bytes g c =
    let p = err_from_is_err_and c.from_residual.result c.from_residual.ensures.1 in
    let r = c.args.rule.now in
    let label =
    subst (λ (l : List ℕ). Cuts (g.S.Sink.written c.args.sink.now) (g.S.Sink.written c.write_name.new.sink) l) c.label.ensures c.in_err-write_name.ensures.bytes in
    rw p.1 (cut_first _ _ r.label ((58 ∷ 32 ∷ []) ++ content r) label)

pub returns-in_err-write_all-clause-bytes : goal.returns-in_err-write_all-clause-bytes
returns-in_err-write_all-clause-bytes g c =
    let p = err_from_is_err_and c.from_residual-in_err-write_all.result c.from_residual-in_err-write_all.ensures.1 in
    let r = c.args.rule.now in
    let label =
    subst (λ (l : List ℕ). g.S.Sink.written c.write_name.new.sink ≡ append_known (g.S.Sink.written c.args.sink.now) l) c.label.ensures
    c.in_ok-write_name.ensures.bytes in
    rw p.1
    (cut_after _ _ _ r.label ((58 ∷ 32 ∷ []) ++ content r) label (cut_first _ _ (58 ∷ 32 ∷ []) (content r) c.in_err-write_all.ensures.bytes))

pub returns-clause-bytes : goal.returns-clause-bytes
returns-clause-bytes g c =
    let r = c.args.rule.now in
    let label =
    subst (λ (l : List ℕ). g.S.Sink.written c.write_name.new.sink ≡ append_known (g.S.Sink.written c.args.sink.now) l) c.label.ensures
    c.in_ok-write_name.ensures.bytes in
    then_all _ _ _ _ r.label ((58 ∷ 32 ∷ []) ++ content r) label
    (then_all _ _ _ _ (58 ∷ 32 ∷ []) (content r) c.in_ok-write_all.ensures.bytes c.write_content.ensures.bytes)
