use Rattle.std.proofs.Common.{◌≡◌, ◌∷◌, [], true, false, None, cond, get_or, refl, sym, ap, ◌∙◌}
use Rattle.std.specs.Prelude.{unwrap_or}
use Rattle.dl_rules.specs.Lines.{no_line, passes, kind_row}
use Rattle.dl_rules.proofs.PlaceLemmas.{row_at}
use Rattle.dl_rules.proofs.ThereLemmas.{found_none, found_there, found_kind, kind_there}
use Rattle.dl_rules.proofs.index.Index.concluded.Goals as goal

pub head-requires : goal.head-requires
head-requires c = found_there (get_or c.args.self.now.lines c.args.rule None) c.in-Some.kind (sym c.in-Some.is ∙ c.find.ensures)

pub returns-in-None : goal.returns-in-None
returns-in-None c =
    sym (row_at (kind_row c.args.strict) c.args.self.now.lines c.args.rule None refl
    ∙ ap (kind_row c.args.strict) (found_none (get_or c.args.self.now.lines c.args.rule None) (sym c.in-None.is ∙ c.find.ensures)))

pub returns-then-not-passes : goal.returns-then-not-passes
returns-then-not-passes c =
    let o = get_or c.args.self.now.lines c.args.rule None in
    let found = sym c.in-Some.is ∙ c.find.ensures in
    let fails : passes c.args.strict (unwrap_or o no_line).kind ≡ false =
    ap (passes c.args.strict) (sym (found_kind o c.in-Some.kind found)) ∙ sym c.passes.ensures ∙ c.if-not-passes.true in
    sym (row_at (kind_row c.args.strict) c.args.self.now.lines c.args.rule None refl
    ∙ kind_there c.args.strict o (found_there o c.in-Some.kind found)
    ∙ ap (λ b. cond b ((unwrap_or o no_line).head ∷ []) []) fails)

pub returns-else-not-passes : goal.returns-else-not-passes
returns-else-not-passes c =
    let o = get_or c.args.self.now.lines c.args.rule None in
    let found = sym c.in-Some.is ∙ c.find.ensures in
    let passed : passes c.args.strict (unwrap_or o no_line).kind ≡ true =
    ap (passes c.args.strict) (sym (found_kind o c.in-Some.kind found)) ∙ sym c.passes.ensures ∙ c.if-not-passes.false in
    sym (row_at (kind_row c.args.strict) c.args.self.now.lines c.args.rule None refl
    ∙ kind_there c.args.strict o (found_there o c.in-Some.kind found)
    ∙ ap (λ b. cond b ((unwrap_or o no_line).head ∷ []) []) passed
    ∙ ap (λ h. h ∷ []) (sym c.head.ensures))
