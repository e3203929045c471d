use Rattle.std.proofs.Common.{◌≡◌, List, ℕ, length, get_or, refl, None, Some, sym, ap, subst, ◌∙◌, arith}
use Rattle.std.specs.Prelude.{slice_get}
use Rattle.std.proofs.lemmas.Option.{slice_get_past, slice_get_read}
use Rattle.dl_rows.specs.Rows.{row}
use Rattle.dl_rules.specs.Lines.{uses_row}
use Rattle.dl_rules.proofs.PlaceLemmas.{row_at}
use Rattle.dl_rules.proofs.ThereLemmas.{use_once}
use Rattle.dl_rows.proofs.RowLemmas.{row_past}
use Rattle.dl_rules.proofs.index.Index.once.Goals as goal

pub returns-then-rule-len : goal.returns-then-rule-len
returns-then-rule-len c = sym (ap (λ (xs : List ℕ). slice_get xs c.args.at) (row_past uses_row c.args.self.now.lines c.args.rule (omega arith)))

pub returns-in-None : goal.returns-in-None
returns-in-None c =
    let are : c.each_once.result.now ≡ row uses_row c.args.self.now.lines c.args.rule =
    c.each_once.ensures.numbers ∙ sym (row_at uses_row c.args.self.now.lines c.args.rule None refl ∙ use_once (get_or c.args.self.now.lines c.args.rule None)) in
    subst (λ (xs : List ℕ). ◌≡◌ None (slice_get xs c.args.at)) are
    (sym (slice_get_past c.each_once.result.now c.args.at c.in-None.ensures.lookup.3))

pub returns-in-Some : goal.returns-in-Some
returns-in-Some c =
    let are : c.each_once.result.now ≡ row uses_row c.args.self.now.lines c.args.rule =
    c.each_once.ensures.numbers ∙ sym (row_at uses_row c.args.self.now.lines c.args.rule None refl ∙ use_once (get_or c.args.self.now.lines c.args.rule None)) in
    subst (λ (xs : List ℕ). Some c.in-Some.number.now ≡ slice_get xs c.args.at) are
    (sym (slice_get_read c.each_once.result.now (length c.each_once.result.now) c.args.at c.in-Some.number.now refl
    c.in-Some.ensures.lookup.3.0 c.in-Some.ensures.lookup.1))
