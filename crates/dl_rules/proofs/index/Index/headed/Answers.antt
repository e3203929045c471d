use Rattle.std.proofs.Common.{◌∷◌, [], None, get_or, refl, sym, ap, ◌∙◌}
use Rattle.dl_rules.specs.Lines.{heads_row}
use Rattle.dl_rules.proofs.PlaceLemmas.{row_at}
use Rattle.dl_rules.proofs.ThereLemmas.{found_none, found_there, head_there}
use Rattle.dl_rules.proofs.index.Index.headed.Goals as goal

pub head-requires : goal.head-requires
head-requires c = found_there (get_or c.args.self.now.lines c.args.rule None) c.in-Some.field-0 (sym c.in-Some.is ∙ c.find.ensures)

pub returns-in-None : goal.returns-in-None
returns-in-None c =
    sym (row_at heads_row c.args.self.now.lines c.args.rule None refl
    ∙ ap heads_row (found_none (get_or c.args.self.now.lines c.args.rule None) (sym c.in-None.is ∙ c.find.ensures)))

pub returns-in-Some : goal.returns-in-Some
returns-in-Some c =
    sym (row_at heads_row c.args.self.now.lines c.args.rule None refl
    ∙ head_there (get_or c.args.self.now.lines c.args.rule None)
    (found_there (get_or c.args.self.now.lines c.args.rule None) c.in-Some.field-0 (sym c.in-Some.is ∙ c.find.ensures))
    ∙ ap (λ h. h ∷ []) (sym c.head.ensures))
