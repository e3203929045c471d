use Rattle.std.proofs.Common.{◌≡◌, ℕ, List, length, sym, ap, subst, ◌∙◌}
use Rattle.std.specs.Prelude.{slice_get}
use Rattle.dl_rows.specs.Tables.{list_of}
use Rattle.dl_rules.specs.Lines.{IndexLists}
use Rattle.dl_rules.proofs.LinkLemmas.{lower_past}
use Rattle.dl_rules.proofs.NumberLemmas.{numbered_all}
use Rattle.dl_rules.proofs.index.Index.lower_at.Goals as goal

pub returns : goal.returns
returns c =
    subst (λ (v : IndexLists). c.number_at.result ≡ slice_get (list_of v.lowers c.args.rule) c.args.at) c.self.view_is
    (c.number_at.ensures
    ∙ ap (λ (xs : List ℕ). slice_get xs c.args.at)
    (sym (numbered_all (length c.self.inside.lines.items) c.self.inside.lowers (lower_past c.self.invariant.links) c.args.rule)))
