use Rattle.std.proofs.Common.{◌≡◌, length, sym, ap, subst, ◌∙◌}
use Rattle.dl_rows.specs.Tables.{list_of}
use Rattle.dl_rules.specs.Lines.{IndexLists}
use Rattle.dl_rules.proofs.LinkLemmas.{lower_past}
use Rattle.dl_rules.proofs.NumberLemmas.{numbered_all}
use Rattle.dl_rules.proofs.index.Index.lower_len.Goals as goal

pub returns : goal.returns
returns c =
    subst (λ (v : IndexLists). c.count.result ≡ length (list_of v.lowers c.args.rule)) c.self.view_is
    (c.count.ensures
    ∙ ap length (sym (numbered_all (length c.self.inside.lines.items) c.self.inside.lowers (lower_past c.self.invariant.links) c.args.rule)))
