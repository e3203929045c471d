use Rattle.std.proofs.Common.{List, sym, ap, ◌∙◌}
use Rattle.std.specs.Prelude.{filter, not}
use Rattle.dl_sup.specs.declared.link.Link.{Link}
use Rattle.dl_sup.specs.declared.slot.Way.TheVariants.{Down}
use Rattle.dl_sup.specs.Links.{names_item}
use Rattle.dl_sup.proofs.Slots.{near_same, none_names}
use Rattle.dl_sup.proofs.table.Table.drop_item.Goals as goal

pub returns : goal.returns
returns c =
    let first = c.drop_chain-below.new.slots.items in
    let last = c.drop_chain-over.new.slots.items in
    sym (none_names last c.args.item
    (λ t a e. c.drop_chain-below.ensures.gone t (c.drop_chain-over.ensures.keeps.alive t a) (sym (near_same Down first last t c.drop_chain-over.ensures.keeps) ∙ e))
    c.drop_chain-over.ensures.gone)
    ∙ c.drop_chain-over.ensures.rest
    ∙ c.drop_chain-below.ensures.rest
    ∙ ap (λ (ps : List Link). filter (λ p. not (names_item c.args.item p)) ps) c.self.view_is
