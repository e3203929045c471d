use Rattle.std.proofs.Common.{get_or, false, sym, ap, ◌∙◌}
use Rattle.dl_pages.specs.Paged.{PagedItems}
use Rattle.dl_pages.proofs.PageLemmas.{none_owned}
use Rattle.dl_pages.proofs.NestedLemmas.{place_shared, places_shared}
use Rattle.dl_pages.proofs.paged.Paged.copy.Goals as goal

pub share-requires : goal.share-requires
share-requires g c = λ at.
    ap (λ (v : PagedItems _). get_or v.owned at false) (sym c.self.view_is)
    ∙ none_owned c.self.inside.pages.items
    (λ k. place_shared c.self.inside.pages.items c.self.inside.pages.owned k c.self.invariant.nested
    (places_shared c.self.inside.pages.items c.self.inside.pages.owned c.next_owned.result c.self.invariant.nested
    (c.if-next_owned-len.true ∙ c.len.ensures.owned) c.next_owned.ensures.none k)) at
