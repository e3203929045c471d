use Rattle.std.proofs.Common.{ap, arith}
use Rattle.dl_pages.specs.Pages.{parts}
use Rattle.dl_pages.proofs.PageLemmas.{none_owned}
use Rattle.dl_pages.proofs.PagedLemmas.{used_within, items_frozen, kept_frozen, owned_shared}
use Rattle.dl_pages.proofs.NestedLemmas.{used_shared, shared_nested}
use Rattle.dl_pages.proofs.paged.Paged.share.Goals as goal

pub share_pages-requires-clause-shared : goal.share_pages-requires-clause-shared
share_pages-requires-clause-shared g c =
    used_shared c.self.inside.pages.items c.self.inside.pages.owned c.self.inside.len c.self.inside.spare c.args.self.now c.self.invariant c.self.view_is c.requires c.div_ceil.result (omega (arith, c.div_ceil.ensures)) (omega (arith, c.div_ceil.ensures))

pub share_pages-requires-clause-within : goal.share_pages-requires-clause-within
share_pages-requires-clause-within g c =
    used_within c.self.inside.pages.items c.self.inside.len c.self.inside.spare c.args.self.now c.self.invariant.kept c.self.view_is c.div_ceil.result (omega (arith, c.div_ceil.ensures)) (omega (arith, c.div_ceil.ensures))

pub invariant_of-result : goal.invariant_of-result
invariant_of-result g c =
    let n = c.in_ok-pages.ensures.items.0 in
    record {
      kept =
          kept_frozen c.self.inside.pages.items c.self.inside.len c.self.inside.spare c.args.self.now c.self.invariant.kept c.self.view_is n
          (omega (arith, c.div_ceil.ensures, c.in_ok-pages.ensures.items.1)) c.in_ok-pages.pages.items (ap parts c.in_ok-pages.ensures.items.2);
      nested = shared_nested c.in_ok-pages.pages.items c.in_ok-pages.pages.owned c.in_ok-pages.ensures.shared;
    }

pub returns-clause-items : goal.returns-clause-items
returns-clause-items g c =
    items_frozen c.self.inside.pages.items c.self.inside.len c.self.inside.spare c.args.self.now c.self.invariant.kept c.self.view_is c.in_ok-pages.ensures.items.0
    (omega (arith, c.div_ceil.ensures, c.in_ok-pages.ensures.items.1)) c.in_ok-pages.pages.items (ap parts c.in_ok-pages.ensures.items.2)

pub returns-clause-owned : goal.returns-clause-owned
returns-clause-owned g c =
    owned_shared c.self.inside.pages.items c.self.inside.len c.self.inside.spare c.args.self.now c.self.invariant.kept c.self.view_is c.in_ok-pages.ensures.items.0
    (omega (arith, c.div_ceil.ensures, c.in_ok-pages.ensures.items.1)) c.in_ok-pages.pages.items c.in_ok-pages.ensures.items.2

pub returns-clause-shared : goal.returns-clause-shared
returns-clause-shared g c = none_owned c.in_ok-pages.pages.items c.in_ok-pages.ensures.shared
