use Rattle.std.proofs.Common.{◌/◌, set, length, arith}
use Rattle.dl_pages.specs.Pages.{owned_of}
use Rattle.dl_pages.proofs.TableLemmas.{owned_behind}
use Rattle.dl_pages.proofs.PagedLemmas.{length_is, owned_is, last_owned, last_room, kept_push, items_push, owned_push}
use Rattle.dl_pages.proofs.pages.Pages.push.Goals as goal

pub push-requires-clause-owned : goal.push-requires-clause-owned
push-requires-clause-owned g c =
    last_owned c.self.inside.pages.items c.self.inside.len c.self.inside.spare c.args.self.now c.self.invariant c.self.view_is
    c.requires c.index_mut-page.result.now c.index_mut-page.ensures.value

pub push-requires-clause-room : goal.push-requires-clause-room
push-requires-clause-room g c =
    last_room c.self.inside.pages.items c.self.inside.len c.self.inside.spare c.args.self.now c.self.invariant c.self.view_is
    c.requires c.index_mut-page.result.now c.index_mut-page.ensures.value

pub invariant_of-self : goal.invariant_of-self
invariant_of-self g c =
    kept_push c.self.inside.pages.items c.self.inside.len c.self.inside.spare c.args.self.now c.self.invariant c.self.view_is
    c.requires c.index_mut-page.result.now c.index_mut-page.ensures.value c.push.new.self c.args.value c.push.ensures.items c.push.ensures.owned

pub returns-clause-items : goal.returns-clause-items
returns-clause-items g c =
    items_push c.self.inside.pages.items c.self.inside.len c.self.inside.spare c.args.self.now c.self.invariant c.self.view_is
    c.requires c.index_mut-page.result.now c.index_mut-page.ensures.value c.push.new.self c.args.value c.push.ensures.items c.push.ensures.owned

pub returns-clause-owned : goal.returns-clause-owned
returns-clause-owned g c =
    owned_push c.self.inside.pages.items c.self.inside.len c.self.inside.spare c.args.self.now c.self.invariant c.self.view_is
    c.requires c.index_mut-page.result.now c.index_mut-page.ensures.value c.push.new.self c.args.value c.push.ensures.items c.push.ensures.owned

pub returns-clause-here : goal.returns-clause-here
returns-clause-here g c =
    let same = length_is c.self.inside.pages.items c.self.inside.len c.self.inside.spare c.args.self.now c.self.invariant c.self.view_is in
    let all = owned_is c.self.inside.pages.items c.self.inside.len c.self.inside.spare c.args.self.now c.self.invariant c.self.view_is in
    owned_behind c.args.self.now.owned (owned_of (set c.self.inside.pages.items (c.self.inside.len / 64) c.push.new.self)) 1
    (owned_push c.self.inside.pages.items c.self.inside.len c.self.inside.spare c.args.self.now c.self.invariant c.self.view_is
    c.requires c.index_mut-page.result.now c.index_mut-page.ensures.value c.push.new.self c.args.value c.push.ensures.items c.push.ensures.owned)
    (length c.args.self.now.items) (omega (arith, same, all)) (omega (arith, same, all))
