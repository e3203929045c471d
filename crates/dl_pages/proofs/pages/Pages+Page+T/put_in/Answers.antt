use Rattle.std.proofs.Common.{◌%◌, set, get_or, length, sym, ap, ◌∙◌, arith}
use Rattle.dl_pages.specs.Pages.{PageItems, empty_page, page_at, written}
use Rattle.dl_pages.proofs.PagedLemmas.{owned_within, in_pages, in_page, item_here, owned_here, kept_put, items_put, owned_put}
use Rattle.dl_pages.proofs.pages.Pages+Page+T.put_in.Goals as goal

pub index_mut-section-requires : goal.index_mut-section-requires
index_mut-section-requires g c =
    let within = owned_within c.self.inside.pages.items c.self.inside.len c.self.inside.spare c.args.self.now c.self.invariant c.self.view_is c.args.number c.requires.owned in
    omega (arith, c.self.inside.pages.ok.0, in_pages c.self.inside.pages.items c.self.inside.len c.self.inside.spare c.args.self.now c.self.invariant c.self.view_is c.args.number within)

pub put_in-requires-clause-owned : goal.put_in-requires-clause-owned
put_in-requires-clause-owned g c =
    let within = owned_within c.self.inside.pages.items c.self.inside.len c.self.inside.spare c.args.self.now c.self.invariant c.self.view_is c.args.number c.requires.owned in
    sym (owned_here c.self.inside.pages.items c.self.inside.len c.self.inside.spare c.args.self.now c.self.invariant c.self.view_is c.args.number within
    c.index_mut-section.result.now c.index_mut-section.ensures.value) ∙ c.requires.owned

pub put_in-requires-clause-within : goal.put_in-requires-clause-within
put_in-requires-clause-within g c =
    let within = owned_within c.self.inside.pages.items c.self.inside.len c.self.inside.spare c.args.self.now c.self.invariant c.self.view_is c.args.number c.requires.owned in
    in_page c.self.inside.pages.items c.self.inside.len c.self.inside.spare c.args.self.now c.self.invariant c.self.view_is c.args.number within
    c.index_mut-section.result.now c.index_mut-section.ensures.value

pub invariant_of-self : goal.invariant_of-self
invariant_of-self g c =
    let within = owned_within c.self.inside.pages.items c.self.inside.len c.self.inside.spare c.args.self.now c.self.invariant c.self.view_is c.args.number c.requires.owned in
    let was = sym (owned_here c.self.inside.pages.items c.self.inside.len c.self.inside.spare c.args.self.now c.self.invariant c.self.view_is c.args.number within
    c.index_mut-section.result.now c.index_mut-section.ensures.value) ∙ c.requires.owned in
    kept_put c.self.inside.pages.items c.self.inside.len c.self.inside.spare c.args.self.now c.self.invariant c.self.view_is c.args.number within
    c.index_mut-section.result.now c.index_mut-section.ensures.value c.put_in.new.self (written (page_at c.index_mut-section.result.now.items (c.args.number % 64)) c.args.place c.args.value) c.put_in.ensures.items (c.put_in.ensures.owned ∙ sym was)

pub returns-clause-owned : goal.returns-clause-owned
returns-clause-owned g c =
    let within = owned_within c.self.inside.pages.items c.self.inside.len c.self.inside.spare c.args.self.now c.self.invariant c.self.view_is c.args.number c.requires.owned in
    let was = sym (owned_here c.self.inside.pages.items c.self.inside.len c.self.inside.spare c.args.self.now c.self.invariant c.self.view_is c.args.number within
    c.index_mut-section.result.now c.index_mut-section.ensures.value) ∙ c.requires.owned in
    owned_put c.self.inside.pages.items c.self.inside.len c.self.inside.spare c.args.self.now c.self.invariant c.self.view_is c.args.number within
    c.index_mut-section.result.now c.index_mut-section.ensures.value c.put_in.new.self (written (page_at c.index_mut-section.result.now.items (c.args.number % 64)) c.args.place c.args.value) c.put_in.ensures.items (c.put_in.ensures.owned ∙ sym was)

pub put_in-requires-clause-page : goal.put_in-requires-clause-page
put_in-requires-clause-page g c =
    let within = owned_within c.self.inside.pages.items c.self.inside.len c.self.inside.spare c.args.self.now c.self.invariant c.self.view_is c.args.number c.requires.owned in
    let here = item_here c.self.inside.pages.items c.self.inside.len c.self.inside.spare c.args.self.now c.self.invariant c.self.view_is c.args.number within
    c.index_mut-section.result.now c.index_mut-section.ensures.value empty_page in
    ap (λ (p : PageItems _). p.owned) here ∙ c.requires.page

pub put_in-requires-clause-place : goal.put_in-requires-clause-place
put_in-requires-clause-place g c =
    let within = owned_within c.self.inside.pages.items c.self.inside.len c.self.inside.spare c.args.self.now c.self.invariant c.self.view_is c.args.number c.requires.owned in
    let here = item_here c.self.inside.pages.items c.self.inside.len c.self.inside.spare c.args.self.now c.self.invariant c.self.view_is c.args.number within
    c.index_mut-section.result.now c.index_mut-section.ensures.value empty_page in
    omega (arith, c.requires.place, ap (λ (p : PageItems _). length p.items) here)

pub returns-clause-value : goal.returns-clause-value
returns-clause-value g c =
    let within = owned_within c.self.inside.pages.items c.self.inside.len c.self.inside.spare c.args.self.now c.self.invariant c.self.view_is c.args.number c.requires.owned in
    let here = item_here c.self.inside.pages.items c.self.inside.len c.self.inside.spare c.args.self.now c.self.invariant c.self.view_is c.args.number within
    c.index_mut-section.result.now c.index_mut-section.ensures.value empty_page in
    c.put_in.ensures.value ∙ ap (λ (p : PageItems _). get_or p.items c.args.place c.put_in.result) here

pub returns-clause-items : goal.returns-clause-items
returns-clause-items g c =
    let within = owned_within c.self.inside.pages.items c.self.inside.len c.self.inside.spare c.args.self.now c.self.invariant c.self.view_is c.args.number c.requires.owned in
    let here = item_here c.self.inside.pages.items c.self.inside.len c.self.inside.spare c.args.self.now c.self.invariant c.self.view_is c.args.number within
    c.index_mut-section.result.now c.index_mut-section.ensures.value empty_page in
    let was = sym (owned_here c.self.inside.pages.items c.self.inside.len c.self.inside.spare c.args.self.now c.self.invariant c.self.view_is c.args.number within
    c.index_mut-section.result.now c.index_mut-section.ensures.value) ∙ c.requires.owned in
    items_put c.self.inside.pages.items c.self.inside.len c.self.inside.spare c.args.self.now c.self.invariant c.self.view_is c.args.number within
    c.index_mut-section.result.now c.index_mut-section.ensures.value c.put_in.new.self (written (page_at c.index_mut-section.result.now.items (c.args.number % 64)) c.args.place c.args.value) c.put_in.ensures.items (c.put_in.ensures.owned ∙ sym was)
    ∙ ap (λ p. set c.args.self.now.items c.args.number (written p c.args.place c.args.value)) here
