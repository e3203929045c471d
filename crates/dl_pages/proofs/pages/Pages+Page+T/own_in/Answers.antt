use Rattle.std.proofs.Common.{sym, ap, ◌∙◌, arith}
use Rattle.std.proofs.lemmas.Result.{on_err_weaker}
use Rattle.dl_pages.specs.Pages.{PageItems, empty_page}
use Rattle.dl_pages.proofs.PagedLemmas.{owned_within, in_pages, in_page, item_here, owned_here, kept_put, items_put, owned_put}
use Rattle.dl_pages.proofs.pages.Pages+Page+T.own_in.Goals as goal

pub index_mut-section-requires : goal.index_mut-section-requires
index_mut-section-requires g c =
    let within = owned_within c.self.inside.pages.items c.self.inside.len c.self.inside.spare c.args.self.now c.self.invariant c.self.view_is c.args.number c.requires.owned in
    omega (arith, c.self.inside.pages.ok.0, in_pages c.self.inside.pages.items c.self.inside.len c.self.inside.spare c.args.self.now c.self.invariant c.self.view_is c.args.number within)

pub own_in-requires-clause-owned : goal.own_in-requires-clause-owned
own_in-requires-clause-owned g c =
    let within = owned_within c.self.inside.pages.items c.self.inside.len c.self.inside.spare c.args.self.now c.self.invariant c.self.view_is c.args.number c.requires.owned in
    sym (owned_here c.self.inside.pages.items c.self.inside.len c.self.inside.spare c.args.self.now c.self.invariant c.self.view_is c.args.number within
    c.index_mut-section.result.now c.index_mut-section.ensures.value) ∙ c.requires.owned

pub own_in-requires-clause-within : goal.own_in-requires-clause-within
own_in-requires-clause-within g c =
    let within = owned_within c.self.inside.pages.items c.self.inside.len c.self.inside.spare c.args.self.now c.self.invariant c.self.view_is c.args.number c.requires.owned in
    in_page c.self.inside.pages.items c.self.inside.len c.self.inside.spare c.args.self.now c.self.invariant c.self.view_is c.args.number within
    c.index_mut-section.result.now c.index_mut-section.ensures.value

pub invariant_of-self : goal.invariant_of-self
invariant_of-self g c =
    let within = owned_within c.self.inside.pages.items c.self.inside.len c.self.inside.spare c.args.self.now c.self.invariant c.self.view_is c.args.number c.requires.owned in
    let was = sym (owned_here c.self.inside.pages.items c.self.inside.len c.self.inside.spare c.args.self.now c.self.invariant c.self.view_is c.args.number within
    c.index_mut-section.result.now c.index_mut-section.ensures.value) ∙ c.requires.owned in
    kept_put c.self.inside.pages.items c.self.inside.len c.self.inside.spare c.args.self.now c.self.invariant c.self.view_is c.args.number within
    c.index_mut-section.result.now c.index_mut-section.ensures.value c.own_in.new.self c.own_in.ensures.page.0 c.own_in.ensures.page.1 (c.own_in.ensures.owned ∙ sym was)

pub returns-clause-owned : goal.returns-clause-owned
returns-clause-owned g c =
    let within = owned_within c.self.inside.pages.items c.self.inside.len c.self.inside.spare c.args.self.now c.self.invariant c.self.view_is c.args.number c.requires.owned in
    let was = sym (owned_here c.self.inside.pages.items c.self.inside.len c.self.inside.spare c.args.self.now c.self.invariant c.self.view_is c.args.number within
    c.index_mut-section.result.now c.index_mut-section.ensures.value) ∙ c.requires.owned in
    owned_put c.self.inside.pages.items c.self.inside.len c.self.inside.spare c.args.self.now c.self.invariant c.self.view_is c.args.number within
    c.index_mut-section.result.now c.index_mut-section.ensures.value c.own_in.new.self c.own_in.ensures.page.0 c.own_in.ensures.page.1 (c.own_in.ensures.owned ∙ sym was)

pub returns-clause-page : goal.returns-clause-page
returns-clause-page g c =
    let within = owned_within c.self.inside.pages.items c.self.inside.len c.self.inside.spare c.args.self.now c.self.invariant c.self.view_is c.args.number c.requires.owned in
    let here = item_here c.self.inside.pages.items c.self.inside.len c.self.inside.spare c.args.self.now c.self.invariant c.self.view_is c.args.number within
    c.index_mut-section.result.now c.index_mut-section.ensures.value empty_page in
    let was = sym (owned_here c.self.inside.pages.items c.self.inside.len c.self.inside.spare c.args.self.now c.self.invariant c.self.view_is c.args.number within
    c.index_mut-section.result.now c.index_mut-section.ensures.value) ∙ c.requires.owned in (
      c.own_in.ensures.page.0,
      items_put c.self.inside.pages.items c.self.inside.len c.self.inside.spare c.args.self.now c.self.invariant c.self.view_is c.args.number within
          c.index_mut-section.result.now c.index_mut-section.ensures.value c.own_in.new.self c.own_in.ensures.page.0 c.own_in.ensures.page.1 (c.own_in.ensures.owned ∙ sym was),
      c.own_in.ensures.page.2 ∙ ap (λ (p : PageItems _). p.items) here,
      c.own_in.ensures.page.3,
      on_err_weaker c.own_in.result (λ same. same ∙ here) c.own_in.ensures.page.4,
    )
