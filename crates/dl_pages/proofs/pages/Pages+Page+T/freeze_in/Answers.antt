use Rattle.std.proofs.Common.{sym, ap, ◌∙◌, arith}
use Rattle.dl_pages.specs.Pages.{PageItems, empty_page}
use Rattle.dl_pages.proofs.PagedLemmas.{owned_within, in_pages, in_page, item_here, owned_here, kept_put, items_put, owned_put}
use Rattle.dl_pages.proofs.pages.Pages+Page+T.freeze_in.Goals as goal

pub index_mut-section-requires : goal.index_mut-section-requires
index_mut-section-requires g c =
    let within = owned_within c.self.inside.pages.items c.self.inside.len c.self.inside.spare c.args.self.now c.self.invariant c.self.view_is c.args.number c.requires in
    omega (arith, c.self.inside.pages.ok.0, in_pages c.self.inside.pages.items c.self.inside.len c.self.inside.spare c.args.self.now c.self.invariant c.self.view_is c.args.number within)

pub freeze_in-requires-clause-owned : goal.freeze_in-requires-clause-owned
freeze_in-requires-clause-owned g c =
    let within = owned_within c.self.inside.pages.items c.self.inside.len c.self.inside.spare c.args.self.now c.self.invariant c.self.view_is c.args.number c.requires in
    sym (owned_here c.self.inside.pages.items c.self.inside.len c.self.inside.spare c.args.self.now c.self.invariant c.self.view_is c.args.number within
    c.index_mut-section.result.now c.index_mut-section.ensures.value) ∙ c.requires

pub freeze_in-requires-clause-within : goal.freeze_in-requires-clause-within
freeze_in-requires-clause-within g c =
    let within = owned_within c.self.inside.pages.items c.self.inside.len c.self.inside.spare c.args.self.now c.self.invariant c.self.view_is c.args.number c.requires in
    in_page c.self.inside.pages.items c.self.inside.len c.self.inside.spare c.args.self.now c.self.invariant c.self.view_is c.args.number within
    c.index_mut-section.result.now c.index_mut-section.ensures.value

pub invariant_of-self : goal.invariant_of-self
invariant_of-self g c =
    let within = owned_within c.self.inside.pages.items c.self.inside.len c.self.inside.spare c.args.self.now c.self.invariant c.self.view_is c.args.number c.requires in
    let was = sym (owned_here c.self.inside.pages.items c.self.inside.len c.self.inside.spare c.args.self.now c.self.invariant c.self.view_is c.args.number within
    c.index_mut-section.result.now c.index_mut-section.ensures.value) ∙ c.requires in
    kept_put c.self.inside.pages.items c.self.inside.len c.self.inside.spare c.args.self.now c.self.invariant c.self.view_is c.args.number within
    c.index_mut-section.result.now c.index_mut-section.ensures.value c.freeze_in.new.self c.freeze_in.ensures.page.0 c.freeze_in.ensures.page.1 (c.freeze_in.ensures.owned ∙ sym was)

pub returns-clause-owned : goal.returns-clause-owned
returns-clause-owned g c =
    let within = owned_within c.self.inside.pages.items c.self.inside.len c.self.inside.spare c.args.self.now c.self.invariant c.self.view_is c.args.number c.requires in
    let was = sym (owned_here c.self.inside.pages.items c.self.inside.len c.self.inside.spare c.args.self.now c.self.invariant c.self.view_is c.args.number within
    c.index_mut-section.result.now c.index_mut-section.ensures.value) ∙ c.requires in
    owned_put c.self.inside.pages.items c.self.inside.len c.self.inside.spare c.args.self.now c.self.invariant c.self.view_is c.args.number within
    c.index_mut-section.result.now c.index_mut-section.ensures.value c.freeze_in.new.self c.freeze_in.ensures.page.0 c.freeze_in.ensures.page.1 (c.freeze_in.ensures.owned ∙ sym was)

pub returns-clause-page : goal.returns-clause-page
returns-clause-page g c =
    let within = owned_within c.self.inside.pages.items c.self.inside.len c.self.inside.spare c.args.self.now c.self.invariant c.self.view_is c.args.number c.requires in
    let here = item_here c.self.inside.pages.items c.self.inside.len c.self.inside.spare c.args.self.now c.self.invariant c.self.view_is c.args.number within
    c.index_mut-section.result.now c.index_mut-section.ensures.value empty_page in
    let was = sym (owned_here c.self.inside.pages.items c.self.inside.len c.self.inside.spare c.args.self.now c.self.invariant c.self.view_is c.args.number within
    c.index_mut-section.result.now c.index_mut-section.ensures.value) ∙ c.requires in (
      c.freeze_in.ensures.page.0,
      items_put c.self.inside.pages.items c.self.inside.len c.self.inside.spare c.args.self.now c.self.invariant c.self.view_is c.args.number within
          c.index_mut-section.result.now c.index_mut-section.ensures.value c.freeze_in.new.self c.freeze_in.ensures.page.0 c.freeze_in.ensures.page.1 (c.freeze_in.ensures.owned ∙ sym was),
      c.freeze_in.ensures.page.2 ∙ ap (λ (p : PageItems _). p.items) here,
      λ h. ap (λ (p : PageItems _). p.owned) (sym here) ∙ c.freeze_in.ensures.page.3 h,
      c.freeze_in.ensures.page.4,
    )
