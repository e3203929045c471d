use Rattle.std.proofs.Common.{◌≡◌, ◌+◌, ◌-◌, ◌/◌, true, get_or, refl, subst, ap, ◌∙◌, arith}
use Rattle.std.proofs.lemmas.Result.{err_from_is_err_and}
use Rattle.dl_pages.specs.Pages.{owned_of, flags}
use Rattle.dl_pages.proofs.PageLemmas.{length_same}
use Rattle.dl_pages.proofs.PagedLemmas.{owned_appended, items_grown, owned_grown, kept_grown, kept_wider}
use Rattle.dl_pages.proofs.pages.Pages.widen.Goals as goal

pub invariant_of-self : goal.invariant_of-self
invariant_of-self g c =
    kept_grown c.self.inside.pages.items c.self.inside.len c.self.inside.spare c.args.self.now c.self.invariant c.self.view_is
    c.append_pages.new.pages.items c.append_pages.ensures.appended.0 c.append_pages.ensures.appended.1 c.append_pages.new.pages.items
    (record { items = refl; owned = λ k h. h })

pub returns-in_err-append_pages-clause-items : goal.returns-in_err-append_pages-clause-items
returns-in_err-append_pages-clause-items g c =
    items_grown c.self.inside.pages.items c.self.inside.len c.self.inside.spare c.args.self.now c.self.invariant c.self.view_is
    c.append_pages.new.pages.items c.append_pages.ensures.appended.0 c.append_pages.ensures.appended.1 c.append_pages.new.pages.items
    (record { items = refl; owned = λ k h. h })

pub returns-in_err-append_pages-clause-same_owned : goal.returns-in_err-append_pages-clause-same_owned
returns-in_err-append_pages-clause-same_owned g c =
    let p = err_from_is_err_and c.from_residual.result c.from_residual.ensures.1 in
    rw p.1
    (owned_appended c.self.inside.pages.items c.self.inside.len c.self.inside.spare c.args.self.now c.self.invariant c.self.view_is
    c.append_pages.new.pages.items c.append_pages.ensures.appended.0 c.append_pages.ensures.appended.1)

pub invariant_of-self-in_err-own_page : goal.invariant_of-self-in_err-own_page
invariant_of-self-in_err-own_page g c =
    kept_grown c.self.inside.pages.items c.self.inside.len c.self.inside.spare c.args.self.now c.self.invariant c.self.view_is
    c.append_pages.new.pages.items c.append_pages.ensures.appended.0 c.append_pages.ensures.appended.1 c.own_page.new.pages.items c.own_page.ensures.kept

pub returns-in_err-own_page-clause-items : goal.returns-in_err-own_page-clause-items
returns-in_err-own_page-clause-items g c =
    items_grown c.self.inside.pages.items c.self.inside.len c.self.inside.spare c.args.self.now c.self.invariant c.self.view_is
    c.append_pages.new.pages.items c.append_pages.ensures.appended.0 c.append_pages.ensures.appended.1 c.own_page.new.pages.items c.own_page.ensures.kept

pub returns-in_err-own_page-clause-same_owned : goal.returns-in_err-own_page-clause-same_owned
returns-in_err-own_page-clause-same_owned g c =
    let p = err_from_is_err_and c.from_residual-in_err-own_page.result c.from_residual-in_err-own_page.ensures.1 in
    rw p.1
    (ap owned_of c.in_err-own_page.ensures.same
    ∙ owned_appended c.self.inside.pages.items c.self.inside.len c.self.inside.spare c.args.self.now c.self.invariant c.self.view_is
    c.append_pages.new.pages.items c.append_pages.ensures.appended.0 c.append_pages.ensures.appended.1)

pub invariant_of-self-2 : goal.invariant_of-self-2
invariant_of-self-2 g c =
    let number = c.self.inside.len / 64 in
    let wider = length_same c.append_pages.new.pages.items c.own_page.new.pages.items c.own_page.ensures.kept.items in
    let there = c.in_ok-append_pages.ensures.enough in
    kept_wider c.self.inside.pages.items c.self.inside.len c.self.inside.spare c.args.self.now c.self.invariant c.self.view_is
    c.append_pages.new.pages.items c.append_pages.ensures.appended.0 c.append_pages.ensures.appended.1 c.own_page.new.pages.items c.own_page.ensures.kept
    number (number + 1) (c.in-Some.room - c.self.inside.len) (omega arith)
    (λ k le lt. let same : number ≡ k = omega (arith, le, lt) in
    subst (λ i. get_or (flags c.own_page.new.pages.items) i true ≡ true) same c.in_ok-own_page.ensures.owned)
    (omega (arith, c.in-Some.ensures))
    (omega (arith, c.in-Some.ensures))
    (omega (arith, wider, there))

pub returns-clause-items : goal.returns-clause-items
returns-clause-items g c =
    items_grown c.self.inside.pages.items c.self.inside.len c.self.inside.spare c.args.self.now c.self.invariant c.self.view_is
    c.append_pages.new.pages.items c.append_pages.ensures.appended.0 c.append_pages.ensures.appended.1 c.own_page.new.pages.items c.own_page.ensures.kept

pub returns-clause-owned : goal.returns-clause-owned
returns-clause-owned g c =
    owned_grown c.self.inside.pages.items c.self.inside.len c.self.inside.spare c.args.self.now c.self.invariant c.self.view_is
    c.append_pages.new.pages.items c.append_pages.ensures.appended.0 c.append_pages.ensures.appended.1 c.own_page.new.pages.items c.own_page.ensures.kept
    (c.in-Some.room - c.self.inside.len)
