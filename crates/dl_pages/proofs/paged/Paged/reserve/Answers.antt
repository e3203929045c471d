use Rattle.std.proofs.Common.{◌-◌, ◌/◌, refl, ◌∙◌, arith}
use Rattle.std.proofs.lemmas.Result.{err_from_is_err_and}
use Rattle.dl_pages.proofs.PageLemmas.{length_same, owned_first}
use Rattle.dl_pages.proofs.PagedLemmas.{owned_appended, filled_more, items_grown, owned_grown, kept_grown, kept_wider}
use Rattle.dl_pages.proofs.paged.Paged.reserve.Goals as goal

pub invariant_of-self : goal.invariant_of-self
invariant_of-self g c = record {
  kept =
      kept_grown c.self.inside.pages.items c.self.inside.len c.self.inside.spare c.args.self.now c.self.invariant.kept c.self.view_is
      c.append_pages.new.pages.items c.append_pages.ensures.appended.0 c.append_pages.ensures.appended.1 c.append_pages.new.pages.items
      (record { items = refl; owned = λ k h. h });
  nested = c.append_pages.ensures.nested;
}

pub returns-in_err-append_pages-clause-items : goal.returns-in_err-append_pages-clause-items
returns-in_err-append_pages-clause-items g c =
    items_grown c.self.inside.pages.items c.self.inside.len c.self.inside.spare c.args.self.now c.self.invariant.kept c.self.view_is
    c.append_pages.new.pages.items c.append_pages.ensures.appended.0 c.append_pages.ensures.appended.1 c.append_pages.new.pages.items
    (record { items = refl; owned = λ k h. h })

pub returns-in_err-append_pages-clause-same_owned : goal.returns-in_err-append_pages-clause-same_owned
returns-in_err-append_pages-clause-same_owned g c =
    let p = err_from_is_err_and c.from_residual.result c.from_residual.ensures.1 in
    rw p.1
    (owned_appended c.self.inside.pages.items c.self.inside.len c.self.inside.spare c.args.self.now c.self.invariant.kept c.self.view_is
    c.append_pages.new.pages.items c.append_pages.ensures.appended.0 c.append_pages.ensures.appended.1)

pub invariant_of-self-in_err-own_pages : goal.invariant_of-self-in_err-own_pages
invariant_of-self-in_err-own_pages g c = record {
  kept =
      kept_grown c.self.inside.pages.items c.self.inside.len c.self.inside.spare c.args.self.now c.self.invariant.kept c.self.view_is
      c.append_pages.new.pages.items c.append_pages.ensures.appended.0 c.append_pages.ensures.appended.1 c.own_pages.new.pages.items c.own_pages.ensures.kept;
  nested = c.own_pages.ensures.nested;
}

pub returns-in_err-own_pages-clause-items : goal.returns-in_err-own_pages-clause-items
returns-in_err-own_pages-clause-items g c =
    items_grown c.self.inside.pages.items c.self.inside.len c.self.inside.spare c.args.self.now c.self.invariant.kept c.self.view_is
    c.append_pages.new.pages.items c.append_pages.ensures.appended.0 c.append_pages.ensures.appended.1 c.own_pages.new.pages.items c.own_pages.ensures.kept

pub returns-in_err-own_pages-clause-owned : goal.returns-in_err-own_pages-clause-owned
returns-in_err-own_pages-clause-owned g c =
    owned_grown c.self.inside.pages.items c.self.inside.len c.self.inside.spare c.args.self.now c.self.invariant.kept c.self.view_is
    c.append_pages.new.pages.items c.append_pages.ensures.appended.0 c.append_pages.ensures.appended.1 c.own_pages.new.pages.items c.own_pages.ensures.kept c.self.inside.spare

pub returns-in_err-own_pages-clause-same_owned : goal.returns-in_err-own_pages-clause-same_owned
returns-in_err-own_pages-clause-same_owned g c =
    let p = err_from_is_err_and c.from_residual-in_err-own_pages.result c.from_residual-in_err-own_pages.ensures.1 in
    rw p.1
    (owned_first c.append_pages.new.pages.items c.own_pages.new.pages.items c.self.inside.len (c.self.inside.len / 64)
    (filled_more c.self.inside.pages.items c.self.inside.len c.self.inside.spare c.args.self.now c.self.invariant.kept c.self.view_is
    c.append_pages.new.pages.items c.append_pages.ensures.appended.0 c.append_pages.ensures.appended.1) (omega arith) c.own_pages.ensures.kept.items c.in_err-own_pages.ensures.same
    ∙ owned_appended c.self.inside.pages.items c.self.inside.len c.self.inside.spare c.args.self.now c.self.invariant.kept c.self.view_is
    c.append_pages.new.pages.items c.append_pages.ensures.appended.0 c.append_pages.ensures.appended.1)

pub invariant_of-self-2 : goal.invariant_of-self-2
invariant_of-self-2 g c =
    let wider = length_same c.append_pages.new.pages.items c.own_pages.new.pages.items c.own_pages.ensures.kept.items in
    let all = c.saturating_mul.result in
    record {
      kept =
          kept_wider c.self.inside.pages.items c.self.inside.len c.self.inside.spare c.args.self.now c.self.invariant.kept c.self.view_is
          c.append_pages.new.pages.items c.append_pages.ensures.appended.0 c.append_pages.ensures.appended.1 c.own_pages.new.pages.items c.own_pages.ensures.kept
          (c.self.inside.len / 64) c.div_ceil-wanted.result (all - c.self.inside.len) (omega arith) c.in_ok-own_pages.ensures.owned
          (omega (arith, c.saturating_mul.ensures, c.div_ceil-wanted.ensures, c.self.invariant.kept.small))
          (omega (arith, c.saturating_mul.ensures, c.div_ceil-wanted.ensures, c.self.invariant.kept.small))
          (omega (arith, wider, c.in_ok-append_pages.ensures.enough));
      nested = c.own_pages.ensures.nested;
    }

pub returns-clause-items : goal.returns-clause-items
returns-clause-items g c =
    items_grown c.self.inside.pages.items c.self.inside.len c.self.inside.spare c.args.self.now c.self.invariant.kept c.self.view_is
    c.append_pages.new.pages.items c.append_pages.ensures.appended.0 c.append_pages.ensures.appended.1 c.own_pages.new.pages.items c.own_pages.ensures.kept

pub returns-clause-owned : goal.returns-clause-owned
returns-clause-owned g c =
    owned_grown c.self.inside.pages.items c.self.inside.len c.self.inside.spare c.args.self.now c.self.invariant.kept c.self.view_is
    c.append_pages.new.pages.items c.append_pages.ensures.appended.0 c.append_pages.ensures.appended.1 c.own_pages.new.pages.items c.own_pages.ensures.kept (c.saturating_mul.result - c.self.inside.len)
