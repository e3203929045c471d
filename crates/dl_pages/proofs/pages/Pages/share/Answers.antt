use Rattle.std.proofs.Common.{◌≡◌, Bool, false, List, get_or, take, ap, ◌∙◌, arith}
use Rattle.dl_pages.specs.Pages.{parts}
use Rattle.dl_pages.proofs.PagedLemmas.{items_frozen, kept_frozen, shared_here, owned_shared}
use Rattle.dl_pages.proofs.pages.Pages.share.Goals as goal

pub share-requires : goal.share-requires
share-requires g c =
    shared_here c.self.inside.pages.items c.self.inside.len c.self.inside.spare c.args.self.now c.self.invariant c.self.view_is c.div_ceil-used.result (omega (arith, c.div_ceil-used.ensures)) (omega (arith, c.div_ceil-used.ensures))
    c.requires c.loop-number.number c.index-page.result.now (omega arith) c.index-page.ensures

pub invariant_of-result : goal.invariant_of-result
invariant_of-result g c =
    let all : c.loop-number.number ≡ c.div_ceil-used.result = omega arith in
    let same = c.loop-number.invariant ∙ ap (λ n. take n c.self.inside.pages.items) all in
    kept_frozen c.self.inside.pages.items c.self.inside.len c.self.inside.spare c.args.self.now c.self.invariant c.self.view_is c.div_ceil-used.result (omega (arith, c.div_ceil-used.ensures))
    c.loop-number.pages.items (ap parts same)

pub returns-clause-items : goal.returns-clause-items
returns-clause-items g c =
    let all : c.loop-number.number ≡ c.div_ceil-used.result = omega arith in
    let same = c.loop-number.invariant ∙ ap (λ n. take n c.self.inside.pages.items) all in
    items_frozen c.self.inside.pages.items c.self.inside.len c.self.inside.spare c.args.self.now c.self.invariant c.self.view_is c.div_ceil-used.result (omega (arith, c.div_ceil-used.ensures))
    c.loop-number.pages.items (ap parts same)

pub returns-clause-shared : goal.returns-clause-shared
returns-clause-shared g c =
    let all : c.loop-number.number ≡ c.div_ceil-used.result = omega arith in
    let same = c.loop-number.invariant ∙ ap (λ n. take n c.self.inside.pages.items) all in
    λ at.
    ap (λ (bs : List Bool). get_or bs at false)
    (owned_shared c.self.inside.pages.items c.self.inside.len c.self.inside.spare c.args.self.now c.self.invariant c.self.view_is c.div_ceil-used.result (omega (arith, c.div_ceil-used.ensures))
    c.loop-number.pages.items same)
    ∙ c.requires at
