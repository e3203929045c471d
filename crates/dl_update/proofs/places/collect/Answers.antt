use Rattle.std.proofs.Common.{[], ◌∷◌, List, sym, ◌∙◌}
use Rattle.std.specs.Prelude.{Contains}
use Rattle.dl_lit.specs.declared.literal.Literal.{Literal}
use Rattle.dl_lit.specs.Names.{with_both}
use Rattle.dl_graph.specs.Named.{IsPaired, IsNear, Grows}
use Rattle.dl_names.proofs.NameLemmas.{both_grows, paired_closed, Grows-none, Grows-weaker, by_result, found_at}
use Rattle.dl_update.specs.Drafts.{IsNew}
use Rattle.dl_update.proofs.News.{both_paired, near_there, near_new, on_ok}
use Rattle.dl_update.proofs.places.collect.Goals as goal

pub returns-in-Some-clause-there : goal.returns-in-Some-clause-there
returns-in-Some-clause-there c = λ q h.
    let known : List Literal = c.args.net.now.names in
    let l : Literal = c.args.literal.now in
    let at = found_at known l c.in-Some.field-0 (sym c.find.ensures.number ∙ c.in-Some.is) in
    absurd (h.1 (near_there known c.names-names.ensures.numbered.complements l q (c.in-Some.field-0, at.0, at.1 l) h.0))

pub returns-in-None-clause-paired : goal.returns-in-None-clause-paired
returns-in-None-clause-paired c =
    by_result c.intern_both.result IsPaired c.args.names.now.literals c.intern_both.new.self.literals (with_both c.args.names.now.literals c.args.literal.now)
    c.intern_both.ensures.named c.intern_both.ensures.kept (both_paired c.args.names.now.literals c.args.literal.now c.requires) c.requires

pub returns-in-None-clause-grown : goal.returns-in-None-clause-grown
returns-in-None-clause-grown c =
    let known : List Literal = c.args.net.now.names in
    let old : List Literal = c.args.names.now.literals in
    let l : Literal = c.args.literal.now in
    by_result c.intern_both.result (Grows (IsNew known (l ∷ [])) old) old c.intern_both.new.self.literals (with_both old l)
    c.intern_both.ensures.named c.intern_both.ensures.kept
    (Grows-weaker (IsNear (l ∷ [])) (IsNew known (l ∷ [])) old (with_both old l)
    (λ q near. near_new known c.names-names.ensures.numbered.complements l c.in-None.ensures.absent q near) (both_grows old l c.requires))
    (Grows-none (IsNew known (l ∷ [])) old)

pub returns-in-None-clause-there : goal.returns-in-None-clause-there
returns-in-None-clause-there c =
    let known : List Literal = c.args.net.now.names in
    let old : List Literal = c.args.names.now.literals in
    let new : List Literal = c.intern_both.new.self.literals in
    let l : Literal = c.args.literal.now in
    let paired : IsPaired new =
    by_result c.intern_both.result IsPaired old new (with_both old l) c.intern_both.ensures.named c.intern_both.ensures.kept
    (both_paired old l c.requires) c.requires in
    on_ok c.intern_both.result (Contains new l) ((q : Literal) → IsNew known (l ∷ []) q → Contains new q)
    (λ there q h. near_there new (paired_closed new paired) l q there h.0) c.intern_both.ensures.there
