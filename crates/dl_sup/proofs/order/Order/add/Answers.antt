use Rattle.std.proofs.Common.{ℕ, List, [], ◌∷◌, ◌++◌, Option, true≢false, sym, ap, subst, ◌∙◌}
use Rattle.std.specs.Prelude.{MatchOption}
use Rattle.dl_base.specs.Paths.{IsPath}
use Rattle.dl_sup.specs.declared.link.Link.{Link}
use Rattle.dl_sup.specs.Links.{IsOrder, IsOver, link}
use Rattle.dl_sup.specs.Adding.{IsAddable}
use Rattle.dl_sup.specs.Searching.{IsApart, IsWalk}
use Rattle.dl_sup.proofs.Cycles.{walk_path, apart_closes, IsOrder-push}
use Rattle.dl_sup.proofs.order.Order.add.Goals as goal

abbrev Finds : List Link → ℕ → ℕ → Option (List ℕ) → Type 0
Finds pairs from to found = MatchOption found (IsApart pairs from to) (IsWalk pairs from to)

pub returns-in-Some-clause-stopped : goal.returns-in-Some-clause-stopped
returns-in-Some-clause-stopped c =
    let walk = subst (Finds c.self.inside.table c.args.below c.args.above) c.in-Some.is c.in_ok-track.ensures in
    subst (λ (ps : List Link). (¬ IsOver ps c.args.above c.args.below) × IsPath (IsOver ps) c.args.below c.args.above c.in-Some.track) c.self.view_is (
      λ m. true≢false (sym (c.has.ensures.1 m) ∙ c.if-has.false),
      walk_path c.self.inside.table c.self.invariant.acyclic c.args.below c.args.above c.in-Some.track walk,
    )

pub invariant_of-self-in-None : goal.invariant_of-self-in-None
invariant_of-self-in-None c =
    let pair = link c.args.above c.args.below in
    let apart = subst (Finds c.self.inside.table c.args.below c.args.above) c.in-None.is c.in_ok-track.ensures in
    subst (λ (ps : List Link). IsOrder ps) (sym (c.in_ok-put-in-None.ensures.put ∙ ap (λ (ps : List Link). ps ++ pair ∷ []) c.tidy.ensures))
    (IsOrder-push c.self.inside.table pair c.self.invariant (λ m. true≢false (sym (c.has.ensures.1 m) ∙ c.if-has.false)) apart)

pub returns-in_ok-put-in-None-clause-accepted : goal.returns-in_ok-put-in-None-clause-accepted
returns-in_ok-put-in-None-clause-accepted c =
    let pair = link c.args.above c.args.below in
    let apart = subst (Finds c.self.inside.table c.args.below c.args.above) c.in-None.is c.in_ok-track.ensures in
    subst (λ (ps : List Link). IsAddable ps pair) c.self.view_is
    (λ m. true≢false (sym (c.has.ensures.1 m) ∙ c.if-has.false), apart_closes c.self.inside.table pair apart)
