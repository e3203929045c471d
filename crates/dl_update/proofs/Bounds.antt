-- How many literals a cone has, and how many steps there are for them.
use Rattle.std.proofs.Common.{ℕ, ◌<◌, ◌≤◌, ◌+◌, ◌*◌, [], List, length, map, sym, subst, ap, arith, ◌∙◌}
use Rattle.std.specs.Prelude.{All, Contains}
use Rattle.std.proofs.lemmas.List.{length-map}
use Rattle.std.proofs.lemmas.List.Elements.{All-map, All-contains_itself, All-weaker}
use Rattle.dl_base.proofs.Distinct.{no_longer, distinct_map}
use Rattle.dl_lit.specs.declared.literal.Literal.{Literal}
use Rattle.dl_theory.specs.declared.edit.Edit.{Edit}
use Rattle.dl_theory.specs.Lists.{TheoryLists}
use Rattle.dl_theory.specs.Cones.{Cone}
use Rattle.dl_net.specs.Edited.{edit_literals}
use Rattle.dl_graph.specs.Named.{Grows}
use Rattle.dl_graph.specs.Numbers.{NetLists, IsNumbered, literal_at, number}
use Rattle.dl_graph.specs.Region.{Numbers, IsRegion}
use Rattle.dl_base.specs.Paths.{IsDistinct}
use Rattle.dl_cone.specs.Walked.{IsConeOf}
use Rattle.dl_update.specs.Drafts.{IsNew}
use Rattle.dl_update.specs.Bound.{IsOnce, IsWithinNew, IsWithinCone}

-- no step is within each bound
pub no_steps : (names : List Literal) (e : Edit) (before : ℕ) → IsWithinNew names e before before
no_steps names e before fresh once = omega arith

-- eight steps for each of some new literals
pub new_steps : (names : List Literal) (e : Edit) (more : List Literal) (before after : ℕ) → IsDistinct more
    → Grows (IsNew names (edit_literals e)) [] more → after ≤ before + 8 * length more → IsWithinNew names e before after
new_steps names e more before after distinct grown few fresh once =
    let inside : All (Contains fresh) more =
    subst (All (Contains fresh)) (sym grown.is) (All-weaker (IsNew names (edit_literals e)) (Contains fresh) once.complete grown.more grown.only) in
    omega (arith, few, no_longer more fresh distinct inside)

pub within_new : (T : TheoryLists) (names : List Literal) (e : Edit) (before after : ℕ) → IsWithinNew names e before after → IsWithinCone T names e before after
within_new T names e before after few cone fresh all new = omega (arith, few fresh new)

-- the members of the cone's region are as many as its literals
members_few : (N : NetLists) (e : Edit) (region : Numbers) (cone : List Literal) → IsNumbered N → IsRegion region → IsConeOf N e region
    → IsOnce (Cone N.theory e) cone → length region.members ≤ length cone
members_few N e region cone numbered is_region walked once =
    let at : (n : ℕ) → Contains region.members n → (n < length N.names) × Cone N.theory e (literal_at N n) = λ n m. (walked.members n).0 m in
    let distinct : IsDistinct (map (literal_at N) region.members) =
    distinct_map (literal_at N) region.members
    (λ x y m n same. sym (numbered.distinct x (at x m).0) ∙ ap (number N) same ∙ numbered.distinct y (at y n).0)
    is_region.distinct in
    let inside : All (Contains cone) (map (literal_at N) region.members) =
    All-map (Contains cone) (literal_at N) region.members
    (All-weaker (Contains region.members) (λ n. Contains cone (literal_at N n)) (λ n m. once.complete (literal_at N n) (at n m).1)
    region.members (All-contains_itself region.members)) in
    omega (arith, no_longer (map (literal_at N) region.members) cone distinct inside, length-map region.members (literal_at N))

-- sixteen steps for each member come to those of the cone
pub within_cone : (N : NetLists) (e : Edit) (names : List Literal) (region : Numbers) (before middle after : ℕ) → IsNumbered N → IsRegion region
    → IsConeOf N e region → IsWithinNew names e before middle → after ≤ middle + 16 * length region.members → IsWithinCone N.theory names e before after
within_cone N e names region before middle after numbered is_region walked grown filled cone fresh all new =
    omega (arith, filled, grown fresh new, members_few N e region cone numbered is_region walked all)
