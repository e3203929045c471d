use Rattle.std.proofs.Common.{◌<◌, ◌/◌, ◌%◌, ℕ, Bool, List, length, sym, subst, ap, refl, arith, ◌∙◌}
use Rattle.std.proofs.lemmas.List.Elements.{All-contains}
use Rattle.dl_base.proofs.Members.{only}
use Rattle.dl_lit.specs.declared.literal.Family.TheVariants.{Definite}
use Rattle.dl_marks.specs.Marks.{marked}
use Rattle.dl_graph.specs.Counting.{times}
use Rattle.dl_fill.specs.Before.{before_of, IsExact}
use Rattle.dl_fill.specs.Reads.{basis_at}
use Rattle.dl_fill.proofs.Written.{exact_of_right, times_contains}
use Rattle.dl_definite.specs.Definite.{definite_gate, definite_table}
use Rattle.dl_definite.proofs.Definite.{definite_sound}
use Rattle.dl_derive.specs.Wanted.{IsWanted, IsAtHand}
use Rattle.dl_derive.proofs.Running.{run_solved}
use Rattle.dl_derive.proofs.Wanting.{with_more}
use Rattle.dl_derive.proofs.sure.sure_way.Goals as goal

pub read_by-requires-clause-size : goal.read_by-requires-clause-size
read_by-requires-clause-size c = omega (arith, c.in_ok-parts.ensures.names, c.in_ok-parts.ensures.size, c.size-size.ensures.size)

pub rest-requires-clause-wanted : goal.rest-requires-clause-wanted
rest-requires-clause-wanted c = ap length c.deref.ensures.value ∙ c.in_ok-wanted.ensures.len ∙ c.size-size.ensures.size

pub returns : goal.returns
returns c =
    let exact : IsExact c.args.net.now (before_of c.args.marks.now c.args.region.now) Definite =
    exact_of_right c.args.net.now c.args.marks.now c.args.region.now Definite c.requires.room c.requires.right in
    let solved =
    run_solved definite_table definite_gate definite_sound c.args.net.now c.args.marks.now c.args.region.now c.in_ok-parts.parts.rules c.in_ok-parts.parts.counters
    c.in_ok-parts.ensures c.names-names.ensures.numbered
    (λ n h. omega (arith, All-contains (λ k. k < c.args.region.now.bound) c.args.region.now.members n c.len-len.ensures.region.below (times_contains n c.args.region.now.members h), c.requires.bound))
    Definite refl (λ h n. subst (IsExact c.args.net.now (before_of c.args.marks.now c.args.region.now)) (sym (only Definite h n)) exact) in
    record {
      ordered = c.in_ok-kept.ensures.ordered;
      has = λ y h inside.
          with_more c.args.net.now (marked c.args.marks.now) (IsWanted c.in_ok-wanted.wanted.items)
          (IsAtHand c.args.net.now c.args.region.now.members c.in_ok-kept.kept.items)
          (λ x w plus n e here follows.
          c.in_ok-kept.ensures.has x (subst (λ (v : ℕ). 0 < times v c.in_ok-parts.parts.counters.queue) (sym e) ((solved plus n here).1 follows))
          (subst (λ (xs : List Bool). IsWanted xs x) (sym c.deref.ensures.value) w))
          (basis_at c.args.bases.now (y % c.args.width)) (y / c.args.width) (c.in_ok-wanted.ensures.wants y h inside);
    }
