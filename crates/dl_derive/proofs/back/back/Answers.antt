use Rattle.std.proofs.Common.{◌<◌, ℕ, List, [], ◌∷◌, ◌++◌, length, arith, sym, ◌∙◌, ap}
use Rattle.std.specs.Prelude.{Contains}
use Rattle.dl_derive.proofs.Gaining.{none_past}
use Rattle.dl_derive.proofs.Resting.{few_members, gathered_one, gathered_inside, gathered_next, gathered_all}
use Rattle.dl_derive.proofs.back.back.Goals as goal

pub loop-at-init : goal.loop-at-init
loop-at-init c =
    let empty : ¬ Contains c.make-found.result.members c.args.number =
    λ m. let k : m.0 < length c.make-found.result.members = m.1 in omega (arith, k, ap length c.make-found.ensures.members) in
    record {
      gathered =
          gathered_one c.args.net.now c.names.ensures.numbered c.args.number c.requires c.put.new.self
          (c.put.ensures.bound ∙ c.make-found.ensures.bound ∙ c.names.ensures.len)
          (c.in_ok-put.ensures.new empty ∙ ap (λ (xs : List ℕ). xs ++ c.args.number ∷ []) c.make-found.ensures.members);
    }

pub put_next-requires-clause-number : goal.put_next-requires-clause-number
put_next-requires-clause-number c =
    gathered_inside c.args.net.now c.names.ensures.numbered c.args.number c.requires c.loop-at.at c.in-Some.next c.loop-at.found
    (sym c.at.ensures.member ∙ c.in-Some.is) c.loop-at.invariant.gathered

pub put_next-requires-clause-bound : goal.put_next-requires-clause-bound
put_next-requires-clause-bound c = c.loop-at.invariant.gathered.bound

pub loop-at-preserved : goal.loop-at-preserved
loop-at-preserved c = record {
  gathered =
      gathered_next c.args.net.now c.names.ensures.numbered c.args.number c.requires c.loop-at.at c.in-Some.next c.loop-at.found c.put_next.new.found
      (sym c.at.ensures.member ∙ c.in-Some.is) c.loop-at.invariant.gathered c.in_ok-put_next-in-Some.ensures;
}

pub returns-in-None : goal.returns-in-None
returns-in-None c =
    gathered_all c.args.net.now c.names.ensures.numbered c.args.number c.requires c.loop-at.at c.loop-at.found
    (none_past c.loop-at.found.members c.loop-at.at (sym c.at.ensures.member ∙ c.in-None.is)) c.loop-at.invariant.gathered

pub returns : goal.returns
returns c =
    gathered_all c.args.net.now c.names.ensures.numbered c.args.number c.requires c.loop-at.at c.loop-at.found
    (omega (arith, few_members c.loop-at.found c.len-len.ensures.region, c.loop-at.invariant.gathered.bound, c.loop-at-test.false, c.names-at-end.ensures.len)) c.loop-at.invariant.gathered
