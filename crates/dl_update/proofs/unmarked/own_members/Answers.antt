use Rattle.std.proofs.Common.{◌≡◌, ◌+◌, ℕ, List, take, subst, sym, ap, arith, ◌∙◌}
use Rattle.std.specs.Prelude.{All, IsTrue}
use Rattle.std.proofs.lemmas.List.{take_all}
use Rattle.std.proofs.lemmas.List.Elements.{All-weaker}
use Rattle.dl_marks.specs.Marks.{Marking, marked, places, is_owned}
use Rattle.dl_update.proofs.Clearing.{all_taken, has_taken}
use Rattle.dl_update.proofs.unmarked.own_members.Goals as goal
use Rattle.dl_update.proofs.unmarked.own_members.Goals.{in-Some+in_ok-own, in_default}

pub loop-place-preserved : goal.loop-place-preserved
loop-place-preserved c =
    let members : List ℕ = c.args.region.now.members in
    let i : ℕ = c.loop-place.place in
    let before = c.loop-place.invariant in
    elim c.match-at.branch [
      | in-Some+in_ok-own w ↦
          let new : Marking = w.own.new.self in
          let same : c.match-at.marks ≡ new = w.marks-is in
          record {
            places = ap places same ∙ w.own.ensures.len ∙ before.places;
            same = λ t n. ap (λ (m : Marking). marked m t n) same ∙ w.own.ensures.same t n ∙ before.same t n;
            owned =
                subst (λ (m : Marking). All (λ n. IsTrue (is_owned m n)) (take (i + 1) members)) (sym same)
                (all_taken (λ n. IsTrue (is_owned new n)) members i w.in-Some.number (sym c.at.ensures.member ∙ w.in-Some.is)
                (All-weaker (λ n. IsTrue (is_owned c.loop-place.marks n)) (λ n. IsTrue (is_owned new n)) (λ n o. w.in_ok-own.ensures.still_owned n o)
                (take i members) before.owned)
                w.in_ok-own.ensures.owned);
          }
      | in_default w ↦ has_taken members i c.at.result c.at.ensures.member (omega (arith, c.loop-place-test.true, c.len-place-end.ensures.len)) w.in_default.not-Some
    ]

pub returns-clause-owned : goal.returns-clause-owned
returns-clause-owned c =
    subst (All (λ n. IsTrue (is_owned c.loop-place.marks n)))
    (take_all c.loop-place.place c.args.region.now.members (omega (arith, c.loop-place-test.false, c.len-place-end.ensures.len)))
    c.loop-place.invariant.owned
