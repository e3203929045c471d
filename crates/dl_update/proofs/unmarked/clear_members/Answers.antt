use Rattle.std.proofs.Common.{◌≡◌, ◌+◌, ℕ, List, Bool, Some, false, take, subst, sym, ap, arith, ◌∙◌}
use Rattle.std.specs.Prelude.{All, Contains, IsTrue, slice_get}
use Rattle.std.proofs.lemmas.List.{take_all}
use Rattle.dl_marks.specs.Marks.{Marking, marked, places, is_owned}
use Rattle.dl_update.proofs.Clearing.{all_taken, taken_member, has_taken, still_cleared}
use Rattle.dl_update.proofs.unmarked.clear_members.Goals as goal
use Rattle.dl_update.proofs.unmarked.clear_members.Goals.{in-Some, in_default}

pub loop-place-preserved : goal.loop-place-preserved
loop-place-preserved g c =
    let members : List ℕ = c.args.region.now.members in
    let i : ℕ = c.loop-place.place in
    let before = c.loop-place.invariant in
    elim c.match-at.branch [
      | in-Some w ↦
          let x : ℕ = w.in-Some.number in
          let done = w.clear_number.ensures in
          let at : slice_get members i ≡ Some x = sym c.at.ensures.member ∙ w.in-Some.is in
          let same : c.match-at.marks ≡ w.clear_number.new.marks = w.marks-is in
          record {
            places = ap places same ∙ done.places ∙ before.places;
            owned = λ n. ap (λ (m : Marking). is_owned m n) same ∙ done.owned n ∙ before.owned n;
            cleared = λ t.
                subst (λ (m : Marking). All (λ n. marked m t n ≡ false) (take (i + 1) members)) (sym same)
                (all_taken (λ n. marked w.clear_number.new.marks t n ≡ false) members i x at
                (still_cleared c.loop-place.marks w.clear_number.new.marks t (take i members) x (done.cleared t) (λ n apart. done.others t n apart) (before.cleared t))
                (done.cleared t));
            others = λ t n out.
                ap (λ (m : Marking). marked m t n) same ∙ done.others t n (λ e. out (subst (Contains members) (sym e) (taken_member members i x at)))
                ∙ before.others t n out;
            steps = omega (arith, w.steps-is, done.steps, before.steps);
          }
      | in_default w ↦ has_taken members i c.at.result c.at.ensures.member (omega (arith, c.loop-place-test.true, c.len-place-end.ensures.len)) w.in_default.not-Some
    ]

pub clear_number-requires : goal.clear_number-requires
clear_number-requires g c =
    let members : List ℕ = c.args.region.now.members in
    let at : slice_get members c.loop-place.place ≡ Some c.in-Some.number = sym c.at.ensures.member ∙ c.in-Some.is in
    let m = taken_member members c.loop-place.place c.in-Some.number at in
    subst (λ (b : Bool). IsTrue b) (sym (c.loop-place.invariant.owned c.in-Some.number))
    (subst (λ (x : ℕ). IsTrue (is_owned c.args.marks.now x)) m.2 (c.requires m.0 c.in-Some.number m.1))

pub returns-clause-cleared : goal.returns-clause-cleared
returns-clause-cleared g c = λ t.
    subst (All (λ n. marked c.loop-place.marks t n ≡ false))
    (take_all c.loop-place.place c.args.region.now.members (omega (arith, c.loop-place-test.false, c.len-place-end.ensures.len)))
    (c.loop-place.invariant.cleared t)
