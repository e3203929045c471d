use Rattle.std.proofs.Common.{◌≡◌, ℕ, Bool, inl, inr, subst, sym, ap, arith, ◌∙◌}
use Rattle.std.specs.Prelude.{IsTrue}
use Rattle.std.proofs.lemmas.Bool.{cases_eq}
use Rattle.dl_marks.specs.Marks.{places}
use Rattle.dl_derive.specs.Part.{AreExactAt}
use Rattle.dl_derive.proofs.Copying.{exact_right, exact_elsewhere}
use Rattle.dl_derive.proofs.copied.copied.Goals as goal

pub loop-number-init : goal.loop-number-init
loop-number-init g c =
    let grown = c.in_ok-grown.ensures in
    let none : places c.make-copy.result ≡ 0 = ap places c.make-copy.ensures in
    record {
      places = grown.len;
      owned = λ n lt. grown.fresh_owned n (omega (arith, none)) lt;
      exact = λ n lt. absurd (omega (arith, lt));
      fresh = λ t n le lt. grown.fresh t n (omega (arith, none)) lt;
    }

pub copy_number-requires-clause-number : goal.copy_number-requires-clause-number
copy_number-requires-clause-number g c = omega (arith, c.loop-number-test.true, c.names-names.ensures.len)

pub copy_number-requires-clause-owned : goal.copy_number-requires-clause-owned
copy_number-requires-clause-owned g c = c.loop-number.invariant.owned c.loop-number.number c.loop-number-test.true

pub copy_number-requires-clause-fresh : goal.copy_number-requires-clause-fresh
copy_number-requires-clause-fresh g c = λ t. c.loop-number.invariant.fresh t c.loop-number.number (omega arith) c.loop-number-test.true

pub loop-number-preserved : goal.loop-number-preserved
loop-number-preserved g c =
    let before = c.loop-number.invariant in
    let done = c.copy_number.ensures in
    let i = c.loop-number.number in
    record {
      places = done.places ∙ before.places;
      owned = λ n lt. subst (λ (b : Bool). IsTrue b) (sym (done.owned n)) (before.owned n lt);
      exact = λ n lt. elim (cases_eq n i) [
        | inl e ↦ subst (λ (k : ℕ). AreExactAt c.args.small.now c.copy_number.new.copy k) (sym e) c.in_ok-copy_number.ensures.exact
        | inr apart ↦
            exact_elsewhere c.args.small.now c.loop-number.copy c.copy_number.new.copy n (λ t. done.others t n apart) (before.exact n (omega (arith, lt, apart)))
      ];
      fresh = λ t n le lt. done.others t n (λ e. omega (arith, le, e)) ∙ before.fresh t n (omega (arith, le)) lt;
    }

pub returns : goal.returns
returns g c =
    let end = c.loop-number.invariant in
    exact_right c.args.small.now c.loop-number.copy (end.places ∙ c.names-names.ensures.len)
    (λ n lt. end.exact n (omega (arith, lt, c.names-names.ensures.len, c.loop-number-test.false)))
