use Rattle.std.proofs.Common.{ℕ, Some, ◌≡◌, arith, inl, inr, ap, sym, subst, refl, ◌∙◌, get_or}
use Rattle.std.specs.Prelude.{slice_get}
use Rattle.std.proofs.lemmas.Bool.{cases_lt}
use Rattle.std.proofs.lemmas.Option.{slice_get_within, get_or_from_slice_get}
use Rattle.dl_graph.specs.Numbers.{attackers_row, literal_at}
use Rattle.dl_derive.proofs.Gaining.{none_past}
use Rattle.dl_cone.proofs.Raising.{attacking}
use Rattle.dl_cone.proofs.seeds.attacks.Goals as goal

pub loop-attacker-init : goal.loop-attacker-init
loop-attacker-init c = record { others = λ k before. absurd (omega (arith, before)) }

pub loop-attacker-preserved : goal.loop-attacker-preserved
loop-attacker-preserved c =
    let row = attackers_row c.args.net.now (literal_at c.args.net.now c.args.other) in
    let here = get_or_from_slice_get row c.loop-attacker.at c.in-Some.attacker c.args.literal (sym c.attacker.ensures ∙ c.in-Some.is) in
    record {
      others = λ k before.
          elim (cases_lt k c.loop-attacker.at) [
            | inl early ↦ c.loop-attacker.invariant.others k early
            | inr late ↦
                let this : k ≡ c.loop-attacker.at = omega (arith, before, late) in
                λ e. c.if-attacker-literal.false (sym here ∙ subst (λ (i : ℕ). get_or row i c.args.literal ≡ c.args.literal) this e)
          ];
    }

pub returns-then-attacker-literal : goal.returns-then-attacker-literal
returns-then-attacker-literal c =
    let row = attackers_row c.args.net.now (literal_at c.args.net.now c.args.other) in
    let e : slice_get row c.loop-attacker.at ≡ Some c.args.literal = sym c.attacker.ensures ∙ c.in-Some.is ∙ ap Some c.if-attacker-literal.true in (
      λ _. ((attacking c.args.net.now c.requires.numbered c.args.other c.requires.other c.args.literal).0
          (c.args.literal, (c.loop-attacker.at, slice_get_within row c.loop-attacker.at c.args.literal e, get_or_from_slice_get row c.loop-attacker.at c.args.literal c.args.literal e), refl)).1,
      λ _. refl,
    )

pub returns : goal.returns
returns c =
    let row = attackers_row c.args.net.now (literal_at c.args.net.now c.args.other) in
    let past = none_past row c.loop-attacker.at (sym c.attacker.ensures ∙ c.in_default.is) in (
      λ e. absurd cc,
      λ m.
          let r = (attacking c.args.net.now c.requires.numbered c.args.other c.requires.other c.args.literal).1 (c.requires.literal, m) in
          absurd (c.loop-attacker.invariant.others r.1.0 (omega (arith, r.1.1, past)) (subst (λ (x : ℕ). get_or row r.1.0 x ≡ x) (sym r.2) r.1.2)),
    )
