use Rattle.std.proofs.Common.{◌≡◌, length, arith, Some, false, true≢false, ap, sym, subst, ◌∙◌}
use Rattle.dl_theory.specs.declared.edit.Edit.{Edit}
use Rattle.dl_theory.specs.Lists.{TheoryLists}
use Rattle.dl_theory.specs.Edits.{IsAccepted}
use Rattle.dl_graph.specs.Numbers.{NetLists}
use Rattle.dl_graph.specs.Tables.{rules_of}
use Rattle.dl_net.specs.Kept.{HasPending, lists_of, theory_in}
use Rattle.dl_net.specs.KeptNet.{tables_in}
use Rattle.dl_net.proofs.Keeping.{few_numbers}
use Rattle.dl_net.proofs.RoomLemmas.{room_named}
use Rattle.dl_net.proofs.net.Net.prepare.Goals as goal

pub invariant_of-self-2 : goal.invariant_of-self-2
invariant_of-self-2 c =
    let accepted : IsAccepted (theory_in (tables_in c.prepare.new.self)) c.args.edit.now =
    subst (λ (T : TheoryLists). IsAccepted T c.args.edit.now) (sym c.in_ok-prepare.ensures.keeps.theory) c.in_ok-prepare.ensures.answered in
    let thawed : c.self.inside.frozen ≡ false = ap (λ (N : NetLists). N.frozen) (c.self.view_is ∙ c.forget.ensures) in
    record {
      kept = c.in_ok-prepare.ensures.keeps.kept;
      beside = c.in_ok-prepare.ensures.beside;
      pending = subst (λ (e : Edit). HasPending (tables_in c.prepare.new.self) (Some e)) (sym c.in_ok-copy-2.ensures) (accepted, c.in_ok-prepare.ensures.room);
      owned = λ _. c.in_ok-prepare.ensures.own;
      frozen = λ e. absurd (true≢false (sym e ∙ thawed));
    }

pub returns-clause-named : goal.returns-clause-named
returns-clause-named c = room_named (tables_in c.prepare.new.self) c.args.edit.now c.in_ok-prepare.ensures.room

pub returns-in_err-prepare-clause-few : goal.returns-in_err-prepare-clause-few
returns-in_err-prepare-clause-few c =
    omega (
      arith,
      few_numbers (rules_of (lists_of (tables_in c.self.inside.held))) (rules_of (lists_of (tables_in c.prepare.new.self))) c.in_err-prepare.ensures.keeps.rules,
      ap (λ (N : NetLists). length N.rules) (c.self.view_is ∙ c.forget.ensures),
    )

pub returns-clause-few : goal.returns-clause-few
returns-clause-few c =
    omega (
      arith,
      few_numbers (rules_of (lists_of (tables_in c.self.inside.held))) (rules_of (lists_of (tables_in c.prepare.new.self))) c.in_ok-prepare.ensures.keeps.rules,
      ap (λ (N : NetLists). length N.rules) (c.self.view_is ∙ c.forget.ensures),
    )
