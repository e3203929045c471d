-- An edit that is accepted is not refused.
use Rattle.std.proofs.Common.{inl, inr, arith}
use Rattle.dl_theory.specs.declared.edit.Edit.{Edit}
use Rattle.dl_theory.specs.declared.edit.Edit.TheVariants.{AddRule, DropRule, AddFact, DropFact, AddPair, DropPair}
use Rattle.dl_theory.specs.declared.edit.EditRefusal.{EditRefusal}
use Rattle.dl_theory.specs.declared.edit.EditRefusal.TheVariants.{LabelThere, NoLabel, FactThere, NoFact, PairThere, NoPair, Cycle, RulesFull, FactsFull, PairsFull}
use Rattle.dl_theory.specs.Lists.{TheoryLists}
use Rattle.dl_theory.specs.Edits.{IsAccepted, IsRefused}

pub never_both : (T : TheoryLists) (e : Edit) (x : EditRefusal) → IsAccepted T e → IsRefused T e x → ⊥
never_both T (AddRule r) (LabelThere l) a h = a.0 h.1
never_both T (AddRule r) RulesFull a h = absurd (omega (arith, a.1, h.1))
never_both T (AddRule r) _ a h = absurd h
never_both T (DropRule l) (NoLabel m) a h = h.1 a
never_both T (DropRule l) _ a h = absurd h
never_both T (AddFact q) FactThere a h = a.0 h
never_both T (AddFact q) FactsFull a h = absurd (omega (arith, a.1, h.1))
never_both T (AddFact q) _ a h = absurd h
never_both T (DropFact q) NoFact a h = h a
never_both T (DropFact q) _ a h = absurd h
never_both T (AddPair p) (NoLabel l) a h = elim h [ inl u ↦ u.1 a.0 | inr v ↦ v.2 a.1 ]
never_both T (AddPair p) PairThere a h = a.2 h.2
never_both T (AddPair p) (Cycle path) a h = a.3 (path, h.3)
never_both T (AddPair p) PairsFull a h = absurd (omega (arith, a.4, h.4))
never_both T (AddPair p) _ a h = absurd h
never_both T (DropPair p) NoPair a h = h a
never_both T (DropPair p) _ a h = absurd h
