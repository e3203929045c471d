-- An edit is accepted, or refused for one cause.
use Rattle.std.proofs.Common.{◌≡◌, ℕ, ◌≤◌, List, ◌⊎◌, inl, inr, length, refl, sym, subst, ap, arith}
use Rattle.std.specs.Prelude.{Contains}
use Rattle.std.proofs.lemmas.Bool.{cases_lt}
use Rattle.dl_theory.specs.declared.rule.Pair.{Pair}
use Rattle.dl_theory.specs.declared.edit.Edit.{Edit}
use Rattle.dl_theory.specs.declared.edit.Edit.TheVariants.{AddRule, DropRule, AddFact, DropFact, AddPair, DropPair}
use Rattle.dl_theory.specs.declared.edit.EditRefusal.{EditRefusal}
use Rattle.dl_theory.specs.declared.edit.EditRefusal.TheVariants.{LabelThere, NoLabel, FactThere, NoFact, PairThere, NoPair, Cycle, RulesFull, FactsFull, PairsFull}
use Rattle.dl_theory.specs.Lists.{TheoryLists, labels}
use Rattle.dl_theory.specs.Edits.{HasLabel, ClosesCycle, IsAccepted, IsRefused}
use Rattle.dl_theory.proofs.Causes.{never_both}
use Rattle.dl_theory.proofs.Deciding.{literal_in}
use Rattle.dl_laws.specs.Edits.{IsOneCause, EditsAreDecided}
use Rattle.dl_laws.proofs.Reaching.{label_in, pair_in, closes_or_not}

abbrev Causes : Type 1
Causes = EditRefusal → Type 0

-- where P holds a refusal by C, and else one by the rest
abbrev First : Type 0 → Causes → Causes → EditRefusal → Type 0
First P C rest x = (P × C x) ⊎ ((¬ P) × rest x)

abbrev Only : EditRefusal → EditRefusal → Type 0
Only x y = y ≡ x

abbrev NoCause : EditRefusal → Type 0
NoCause x = ⊥

abbrev ShowsCycle : EditRefusal → Type 0
ShowsCycle x = (path : List (List ℕ)) × (x ≡ Cycle path)

-- the causes of a refusal of an edit, in order
abbrev Ordered : TheoryLists → Edit → EditRefusal → Type 0
Ordered T (AddRule r) = First (HasLabel T r.label) (Only (LabelThere r.label)) (First (1000000 ≤ length T.rules) (Only RulesFull) NoCause)
Ordered T (DropRule l) = First (¬ HasLabel T l) (Only (NoLabel l)) NoCause
Ordered T (AddFact q) = First (Contains T.facts q) (Only FactThere) (First (1000000 ≤ length T.facts) (Only FactsFull) NoCause)
Ordered T (DropFact q) = First (¬ Contains T.facts q) (Only NoFact) NoCause
Ordered T (AddPair p) =
    First (¬ HasLabel T p.upper) (Only (NoLabel p.upper))
    (First (¬ HasLabel T p.lower) (Only (NoLabel p.lower))
    (First (Contains T.pairs p) (Only PairThere)
    (First (ClosesCycle T p) ShowsCycle
    (First (1000000 ≤ length T.pairs) (Only PairsFull) NoCause))))
Ordered T (DropPair p) = First (¬ Contains T.pairs p) (Only NoPair) NoCause

present : {P : Type 0} → P → ¬ (¬ P)
present p none = none p

in_order : (T : TheoryLists) (e : Edit) (x : EditRefusal) → IsRefused T e x → Ordered T e x
in_order T (AddRule r) (LabelThere l) h = inl (h.1, ap LabelThere h.0)
in_order T (AddRule r) RulesFull h = inr (h.0, inl (h.1, refl))
in_order T (AddRule r) _ h = absurd h
in_order T (DropRule l) (NoLabel m) h = inl (h.1, ap NoLabel h.0)
in_order T (DropRule l) _ h = absurd h
in_order T (AddFact q) FactThere h = inl (h, refl)
in_order T (AddFact q) FactsFull h = inr (h.0, inl (h.1, refl))
in_order T (AddFact q) _ h = absurd h
in_order T (DropFact q) NoFact h = inl (h, refl)
in_order T (DropFact q) _ h = absurd h
in_order T (AddPair p) (NoLabel l) h = elim h [
  | inl upper ↦ inl (upper.1, ap NoLabel upper.0)
  | inr lower ↦ inr (present lower.1, inl (lower.2, ap NoLabel lower.0))
]
in_order T (AddPair p) PairThere h = inr (present h.0, inr (present h.1, inl (h.2, refl)))
in_order T (AddPair p) (Cycle path) h = inr (present h.0, inr (present h.1, inr (h.2, inl ((path, h.3), (path, refl)))))
in_order T (AddPair p) PairsFull h = inr (present h.0, inr (present h.1, inr (h.2, inr (h.3, inl (h.4, refl)))))
in_order T (AddPair p) _ h = absurd h
in_order T (DropPair p) NoPair h = inl (h, refl)
in_order T (DropPair p) _ h = absurd h

-- two refusals for the first of some causes are of one cause

abbrev AreOne : Causes → Type 0
AreOne C = (x y : EditRefusal) → C x → C y → IsOneCause x y

one_itself : (x : EditRefusal) → IsOneCause x x
one_itself (Cycle path) = tt
one_itself _ = refl

is_one : (x : EditRefusal) → AreOne (Only x)
is_one x y z e f = subst (λ (v : EditRefusal). IsOneCause v z) (sym e) (subst (λ (w : EditRefusal). IsOneCause x w) (sym f) (one_itself x))

none_one : AreOne NoCause
none_one x y h k = absurd h

cycles_one : AreOne ShowsCycle
cycles_one x y h k = subst (λ (v : EditRefusal). IsOneCause v y) (sym h.1) (subst (λ (w : EditRefusal). IsOneCause (Cycle h.0) w) (sym k.1) tt)

first_one : (P : Type 0) (C rest : Causes) → AreOne C → AreOne rest → AreOne (First P C rest)
first_one P C rest c r x y (inl h) (inl k) = c x y h.1 k.1
first_one P C rest c r x y (inl h) (inr k) = absurd (k.0 h.0)
first_one P C rest c r x y (inr h) (inl k) = absurd (h.0 k.0)
first_one P C rest c r x y (inr h) (inr k) = r x y h.1 k.1

ordered_one : (T : TheoryLists) (e : Edit) → AreOne (Ordered T e)
ordered_one T (AddRule r) = first_one _ _ _ (is_one (LabelThere r.label)) (first_one _ _ _ (is_one RulesFull) none_one)
ordered_one T (DropRule l) = first_one _ _ _ (is_one (NoLabel l)) none_one
ordered_one T (AddFact q) = first_one _ _ _ (is_one FactThere) (first_one _ _ _ (is_one FactsFull) none_one)
ordered_one T (DropFact q) = first_one _ _ _ (is_one NoFact) none_one
ordered_one T (AddPair p) =
    first_one _ _ _ (is_one (NoLabel p.upper))
    (first_one _ _ _ (is_one (NoLabel p.lower))
    (first_one _ _ _ (is_one PairThere)
    (first_one _ _ _ cycles_one
    (first_one _ _ _ (is_one PairsFull) none_one))))
ordered_one T (DropPair p) = first_one _ _ _ (is_one NoPair) none_one

-- each edit is accepted or refused

abbrev Outcome : TheoryLists → Edit → Type 0
Outcome T e = IsAccepted T e ⊎ ((x : EditRefusal) × IsRefused T e x)

add_pair : (T : TheoryLists) (p : Pair) → HasLabel T p.upper → HasLabel T p.lower → Outcome T (AddPair p)
add_pair T p upper lower =
    elim (pair_in T.pairs p) [
      | inl there ↦ inr (PairThere, (upper, lower, there))
      | inr new ↦ elim (closes_or_not T.pairs p) [
        | inl closes ↦ inr (Cycle closes.0, (upper, lower, new, closes.1))
        | inr free ↦ elim (cases_lt (length T.pairs) 1000000) [
          | inl room ↦ inl (upper, lower, new, free, room)
          | inr full ↦ inr (PairsFull, (upper, lower, new, free, full))
        ]
      ]
    ]

decide : (T : TheoryLists) (e : Edit) → Outcome T e
decide T (AddRule r) = elim (label_in (labels T) r.label) [
  | inl there ↦ inr (LabelThere r.label, (refl, there))
  | inr new ↦ elim (cases_lt (length T.rules) 1000000) [ inl room ↦ inl (new, room) | inr full ↦ inr (RulesFull, (new, full)) ]
]
decide T (DropRule l) = elim (label_in (labels T) l) [ inl there ↦ inl there | inr none ↦ inr (NoLabel l, (refl, none)) ]
decide T (AddFact q) = elim (literal_in T.facts q) [
  | inl there ↦ inr (FactThere, there)
  | inr new ↦ elim (cases_lt (length T.facts) 1000000) [ inl room ↦ inl (new, room) | inr full ↦ inr (FactsFull, (new, full)) ]
]
decide T (DropFact q) = elim (literal_in T.facts q) [ inl there ↦ inl there | inr none ↦ inr (NoFact, none) ]
decide T (AddPair p) = elim (label_in (labels T) p.upper) [
  | inr none ↦ inr (NoLabel p.upper, inl (refl, none))
  | inl upper ↦ elim (label_in (labels T) p.lower) [
    | inr none ↦ inr (NoLabel p.lower, inr (refl, upper, none))
    | inl lower ↦ add_pair T p upper lower
  ]
]
decide T (DropPair p) = elim (pair_in T.pairs p) [ inl there ↦ inl there | inr none ↦ inr (NoPair, none) ]

pub edits_are_decided : (T : TheoryLists) → EditsAreDecided T
edits_are_decided T = record {
  decided = decide T;
  never_both = never_both T;
  one_cause = λ e x y h k. ordered_one T e x y (in_order T e x h) (in_order T e y k);
}
