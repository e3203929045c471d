-- What an edit changes, and when it is refused.
use Rattle.std.specs.Prelude.{◌≡◌, ◌⊎◌, ℕ, ◌≤◌, ◌<◌, not, ◌||◌, List, [], ◌∷◌, ◌++◌, length, Contains, filter, map, take, slice_get, Option, None, Some, All, Result, MatchResult}
use Rattle.std.specs.Str.{bytes_eq}
use Rattle.dl_lit.specs.Literal.{literal_eq}
use Rattle.dl_theory.specs.declared.rule.Pair.{Pair}
use Rattle.dl_theory.specs.declared.edit.Edit.{Edit}
use Rattle.dl_theory.specs.declared.edit.Edit.TheVariants.{AddRule, DropRule, AddFact, DropFact, AddPair, DropPair}
use Rattle.dl_theory.specs.declared.edit.EditStop.{EditStop}
use Rattle.dl_theory.specs.declared.edit.EditStop.TheVariants.{Refused, Memory}
use Rattle.dl_theory.specs.declared.edit.EditRefusal.{EditRefusal}
use Rattle.dl_theory.specs.declared.edit.EditRefusal.TheVariants.{LabelThere, NoLabel, FactThere, NoFact, PairThere, NoPair, Cycle, RulesFull, FactsFull, PairsFull}
use Rattle.dl_theory.specs.declared.edit.PairsStop.{PairsStop}
use Rattle.dl_theory.specs.declared.edit.PairsStop.TheVariants as pairs_stop
use Rattle.dl_base.specs.Paths.{IsPath}
use Rattle.dl_theory.specs.Lists.{TheoryLists, labels, IsAbove}
use Rattle.dl_theory.specs.Pairs.{pair_eq, Closes}

abbrev pub HasLabel : TheoryLists → List ℕ → Type 0
HasLabel T label = Contains (labels T) label

-- the lists after an edit that is accepted
abbrev pub after_edit : TheoryLists → Edit → TheoryLists
after_edit T (AddRule r) = record T { rules = T.rules ++ r ∷ [] }
after_edit T (DropRule label) = record T {
  rules = filter (λ r. not (bytes_eq r.label label)) T.rules;
  pairs = filter (λ p. not (bytes_eq p.upper label || bytes_eq p.lower label)) T.pairs;
}
after_edit T (AddFact q) = record T { facts = T.facts ++ q ∷ [] }
after_edit T (DropFact q) = record T { facts = filter (λ x. not (literal_eq x q)) T.facts }
after_edit T (AddPair p) = record T { pairs = T.pairs ++ p ∷ [] }
after_edit T (DropPair p) = record T { pairs = filter (λ x. not (pair_eq x p)) T.pairs }

abbrev pub ClosesCycle : TheoryLists → Pair → Type 0
ClosesCycle T p = Closes T.pairs p

abbrev pub IsAccepted : TheoryLists → Edit → Type 0
IsAccepted T (AddRule r) = (¬ HasLabel T r.label) × (length T.rules < 1000000)
IsAccepted T (DropRule label) = HasLabel T label
IsAccepted T (AddFact q) = (¬ Contains T.facts q) × (length T.facts < 1000000)
IsAccepted T (DropFact q) = Contains T.facts q
IsAccepted T (AddPair p) =
    HasLabel T p.upper × HasLabel T p.lower × (¬ Contains T.pairs p) × (¬ ClosesCycle T p) × (length T.pairs < 1000000)
IsAccepted T (DropPair p) = Contains T.pairs p

-- the first cause of a refusal
abbrev pub IsRefused : TheoryLists → Edit → EditRefusal → Type 0
IsRefused T (AddRule r) (LabelThere label) = (label ≡ r.label) × HasLabel T r.label
IsRefused T (AddRule r) RulesFull = (¬ HasLabel T r.label) × (1000000 ≤ length T.rules)
IsRefused T (DropRule l) (NoLabel label) = (label ≡ l) × (¬ HasLabel T l)
IsRefused T (AddFact q) FactThere = Contains T.facts q
IsRefused T (AddFact q) FactsFull = (¬ Contains T.facts q) × (1000000 ≤ length T.facts)
IsRefused T (DropFact q) NoFact = ¬ Contains T.facts q
IsRefused T (AddPair p) (NoLabel label) =
    ((label ≡ p.upper) × (¬ HasLabel T p.upper)) ⊎ ((label ≡ p.lower) × HasLabel T p.upper × (¬ HasLabel T p.lower))
IsRefused T (AddPair p) PairThere = HasLabel T p.upper × HasLabel T p.lower × Contains T.pairs p
IsRefused T (AddPair p) (Cycle path) =
    HasLabel T p.upper × HasLabel T p.lower × (¬ Contains T.pairs p) × IsPath (IsAbove T.pairs) p.lower p.upper path
IsRefused T (AddPair p) PairsFull =
    HasLabel T p.upper × HasLabel T p.lower × (¬ Contains T.pairs p) × (¬ ClosesCycle T p) × (1000000 ≤ length T.pairs)
IsRefused T (DropPair p) NoPair = ¬ Contains T.pairs p
IsRefused T _ _ = ⊥

-- a label of a pair is missing among these
abbrev pub IsMissing : List (List ℕ) → Pair → EditRefusal → Type 0
IsMissing names p (NoLabel label) =
    ((label ≡ p.upper) × (¬ Contains names p.upper)) ⊎ ((label ≡ p.lower) × Contains names p.upper × (¬ Contains names p.lower))
IsMissing names p _ = ⊥

-- both labels of a pair are among these
abbrev pub AreThere : List (List ℕ) → Pair → Type 0
AreThere names p = Contains names p.upper × Contains names p.lower

-- both labels of a pair are those of rules
abbrev pub HasBoth : TheoryLists → Pair → Type 0
HasBoth T p = AreThere (labels T) p

-- the pairs before a place have their labels, and the one at it misses one
pub record MissesAt (names : List (List ℕ)) (pairs : List Pair) (at : ℕ) (refusal : EditRefusal) : Type 0 where
  pub pair : Pair
  pub stands : slice_get pairs at ≡ Some pair
  pub front : All (AreThere names) (take at pairs)
  pub missing : IsMissing names pair refusal

-- the pairs before the first that misses a label
abbrev pub IsFront : List (List ℕ) → List Pair → ℕ → Option EditRefusal → Type 0
IsFront names pairs end None = All (AreThere names) pairs × (end ≡ length pairs)
IsFront names pairs end (Some refusal) = MissesAt names pairs end refusal

-- what is allowed in place of an acceptance: a cause, or want of memory
abbrev pub IsStopped : TheoryLists → Edit → EditStop → Type 0
IsStopped T e (Refused x) = IsRefused T e x
IsStopped T e Memory = Unit {0}

-- what a call answers that is asked for an edit: `Ok` where it is accepted, and else its cause, or want of memory
abbrev pub IsAnswered : {A : Type 0} → TheoryLists → Edit → Result A EditStop → Type 0
IsAnswered T e result = MatchResult result (λ _. IsAccepted T e) (IsStopped T e)

-- what a call that edits answers, and the theory after it: the edit is accepted and made, or it is stopped and the theory is as before
abbrev pub IsEdited : {A : Type 0} → TheoryLists → Edit → TheoryLists → Result A EditStop → Type 0
IsEdited old e new result = MatchResult result (λ _. IsAccepted old e × (new ≡ after_edit old e)) (λ stop. IsStopped old e stop × (new ≡ old))

-- edits one after another, each accepted where it comes
abbrev pub AreAccepted : TheoryLists → List Edit → Type 0
AreAccepted T [] = Unit {0}
AreAccepted T (e ∷ more) = IsAccepted T e × AreAccepted (after_edit T e) more

abbrev pub after_edits : TheoryLists → List Edit → TheoryLists
after_edits T [] = T
after_edits T (e ∷ more) = after_edits (after_edit T e) more

-- the edits that add pairs
abbrev pub additions : List Pair → List Edit
additions pairs = map (λ p. AddPair p) pairs

-- the pairs before a place were added, and the one at it is refused
pub record StopsAtPair (old new : TheoryLists) (pairs : List Pair) (at : ℕ) (refusal : EditRefusal) : Type 0 where
  pub refused : Pair
  pub stands : slice_get pairs at ≡ Some refused
  pub front : AreAccepted old (additions (take at pairs))
  pub added : new ≡ after_edits old (additions (take at pairs))
  pub cause : IsRefused new (AddPair refused) refusal

-- where the adding of several pairs stopped; want of memory leaves the theory as it was
abbrev pub IsPairsStop : TheoryLists → TheoryLists → List Pair → PairsStop → Type 0
IsPairsStop old new pairs (pairs_stop.Refused at refusal) = StopsAtPair old new pairs at refusal
IsPairsStop old new pairs pairs_stop.Memory = new ≡ old

-- the pairs were added, one by one
abbrev pub AddsPairs : TheoryLists → List Pair → TheoryLists → Type 0
AddsPairs old pairs new = AreAccepted old (additions pairs) × (new ≡ after_edits old (additions pairs))

-- what a call that adds pairs answers, and the theory after it: they were added, or the adding stopped
abbrev pub IsPairsOutcome : {A : Type 0} → TheoryLists → List Pair → TheoryLists → Result A PairsStop → Type 0
IsPairsOutcome old pairs new result = MatchResult result (λ _. AddsPairs old pairs new) (IsPairsStop old new pairs)
