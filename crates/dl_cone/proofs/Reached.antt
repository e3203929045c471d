-- The cone of an edit is what its seeds reach along the rules that there are before it.
use Rattle.std.proofs.Common.{ℕ, ◌≤◌, [], ◌∷◌, length, not, inl, inr, ◌⊎◌, subst}
use Rattle.std.specs.Prelude.{◌↔◌, Contains}
use Rattle.std.specs.Str.{bytes_eq}
use Rattle.std.proofs.lemmas.List.Elements.{Contains-append_cases}
use Rattle.dl_base.proofs.Members.{only, Contains-filtered}
use Rattle.dl_lit.specs.declared.literal.Literal.{Literal}
use Rattle.dl_theory.specs.declared.rule.Rule.{Rule}
use Rattle.dl_theory.specs.declared.edit.Edit.{Edit}
use Rattle.dl_theory.specs.declared.edit.Edit.TheVariants.{AddRule, DropRule, AddFact, DropFact, AddPair, DropPair}
use Rattle.dl_theory.specs.Lists.{TheoryLists}
use Rattle.dl_theory.specs.Edits.{after_edit, IsAccepted}
use Rattle.dl_theory.specs.Cones.{IsOrAttacks, IsSeed, RaisesTo, Cone}
use Rattle.dl_theory.specs.Verdicts.{Reaches}
use Rattle.dl_graph.specs.Region.{Numbers}
use Rattle.dl_graph.specs.Numbers.{NetLists, IsNumbered, literal_at}
use Rattle.dl_cone.specs.Walked.{IsConeOf}
use Rattle.dl_cone.proofs.Gathering.{IsGathered, gathered_all}

-- what the edit lets a literal raise was raised before, or is a seed: the head of a rule that is added is one
raised_after : (T : TheoryLists) (e : Edit) (b c : Literal) → RaisesTo (after_edit T e) b c → RaisesTo T b c ⊎ IsSeed T e c
raised_after T (AddRule r) b c h = elim (Contains-append_cases T.rules (r ∷ []) h.1 (h.0, h.2, h.3)) [
  | inl m ↦ inl (m.0, h.1, m.1, m.2, h.4)
  | inr m ↦ inr (subst (λ (t : Rule). IsOrAttacks T t.head c) (only r h.1 m) h.4.1)
]
raised_after T (DropRule l) b c h =
    let m = Contains-filtered (λ (r : Rule). not (bytes_eq r.label l)) T.rules h.1 (h.0, h.2, h.3) in
    inl (m.0, h.1, m.1, m.2, h.4)
raised_after T (AddFact f) b c h = inl h
raised_after T (DropFact f) b c h = inl h
raised_after T (AddPair p) b c h = inl h
raised_after T (DropPair p) b c h = inl h

module _ (T : TheoryLists) (e : Edit) where
  before_it : (c : Literal) → Reaches (IsSeed T e) (λ b c. RaisesTo T b c ⊎ RaisesTo (after_edit T e) b c) c → Reaches (IsSeed T e) (RaisesTo T) c
  before_it c (Reaches.start _ s) = Reaches.start c s
  before_it c (Reaches.step b _ r (inl step)) = Reaches.step b c (before_it b r) step
  before_it c (Reaches.step b _ r (inr step)) = elim (raised_after T e b c step) [
    | inl old ↦ Reaches.step b c (before_it b r) old
    | inr seed ↦ Reaches.start c seed
  ]

  with_it : (c : Literal) → Reaches (IsSeed T e) (RaisesTo T) c → Reaches (IsSeed T e) (λ b c. RaisesTo T b c ⊎ RaisesTo (after_edit T e) b c) c
  with_it c (Reaches.start _ s) = Reaches.start c s
  with_it c (Reaches.step b _ r step) = Reaches.step b c (with_it b r) (inl step)

  cone_reached : IsAccepted T e → (c : Literal) → Reaches (IsSeed T e) (RaisesTo T) c ↔ Cone T e c
  cone_reached accepted c = (λ h. (accepted, with_it c h), λ h. before_it c h.1)

module _ (N : NetLists) (numbered : IsNumbered N) where
  raiser_named : (x y : Literal) → RaisesTo N.theory x y → Contains N.names x
  raiser_named x y h = numbered.mentioned x (inl (inr (h.0, h.1, h.2, h.3, inr h.4.0)))

  -- a region in which every member has been followed is the cone
  pub gathered_cone : (e : Edit) → IsAccepted N.theory e → (at : ℕ) (r : Numbers) → length r.members ≤ at
      → IsGathered N (IsSeed N.theory e) (RaisesTo N.theory) at r → IsConeOf N e r
  gathered_cone e accepted at r past h =
      let all = gathered_all N (IsSeed N.theory e) (RaisesTo N.theory) numbered raiser_named at r past h in
      record {
        bound = h.bound;
        members = λ n. (
          λ m. let c = (all n).0 m in (c.0, (cone_reached N.theory e accepted (literal_at N n)).0 c.1),
          λ c. (all n).1 (c.0, (cone_reached N.theory e accepted (literal_at N n)).1 c.1),
        );
      }
