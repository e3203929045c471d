-- Outside the cone of an edit, the theories before it and after it are alike, so the same follows.
use Rattle.std.proofs.Common.{◌≡◌, ℕ, Bool, true, false, not, ◌||◌, List, [], ◌∷◌, get_or, inl, inr, ◌⊎◌, refl, sym, ap, subst, ◌∙◌}
use Rattle.std.specs.Prelude.{◌↔◌, Contains}
use Rattle.std.specs.Str.{bytes_eq}
use Rattle.std.proofs.lemmas.List.Elements.{Contains-append_left, Contains-push_cases, Contains-get_or}
use Rattle.std.proofs.lemmas.Slice.Eq.{bytes_eq-Decides}
use Rattle.dl_base.proofs.Members.{only, Contains-filtered}
use Rattle.dl_base.proofs.Filters.{false_unless, Contains-kept}
use Rattle.dl_lit.specs.declared.literal.Literal.{Literal}
use Rattle.dl_lit.specs.Literal.{complement, literal_eq}
use Rattle.dl_lit.specs.Order.{literal_eq-Decides}
use Rattle.dl_theory.specs.declared.rule.Rule.{Rule}
use Rattle.dl_theory.specs.declared.rule.Pair.{Pair}
use Rattle.dl_theory.specs.declared.edit.Edit.{Edit}
use Rattle.dl_theory.specs.declared.edit.Edit.TheVariants.{AddRule, DropRule, AddFact, DropFact, AddPair, DropPair}
use Rattle.dl_theory.specs.Lists.{TheoryLists, Opposes, Beats, attackers}
use Rattle.dl_theory.specs.Edits.{after_edit, IsAccepted}
use Rattle.dl_theory.specs.Pairs.{pair_eq, pair_eq-Decides}
use Rattle.dl_theory.specs.Verdicts.{Reaches}
use Rattle.dl_theory.specs.Cones.{IsOrAttacks, IsSeedOfPair, IsSeed, RaisesTo, Cone}
use Rattle.dl_theory.proofs.Closure.{complement_twice}
use Rattle.dl_fill.proofs.Attacks.{attack_turns}
use Rattle.dl_derive.specs.Part.{HasAllBehind}
use Rattle.dl_derive.proofs.Parts.{IsLike, follows_like}
use Rattle.dl_cone.specs.Outside.{StaysOutside}

-- what attacks a literal that is h or attacks h, is h or attacks h
attacked_near : (T : TheoryLists) (h q c : Literal) → IsOrAttacks T h q → Contains (attackers T q) c → IsOrAttacks T h c
attacked_near T h q c (inl e) m = inr (subst (λ (x : Literal). Contains (attackers T x) c) e m)
attacked_near T h q c (inr n) m = inl (only (complement q) c m ∙ ap complement (only (complement h) q n) ∙ complement_twice h)

-- of two literals that attack each other, one is what attacks the other
attacked_head : (T : TheoryLists) (t u q c : Literal) → Contains (attackers T t) u → (q ≡ t) ⊎ (q ≡ u) → Contains (attackers T q) c → (c ≡ t) ⊎ (c ≡ u)
attacked_head T t u q c meet (inl e) m = inr (only (complement q) c m ∙ ap complement e ∙ sym (only (complement t) u meet))
attacked_head T t u q c meet (inr e) m =
    inl (only (complement q) c m ∙ ap complement (e ∙ only (complement t) u meet) ∙ complement_twice t)

attacked_of_pair : (T : TheoryLists) (p : Pair) (q c : Literal) → IsSeedOfPair T p q → Contains (attackers T q) c → IsSeedOfPair T p c
attacked_of_pair T p q c s m =
    let u = s.4 in
    let h = u.4 in
    (s.0, s.1, s.2, s.3, (u.0, u.1, u.2, u.3, (h.0, h.1, h.2, attacked_head T s.1.head u.1.head q c h.2 h.3 m)))

attacked_seed : (T : TheoryLists) (e : Edit) (q c : Literal) → IsSeed T e q → Contains (attackers T q) c → IsSeed T e c
attacked_seed T (AddRule r) q c s m = attacked_near T r.head q c s m
attacked_seed T (DropRule label) q c s m = (s.0, s.1, s.2, s.3, (s.4.0, attacked_near T s.1.head q c s.4.1 m))
attacked_seed T (AddFact f) q c s m = attacked_near T f q c s m
attacked_seed T (DropFact f) q c s m = attacked_near T f q c s m
attacked_seed T (AddPair p) q c s m = attacked_of_pair T p q c s m
attacked_seed T (DropPair p) q c s m = attacked_of_pair T p q c s m

attacked_raised : (T : TheoryLists) (b q c : Literal) → RaisesTo T b q → Contains (attackers T q) c → RaisesTo T b c
attacked_raised T b q c h m = (h.0, h.1, h.2, h.3, (h.4.0, attacked_near T h.1.head q c h.4.1 m))

-- a step from a literal of the cone, over the theory before the edit or after it
abbrev Steps : TheoryLists → Edit → Literal → Literal → Type 0
Steps T e b c = RaisesTo T b c ⊎ RaisesTo (after_edit T e) b c

attacked_reached : (T : TheoryLists) (e : Edit) (q c : Literal) → Reaches (IsSeed T e) (Steps T e) q → Contains (attackers T q) c
    → Reaches (IsSeed T e) (Steps T e) c
attacked_reached T e q c (Reaches.start x s) m = Reaches.start c (attacked_seed T e x c s m)
attacked_reached T e q c (Reaches.step b x r (inl h)) m = Reaches.step b c r (inl (attacked_raised T b x c h m))
attacked_reached T e q c (Reaches.step b x r (inr h)) m = Reaches.step b c r (inr (attacked_raised (after_edit T e) b x c h m))

abbrev IsOutside : TheoryLists → Edit → Literal → Type 0
IsOutside T e q = ¬ Cone T e q

-- outside, all of U is behind its heads that is outside
closed_outside : (T : TheoryLists) (e : Edit) (U : TheoryLists) → ((b c : Literal) → RaisesTo U b c → Steps T e b c) → HasAllBehind U (IsOutside T e)
closed_outside T e U steps = record {
  attacked = λ q c out m cone. out (cone.0, attacked_reached T e c q cone.1 (attack_turns U q c m));
  bodies = λ r m out k d lt cone.
      let b : Literal = get_or r.body k d in
      out (cone.0, Reaches.step b r.head cone.1 (steps b r.head (m.0, r, m.1, m.2, (Contains-get_or r.body k d lt, inl refl))));
}

not_false : (b : Bool) → b ≡ false → not b ≡ true
not_false b e = ap not e

neither_true : (a b : Bool) → a ≡ false → b ≡ false → not (a || b) ≡ true
neither_true a b e f = ap (λ x. not (x || b)) e ∙ ap not f

-- a fact that is no seed stays, and none but a seed comes
facts_outside : (T : TheoryLists) (e : Edit) (q : Literal) → (¬ IsSeed T e q) → Contains T.facts q ↔ Contains (after_edit T e).facts q
facts_outside T (AddFact f) q out = (
  Contains-append_left T.facts (f ∷ []) q,
  λ m. elim (Contains-push_cases T.facts f q m) [ inl there ↦ there | inr same ↦ absurd (out (inl (sym same))) ],
)
facts_outside T (DropFact f) q out = (
  λ m. Contains-kept (λ x. not (literal_eq x f)) T.facts q m (not_false (literal_eq q f) (false_unless (literal_eq q f) (literal_eq-Decides q f) (λ same. out (inl same)))),
  Contains-filtered (λ x. not (literal_eq x f)) T.facts q,
)
facts_outside T (AddRule r) q out = (λ m. m, λ m. m)
facts_outside T (DropRule label) q out = (λ m. m, λ m. m)
facts_outside T (AddPair p) q out = (λ m. m, λ m. m)
facts_outside T (DropPair p) q out = (λ m. m, λ m. m)

-- a label that is not that of a rule for a seed
other_label : (T : TheoryLists) (label : List ℕ) (r : Rule) → Contains T.rules r → (¬ IsSeed T (DropRule label) r.head) → bytes_eq r.label label ≡ false
other_label T label r m out =
    false_unless (bytes_eq r.label label) (bytes_eq-Decides r.label label) (λ same. out (m.0, r, m.1, m.2, (same, inl refl)))

rules_outside : (T : TheoryLists) (e : Edit) (r : Rule) → (¬ IsSeed T e r.head) → Contains T.rules r ↔ Contains (after_edit T e).rules r
rules_outside T (AddRule n) r out = (
  Contains-append_left T.rules (n ∷ []) r,
  λ m. elim (Contains-push_cases T.rules n r m) [ inl there ↦ there | inr same ↦ absurd (out (inl (ap (λ (u : Rule). u.head) (sym same)))) ],
)
rules_outside T (DropRule label) r out = (
  λ m. Contains-kept (λ u. not (bytes_eq u.label label)) T.rules r m (not_false (bytes_eq r.label label) (other_label T label r m out)),
  Contains-filtered (λ u. not (bytes_eq u.label label)) T.rules r,
)
rules_outside T (AddFact f) r out = (λ m. m, λ m. m)
rules_outside T (DropFact f) r out = (λ m. m, λ m. m)
rules_outside T (AddPair p) r out = (λ m. m, λ m. m)
rules_outside T (DropPair p) r out = (λ m. m, λ m. m)

-- the pair of two rules whose heads attack each other has a seed
seed_of_pair : (T : TheoryLists) (p : Pair) (t u : Rule) → Contains T.rules t → Contains T.rules u → Opposes T t.head u
    → record { upper = t.label; lower = u.label } ≡ p → IsSeedOfPair T p t.head
seed_of_pair T p t u m n meet same =
    (m.0, t, m.1, m.2, (n.0, u, n.1, n.2, (ap (λ (x : Pair). x.upper) same, ap (λ (x : Pair). x.lower) same, meet, inl refl)))

pairs_outside : (T : TheoryLists) (e : Edit) (t u : Rule) → (¬ IsSeed T e t.head) → (¬ IsSeed T e u.head) → Contains T.rules t → Contains T.rules u
    → Opposes T t.head u → Beats T t u ↔ Beats (after_edit T e) t u
pairs_outside T (AddPair p) t u out _ m n meet =
    let own : Pair = record { upper = t.label; lower = u.label } in (
      Contains-append_left T.pairs (p ∷ []) own,
      λ k. elim (Contains-push_cases T.pairs p own k) [ inl there ↦ there | inr same ↦ absurd (out (seed_of_pair T p t u m n meet (sym same))) ],
    )
pairs_outside T (DropPair p) t u out _ m n meet =
    let own : Pair = record { upper = t.label; lower = u.label } in (
      λ k. Contains-kept (λ x. not (pair_eq x p)) T.pairs own k
          (not_false (pair_eq own p) (false_unless (pair_eq own p) (pair_eq-Decides own p) (λ same. out (seed_of_pair T p t u m n meet same)))),
      Contains-filtered (λ x. not (pair_eq x p)) T.pairs own,
    )
pairs_outside T (DropRule label) t u out also m n meet =
    let own : Pair = record { upper = t.label; lower = u.label } in
    let kept : Pair → Bool = λ p. not (bytes_eq p.upper label || bytes_eq p.lower label) in (
      λ k. Contains-kept kept T.pairs own k
          (neither_true (bytes_eq t.label label) (bytes_eq u.label label) (other_label T label t m out) (other_label T label u n also)),
      Contains-filtered kept T.pairs own,
    )
pairs_outside T (AddRule r) t u out _ m n meet = (λ k. k, λ k. k)
pairs_outside T (AddFact f) t u out _ m n meet = (λ k. k, λ k. k)
pairs_outside T (DropFact f) t u out _ m n meet = (λ k. k, λ k. k)

-- what is alike is so both ways
like_turned : (S : Literal → Type 0) (T P : TheoryLists) → IsLike S T P → IsLike S P T
like_turned S T P like = record {
  facts = λ q s. ((like.facts q s).1, (like.facts q s).0);
  rules = λ r s. ((like.rules r s).1, (like.rules r s).0);
  above = λ t u s v m n o.
      let e = like.above t u s v ((like.rules t s).1 m) ((like.rules u v).1 n) o in
      (e.1, e.0);
}

module _ (T : TheoryLists) (e : Edit) (accepted : IsAccepted T e) where
  no_seed : (q : Literal) → IsOutside T e q → ¬ IsSeed T e q
  no_seed q out s = out (accepted, Reaches.start q s)

  like_outside : IsLike (IsOutside T e) T (after_edit T e)
  like_outside = record {
    facts = λ q s. facts_outside T e q (no_seed q s);
    rules = λ r s. rules_outside T e r (no_seed r.head s);
    above = λ t u s v m n o. pairs_outside T e t u (no_seed t.head s) (no_seed u.head v) m n o;
  }

-- outside its cone, what follows is the same before an edit that is accepted and after it
pub follows_outside : (T : TheoryLists) (e : Edit) → StaysOutside T e
follows_outside T e accepted x out =
    let S = IsOutside T e in
    let P : TheoryLists = after_edit T e in
    let like = like_outside T e accepted in (
      follows_like S T P (closed_outside T e T (λ b c h. inl h)) like x out,
      follows_like S P T (closed_outside T e P (λ b c h. inr h)) (like_turned S T P like) x out,
    )
