-- What a literal raises, by numbers and in the theory's own terms.
use Rattle.std.proofs.Common.{◌≡◌, ℕ, ◌<◌, List, length, inl, inr, sym, subst, ap, ◌∙◌, arith}
use Rattle.std.specs.Prelude.{◌↔◌, Contains}
use Rattle.std.proofs.lemmas.List.Elements.{All-weaker, Contains-get_or}
use Rattle.dl_base.proofs.Members.{Contains-mapped, mapped_from}
use Rattle.dl_lit.specs.declared.literal.Literal.{Literal}
use Rattle.dl_theory.specs.declared.rule.Rule.{Rule}
use Rattle.dl_theory.specs.declared.rule.Pair.{Pair}
use Rattle.dl_theory.specs.declared.edit.Edit.TheVariants.{DropRule}
use Rattle.dl_theory.specs.Lists.{IsWellFormed, attackers}
use Rattle.dl_theory.specs.Cones.{IsOrAttacks, IsSeed, IsSeedOfPair, RaisesTo}
use Rattle.dl_graph.specs.Region.{Numbers}
use Rattle.dl_graph.specs.Numbers.{NetLists, IsNumbered, HasRule, attackers_row, body_row, next, back, number, literal_at, rule_at, no_literal}
use Rattle.dl_graph.specs.declared.link.Link.TheVariants.{Uses}
use Rattle.dl_graph.proofs.LabelLemmas.{label_once}
use Rattle.dl_graph.proofs.Slots.{rule_in, number_of_rule, row_has}
use Rattle.dl_fill.proofs.Links.{number_finds, number_inside, attacker_named, head_in, body_sound, body_complete, links_turned}
use Rattle.dl_fill.proofs.Written.{contains_times, times_contains}
use Rattle.dl_graph.specs.Counting.{times}
use Rattle.dl_derive.specs.Back.{Is, FromRow, Gains}
use Rattle.dl_derive.proofs.Gaining.{gains_then}
use Rattle.dl_cone.specs.Walked.{IsNumberOf, IsOfRivals}

-- the same numbers, told otherwise
pub gains_same : (X Y : ℕ → Type 0) (a b : Numbers) → ((n : ℕ) → X n ↔ Y n) → Gains X a b → Gains Y a b
gains_same X Y a b same g = record {
  bound = g.bound;
  more = g.more;
  behind = g.behind;
  sound = All-weaker X Y (λ n. (same n).0) g.more g.sound;
  complete = λ n y. g.complete n ((same n).1 y);
}

module _ (N : NetLists) (numbered : IsNumbered N) where
  -- one number for one literal
  pub one_number : (q n : ℕ) → q < length N.names → n < length N.names → literal_at N n ≡ literal_at N q → n ≡ q
  one_number q n lt within e = sym (numbered.distinct n within) ∙ ap (number N) e ∙ numbered.distinct q lt

  -- what attacks a literal
  pub attacking : (q : ℕ) → q < length N.names → (n : ℕ)
      → FromRow Is (attackers_row N (literal_at N q)) n ↔ IsNumberOf N (Contains (attackers N.theory (literal_at N q))) n
  attacking q lt n = (
    λ h.
        let c = mapped_from (number N) (attackers N.theory (literal_at N q)) h.0 h.1 in
        let named = attacker_named N numbered (literal_at N q) c.0 (Contains-get_or N.names q no_literal lt) c.1 in
        let e : number N c.0 ≡ n = c.2 ∙ sym h.2 in (
          subst (λ (v : ℕ). v < length N.names) e (number_inside N numbered c.0 named),
          subst (Contains (attackers N.theory (literal_at N q))) (sym (number_finds N numbered c.0 named) ∙ ap (literal_at N) e) c.1,
        ),
    λ h. (
      number N (literal_at N n),
      Contains-mapped (number N) (attackers N.theory (literal_at N q)) (literal_at N n) h.1,
      sym (numbered.distinct n h.0),
    ),
  )

  -- a literal and what attacks it
  pub gains_both : (q : ℕ) (a b c : Numbers) → q < length N.names → Gains (Is q) a b
      → Gains (IsNumberOf N (Contains (attackers N.theory (literal_at N q)))) b c → Gains (IsNumberOf N (IsOrAttacks N.theory (literal_at N q))) a c
  gains_both q a b c lt =
      gains_then (Is q) (IsNumberOf N (Contains (attackers N.theory (literal_at N q)))) (IsNumberOf N (IsOrAttacks N.theory (literal_at N q))) a b c
      (λ n e. (subst (λ (v : ℕ). v < length N.names) (sym e) lt, inl (ap (literal_at N) e)))
      (λ n h. (h.0, inr h.1))
      (λ n h. elim h.1 [ inl e ↦ inl (one_number q n lt h.0 e) | inr m ↦ inr (h.0, m) ])

  -- two literals, where they attack each other
  pub gains_rivals : (p o : ℕ) (a b c : Numbers) → p < length N.names → o < length N.names
      → Contains (attackers N.theory (literal_at N p)) (literal_at N o) → Gains (Is p) a b → Gains (Is o) b c
      → Gains (IsNumberOf N (IsOfRivals N.theory (literal_at N p) (literal_at N o))) a c
  gains_rivals p o a b c lp lo m =
      gains_then (Is p) (Is o) (IsNumberOf N (IsOfRivals N.theory (literal_at N p) (literal_at N o))) a b c
      (λ n e. (subst (λ (v : ℕ). v < length N.names) (sym e) lp, (m, inl (ap (literal_at N) e))))
      (λ n e. (subst (λ (v : ℕ). v < length N.names) (sym e) lo, (m, inr (ap (literal_at N) e))))
      (λ n h. elim h.1.1 [ inl e ↦ inl (one_number p n lp h.0 e) | inr e ↦ inr (one_number o n lo h.0 e) ])

  -- a rule that uses a literal has it in its body
  using_sound : (q r : ℕ) → Contains (next N Uses q) r → HasRule N r × Contains (rule_at N r).body (literal_at N q)
  using_sound q r m =
      let turned : 0 < times q (back N Uses r) = omega (arith, contains_times r (next N Uses q) m, links_turned N Uses q r) in
      let has = (row_has N (body_row N) r q turned).0 in
      (has, (body_sound N numbered r has q turned).0)

  using_complete : (q r : ℕ) → q < length N.names → HasRule N r → Contains (rule_at N r).body (literal_at N q) → Contains (next N Uses q) r
  using_complete q r within has m =
      let here : 0 < times (number N (literal_at N q)) (back N Uses r) =
      subst (λ (x : Literal). 0 < times (number N x) (back N Uses r)) m.2 (body_complete N numbered r has m.0 (literal_at N q) m.1) in
      let turned : 0 < times q (back N Uses r) = subst (λ (v : ℕ). 0 < times v (back N Uses r)) (numbered.distinct q within) here in
      times_contains r (next N Uses q) (omega (arith, turned, links_turned N Uses q r))

  pub using_there : (q r : ℕ) → Contains (next N Uses q) r → HasRule N r
  using_there q r m = (using_sound q r m).0

  -- the heads of the rules that use a literal, and what attacks them
  pub raising : (q : ℕ) → q < length N.names → (n : ℕ)
      → FromRow (λ r. IsNumberOf N (IsOrAttacks N.theory (rule_at N r).head)) (next N Uses q) n ↔ IsNumberOf N (RaisesTo N.theory (literal_at N q)) n
  raising q lt n = (
    λ h.
        let used = using_sound q h.0 h.1 in
        let m = rule_in N numbered h.0 used.0 in
        (h.2.0, (m.0, rule_at N h.0, m.1, m.2, (used.1, h.2.1))),
    λ h.
        let at = number_of_rule N numbered h.1.1 (h.1.0, h.1.2, h.1.3) in
        let e : h.1.1 ≡ rule_at N at.0 = sym at.2 in (
          at.0,
          using_complete q at.0 lt at.1 (subst (λ (r : Rule). Contains r.body (literal_at N q)) e h.1.4.0),
          (h.0, subst (λ (r : Rule). IsOrAttacks N.theory r.head (literal_at N n)) e h.1.4.1),
        ),
  )

  -- the head of a rule that is there has a number, which is its own
  pub head_found : (r : ℕ) → HasRule N r → literal_at N (number N (rule_at N r).head) ≡ (rule_at N r).head
  head_found r has = number_finds N numbered (rule_at N r).head (head_in N numbered r has)

module _ (N : NetLists) (numbered : IsNumbered N) (formed : IsWellFormed N.theory) where
  -- the rule with a label is the one at its number
  labelled_one : (r : ℕ) (l : List ℕ) → HasRule N r → (rule_at N r).label ≡ l → (u : Rule) → Contains N.theory.rules u → u.label ≡ l → u ≡ rule_at N r
  labelled_one r l has e u m same =
      let at = number_of_rule N numbered u m in
      sym at.2 ∙ ap (rule_at N) (label_once N numbered formed.labels_distinct at.0 r at.1 has (ap (λ (t : Rule). t.label) at.2 ∙ same ∙ sym e))

  -- what a rule with a label seeds is what the one at its number does
  pub seeding_label : (r : ℕ) (l : List ℕ) → HasRule N r → (rule_at N r).label ≡ l → (n : ℕ)
      → IsNumberOf N (IsOrAttacks N.theory (rule_at N r).head) n ↔ IsNumberOf N (IsSeed N.theory (DropRule l)) n
  seeding_label r l has e n = (
    λ h. let m = rule_in N numbered r has in (h.0, (m.0, rule_at N r, m.1, m.2, (e, h.1))),
    λ h. (
      h.0,
      subst (λ (t : Rule). IsOrAttacks N.theory t.head (literal_at N n)) (labelled_one r l has e h.1.1 (h.1.0, h.1.2, h.1.3) h.1.4.0) h.1.4.1,
    ),
  )

  -- the heads of the two rules of a pair
  pub seeding_pair : (upper lower : ℕ) (p : Pair) → HasRule N upper → HasRule N lower
      → (rule_at N upper).label ≡ p.upper → (rule_at N lower).label ≡ p.lower → (n : ℕ)
      → IsNumberOf N (IsOfRivals N.theory (rule_at N upper).head (rule_at N lower).head) n ↔ IsNumberOf N (IsSeedOfPair N.theory p) n
  seeding_pair upper lower p hu hl eu el n = (
    λ h.
        let m = rule_in N numbered upper hu in
        let o = rule_in N numbered lower hl in
        (h.0, (m.0, rule_at N upper, m.1, m.2, (o.0, rule_at N lower, o.1, o.2, (eu, el, h.1.0, h.1.1)))),
    λ h.
        let t : h.1.1 ≡ rule_at N upper = labelled_one upper p.upper hu eu h.1.1 (h.1.0, h.1.2, h.1.3) h.1.4.4.0 in
        let u : h.1.4.1 ≡ rule_at N lower = labelled_one lower p.lower hl el h.1.4.1 (h.1.4.0, h.1.4.2, h.1.4.3) h.1.4.4.1 in (
          h.0,
          subst (λ (s : Rule). IsOfRivals N.theory (rule_at N upper).head s.head (literal_at N n)) u
              (subst (λ (s : Rule). IsOfRivals N.theory s.head h.1.4.1.head (literal_at N n)) t (h.1.4.4.2, h.1.4.4.3)),
        ),
  )
