-- What follows in the part of a theory that matters for a literal, follows in the whole.
use Rattle.std.proofs.Common.{◌≡◌, List, [], ◌∷◌, ◌++◌, Bool, true, false, get_or, inl, inr, ◌⊎◌, sym, subst}
use Rattle.std.specs.Prelude.{◌↔◌, All, Any, Contains}
use Rattle.std.proofs.lemmas.List.Elements.{All-contains, All-head, All-tail, All-weaker, Contains-get_or}
use Rattle.dl_lit.specs.declared.literal.Literal.{Literal}
use Rattle.dl_lit.specs.declared.literal.Tagged.{Tagged}
use Rattle.dl_lit.specs.declared.literal.Family.{Family}
use Rattle.dl_lit.specs.declared.literal.Family.TheVariants.{Definite, Blocking, Propagating, Support}
use Rattle.dl_lit.specs.Literal.{tagged}
use Rattle.dl_theory.specs.declared.answer.Verdict.TheVariants.{Proved, Refuted, Neither}
use Rattle.dl_theory.specs.declared.answer.Verdict.{Verdict}
use Rattle.dl_theory.specs.declared.answer.Certificate.{Certificate}
use Rattle.dl_theory.specs.declared.answer.Certificate.TheVariants.{Derivation, Gap}
use Rattle.dl_theory.specs.declared.answer.Answer.{Answer}
use Rattle.dl_theory.specs.declared.rule.Rule.{Rule}
use Rattle.dl_theory.specs.Lists.{TheoryLists, IsStrictFor, Supports, Opposes, Beats, attackers}
use Rattle.dl_theory.specs.Conditions.{IsOn, IsOff, Prevails, Fails, Condition, Meets}
use Rattle.dl_theory.specs.Derivations.{Derives, Follows}
use Rattle.dl_theory.specs.Verdicts.{Reaches, Back, Matters, IsVerdict, IsExactGap, DerivesAt, Certifies, Fits}
use Rattle.dl_theory.proofs.Closure.{follows_step, saturated_has}
use Rattle.dl_fill.proofs.Attacks.{attack_turns}
use Rattle.dl_derive.specs.Part.{HasAllBehind, IsPart}

-- two theories agree on the literals with S
pub record IsLike (S : Literal → Type 0) (T P : TheoryLists) : Type 0 where
  pub facts : (q : Literal) → S q → Contains T.facts q ↔ Contains P.facts q
  pub rules : (r : Rule) → S r.head → Contains T.rules r ↔ Contains P.rules r
  pub above : (t u : Rule) → S t.head → S u.head → Contains T.rules t → Contains T.rules u → Opposes T t.head u → Beats T t u ↔ Beats P t u

module _ (S : Literal → Type 0) (T P : TheoryLists) (part : IsPart S T P) where
  pub part_like : IsLike S T P
  part_like = record {
    facts = λ q s. (λ m. (part.facts q).1 (m, s), λ m. ((part.facts q).0 m).0);
    rules = λ r s. (λ m. (part.rules r).1 (m, s), λ m. ((part.rules r).0 m).0);
    above = λ t u s v m n o.
        let e = part.above t u ((part.rules t).1 (m, s)) ((part.rules u).1 (n, v)) o in
        (e.1, e.0);
  }

  pub whole_like : IsLike S P T
  whole_like = record {
    facts = λ q s. (λ m. ((part.facts q).0 m).0, λ m. (part.facts q).1 (m, s));
    rules = λ r s. (λ m. ((part.rules r).0 m).0, λ m. (part.rules r).1 (m, s));
    above = λ t u s v m n o. part.above t u m n o;
  }

  pub part_closed : HasAllBehind T S → HasAllBehind P S
  part_closed closed = record {
    attacked = closed.attacked;
    bodies = λ r m s. closed.bodies r ((part.rules r).0 m).0 s;
  }

module _ (S : Literal → Type 0) (T P : TheoryLists) (closed : HasAllBehind T S) (like : IsLike S T P) where
  module _ (got : Tagged → Type 0) where
    any_like : (A B : Rule → Type 0) → ((r : Rule) → A r → S r.head) → ((r : Rule) → Contains T.rules r → A r → B r) → Any A T.rules → Any B P.rules
    any_like A B inside f h =
        let there : Contains T.rules h.1 = (h.0, h.2, h.3) in
        let m = (like.rules h.1 (inside h.1 h.4)).0 there in
        (m.0, h.1, m.1, m.2, f h.1 there h.4)

    all_like : (G A B : Rule → Type 0) → ((r : Rule) → G r → S r.head) → ((r : Rule) → Contains T.rules r → G r → A r → B r)
        → All (λ r. G r → A r) T.rules → All (λ r. G r → B r) P.rules
    all_like G A B inside f h = λ k d lt g.
        let r : Rule = get_or P.rules k d in
        let m = (like.rules r (inside r g)).1 (Contains-get_or P.rules k d lt) in
        f r m g (All-contains (λ u. G u → A u) T.rules r h m g)

    at_head : (q : Literal) → S q → (r : Rule) → r.head ≡ q → S r.head
    at_head q sq r e = subst S (sym e) sq

    -- a rule for q and one against it
    beats_like : (q : Literal) → S q → (t u : Rule) → t.head ≡ q → Opposes T q u → Contains T.rules t → Contains T.rules u → Beats T t u ↔ Beats P t u
    beats_like q sq t u e o m n =
        like.above t u (at_head q sq t e) (closed.attacked q u.head sq o) m n (subst (λ (h : Literal). Opposes T h u) (sym e) o)

    -- a rule against q and one for it
    beaten_like : (q : Literal) → S q → (u t : Rule) → t.head ≡ q → Opposes T q u → Contains T.rules u → Contains T.rules t → Beats T u t ↔ Beats P u t
    beaten_like q sq u t e o n m =
        like.above u t (closed.attacked q u.head sq o) (at_head q sq t e) n m
        (subst (λ (h : Literal). Contains (attackers T u.head) h) (sym e) (attack_turns T q u.head o))

    prevails_like : (f against : Family) (q : Literal) → S q → Prevails T got f against q → Prevails P got f against q
    prevails_like f against q sq h = record {
      supported =
          any_like (λ r. Supports q r × IsOn got f r) (λ r. Supports q r × IsOn got f r) (λ r s. at_head q sq r s.0.0) (λ r m s. s) h.supported;
      unopposed = h.unopposed;
      answered =
          all_like (Opposes T q)
          (λ u. IsOff got against u ⊎ Any (λ t. Supports q t × Beats T t u × IsOn got f t) T.rules)
          (λ u. IsOff got against u ⊎ Any (λ t. Supports q t × Beats P t u × IsOn got f t) P.rules)
          (λ u o. closed.attacked q u.head sq o)
          (λ u n o a. elim a [
            | inl off ↦ inl off
            | inr b ↦ inr (any_like (λ t. Supports q t × Beats T t u × IsOn got f t) (λ t. Supports q t × Beats P t u × IsOn got f t)
                (λ t s. at_head q sq t s.0.0)
                (λ t m s. (s.0, (beats_like q sq t u s.0.0 o m n).0 s.1, s.2)) b)
          ])
          h.answered;
    }

    fails_like : (f against : Family) (q : Literal) → S q → Fails T got f against q → Fails P got f against q
    fails_like f against q sq (inl unsupported) =
        inl (all_like (Supports q) (IsOff got f) (IsOff got f) (λ r s. at_head q sq r s.0) (λ r m s off. off) unsupported)
    fails_like f against q sq (inr (inl attacked)) = inr (inl attacked)
    fails_like f against q sq (inr (inr defeated)) =
        inr (inr (any_like
        (λ u. Opposes T q u × IsOn got against u × All (λ t. Supports q t → IsOff got f t ⊎ ¬ Beats T t u) T.rules)
        (λ u. Opposes T q u × IsOn got against u × All (λ t. Supports q t → IsOff got f t ⊎ ¬ Beats P t u) P.rules)
        (λ u h. closed.attacked q u.head sq h.0)
        (λ u n h. (
          h.0,
          h.1,
          all_like (Supports q) (λ t. IsOff got f t ⊎ ¬ Beats T t u) (λ t. IsOff got f t ⊎ ¬ Beats P t u)
              (λ t s. at_head q sq t s.0)
              (λ t m s a. elim a [ inl off ↦ inl off | inr b ↦ inr (λ more. b ((beats_like q sq t u s.0 h.0 m n).1 more)) ]) h.2,
        ))
        defeated))

    condition_like : (p : Bool) (f : Family) (q : Literal) → S q → Condition T got p f q → Condition P got p f q
    condition_like true Definite q sq (inl fact) = inl ((like.facts q sq).0 fact)
    condition_like true Definite q sq (inr rule) =
        inr (any_like (λ r. IsStrictFor q r × IsOn got Definite r) (λ r. IsStrictFor q r × IsOn got Definite r)
        (λ r s. at_head q sq r s.0.0) (λ r m s. s) rule)
    condition_like false Definite q sq h = (
      λ fact. h.0 ((like.facts q sq).1 fact),
      all_like (IsStrictFor q) (IsOff got Definite) (IsOff got Definite) (λ r s. at_head q sq r s.0) (λ r m s off. off) h.1,
    )
    condition_like true Blocking q sq (inl d) = inl d
    condition_like true Blocking q sq (inr h) = inr (prevails_like Blocking Blocking q sq h)
    condition_like false Blocking q sq h = (h.0, fails_like Blocking Blocking q sq h.1)
    condition_like true Propagating q sq (inl d) = inl d
    condition_like true Propagating q sq (inr h) = inr (prevails_like Propagating Support q sq h)
    condition_like false Propagating q sq h = (h.0, fails_like Propagating Support q sq h.1)
    condition_like true Support q sq (inl d) = inl d
    condition_like true Support q sq (inr h) =
        inr (any_like
        (λ r. Supports q r × IsOn got Support r × All (λ u. Opposes T q u → IsOff got Propagating u ⊎ ¬ Beats T u r) T.rules)
        (λ r. Supports q r × IsOn got Support r × All (λ u. Opposes T q u → IsOff got Propagating u ⊎ ¬ Beats P u r) P.rules)
        (λ r s. at_head q sq r s.0.0)
        (λ r m s. (
          s.0,
          s.1,
          all_like (Opposes T q) (λ u. IsOff got Propagating u ⊎ ¬ Beats T u r) (λ u. IsOff got Propagating u ⊎ ¬ Beats P u r)
              (λ u o. closed.attacked q u.head sq o)
              (λ u n o a. elim a [ inl off ↦ inl off | inr b ↦ inr (λ more. b ((beaten_like q sq u r s.0.0 o n m).1 more)) ]) s.2,
        ))
        h)
    condition_like false Support q sq h = (
      h.0,
      all_like (Supports q)
          (λ r. IsOff got Support r ⊎ Any (λ u. Opposes T q u × Beats T u r × IsOn got Propagating u) T.rules)
          (λ r. IsOff got Support r ⊎ Any (λ u. Opposes T q u × Beats P u r × IsOn got Propagating u) P.rules)
          (λ r s. at_head q sq r s.0)
          (λ r m s a. elim a [
            | inl off ↦ inl off
            | inr b ↦ inr (any_like (λ u. Opposes T q u × Beats T u r × IsOn got Propagating u) (λ u. Opposes T q u × Beats P u r × IsOn got Propagating u)
                (λ u o. closed.attacked q u.head sq o.0)
                (λ u n o. (o.0, (beaten_like q sq u r s.0 o.0 n m).0 o.1, o.2)) b)
          ])
          h.1,
    )

  meets_like : (got : Tagged → Type 0) (x : Tagged) → S x.literal → Meets T got x → Meets P got x
  meets_like got x = condition_like got x.plus x.family x.literal

  -- what follows in one follows in the other
  pub follows_like : (x : Tagged) → S x.literal → Follows T x → Follows P x
  follows_like x sx follows =
      saturated_has T (λ _. Unit {0}) S
      (record { families = λ f g n h. tt; attacked = closed.attacked; bodies = closed.bodies })
      (Follows P)
      (λ y _ sy meets. follows_step P (Follows P) (λ z h. h) y (meets_like (Follows P) y sy meets))
      x follows tt sx

  derives_like : (before rest : List Tagged) → All (λ x. S x.literal) rest → Derives T before rest → Derives P before rest
  derives_like before [] inside h = tt
  derives_like before (x ∷ rest) inside h = (
    h.0,
    meets_like (Contains before) x (All-head (λ y. S y.literal) x rest inside) h.1,
    derives_like (before ++ x ∷ []) rest (All-tail (λ y. S y.literal) x rest inside) h.2,
  )

  module _ (q : Literal) (sq : S q) where
    -- what matters for q in one has S, and matters for q in the other
    back_like : (c : Literal) → Back T q c → S c × Back P q c
    back_like c (Reaches.start x e) = (subst S (sym e) sq, Reaches.start c e)
    back_like c (Reaches.step x y b (inl m)) =
        let r = back_like x b in
        (closed.attacked x y r.0 m, Reaches.step x y r.1 (inl m))
    back_like c (Reaches.step x y b (inr h)) =
        let r = back_like x b in
        let there : Contains T.rules h.1 = (h.0, h.2, h.3) in
        let inside : S h.1.head = subst S (sym h.4.0) r.0 in
        let m = (like.rules h.1 inside).0 there in
        (All-contains S h.1.body y (closed.bodies h.1 there inside) h.4.1, Reaches.step x y r.1 (inr (m.0, h.1, m.1, m.2, h.4)))

    matters_like : (f : Family) (x : Tagged) → Matters T f q x → S x.literal × Matters P f q x
    matters_like f x h = let b = back_like x.literal h.0 in (b.0, (b.1, h.1))

    derives_at_like : (f : Family) (x : Tagged) (steps : List Tagged) → DerivesAt T f q x steps → DerivesAt P f q x steps
    derives_at_like f x steps h = record {
      before = h.before;
      ends = h.ends;
      derivation = derives_like [] steps (All-weaker (Matters T f q) (λ y. S y.literal) (λ y m. (matters_like f y m).0) steps h.matters) h.derivation;
      matters = All-weaker (Matters T f q) (Matters P f q) (λ y m. (matters_like f y m).1) steps h.matters;
    }

module _ (S : Literal → Type 0) (T P : TheoryLists) (closed : HasAllBehind T S) (part : IsPart S T P) where
  -- what follows is the same at the literals with S
  pub follows_whole : (x : Tagged) → S x.literal → Follows P x → Follows T x
  follows_whole = follows_like S P T (part_closed S T P part closed) (whole_like S T P part)

  pub follows_part : (x : Tagged) → S x.literal → Follows T x → Follows P x
  follows_part = follows_like S T P closed (part_like S T P part)

  module _ (q : Literal) (sq : S q) (f : Family) where
    matters_whole : (x : Tagged) → Matters P f q x → S x.literal × Matters T f q x
    matters_whole = matters_like S P T (part_closed S T P part closed) (whole_like S T P part) q sq f

    matters_part : (x : Tagged) → Matters T f q x → S x.literal × Matters P f q x
    matters_part = matters_like S T P closed (part_like S T P part) q sq f

    derives_whole : (x : Tagged) (steps : List Tagged) → DerivesAt P f q x steps → DerivesAt T f q x steps
    derives_whole = derives_at_like S P T (part_closed S T P part closed) (whole_like S T P part) q sq f

    gap_whole : (xs : List Tagged) → IsExactGap P f q xs → IsExactGap T f q xs
    gap_whole xs h = record {
      in_order = h.in_order;
      sound =
          All-weaker (λ x. Matters P f q x × (¬ Follows P x)) (λ x. Matters T f q x × (¬ Follows T x))
          (λ x g. let m = matters_whole x g.0 in (m.1, λ follows. g.1 (follows_part x m.0 follows))) xs h.sound;
      complete = λ x g. let m = matters_part x g.0 in h.complete x (m.1, λ follows. g.1 (follows_whole x m.0 follows));
    }

    verdict_whole : (v : Verdict) → IsVerdict P f q v → IsVerdict T f q v
    verdict_whole Proved h = follows_whole (tagged true f q) sq h
    verdict_whole Refuted h = follows_whole (tagged false f q) sq h
    verdict_whole Neither h = (λ g. h.0 (follows_part (tagged true f q) sq g), λ g. h.1 (follows_part (tagged false f q) sq g))

    certifies_whole : (v : Verdict) (c : Certificate) → Certifies P f q v c → Certifies T f q v c
    certifies_whole Proved (Derivation steps) h = derives_whole (tagged true f q) steps h
    certifies_whole Refuted (Derivation steps) h = derives_whole (tagged false f q) steps h
    certifies_whole Neither (Gap members) h = gap_whole members h
    certifies_whole Proved (Gap members) h = absurd h
    certifies_whole Refuted (Gap members) h = absurd h
    certifies_whole Neither (Derivation steps) h = absurd h

    -- an answer that fits the part fits the whole
    pub part_fits : (answer : Answer) → Fits P f q answer → Fits T f q answer
    part_fits answer h = record {
      verdict = verdict_whole answer.verdict h.verdict;
      certificate = certifies_whole answer.verdict answer.certificate h.certificate;
    }
