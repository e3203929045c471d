-- The nodes of a literal's own tags, against the conditions of the theory: a literal is concluded where it prevails, and refuted where it
-- fails, over a family and the family that its attackers are judged by.
use Rattle.std.proofs.Common.{◌≡◌, ℕ, suc, zero, ◌+◌, ◌*◌, ◌<◌, ◌&&◌, ◌||◌, Bool, true, false, List, [], ◌∷◌, ◌++◌, length, map, get_or, inl, inr, ◌⊎◌, sym, subst, refl, arith, true≢false}
use Rattle.std.specs.Prelude.{All, Any, Contains, nat_lt}
use Rattle.std.specs.Bool.{Decides}
use Rattle.std.specs.List.{list_all, list_any}
use Rattle.std.specs.Set.{is_member}
use Rattle.std.proofs.lemmas.Bool.{ltb-true, lt-ltb}
use Rattle.std.proofs.lemmas.Bool.Decides.{Decides-and, Decides-or, Decides-like}
use Rattle.std.proofs.lemmas.Map.Made.{is_member-Decides}
use Rattle.std.proofs.lemmas.List.Elements.{All-head, All-tail, All-cons, All-nil, Contains-get_or}
use Rattle.dl_lit.specs.declared.literal.Literal.{Literal}
use Rattle.dl_lit.specs.declared.literal.Tagged.{Tagged}
use Rattle.dl_lit.specs.declared.literal.Family.{Family}
use Rattle.dl_lit.specs.declared.literal.Family.TheVariants.{Definite}
use Rattle.dl_lit.specs.Literal.{tagged}
use Rattle.dl_theory.specs.declared.rule.Rule.{Rule}
use Rattle.dl_theory.specs.declared.rule.Pair.{Pair}
use Rattle.dl_theory.specs.Lists.{Supports, Beats, Opposes, attackers}
use Rattle.dl_theory.specs.Pairs.{pair_eq, pair_eq-Decides}
use Rattle.dl_theory.specs.Conditions.{IsOn, IsOff, Prevails, Fails, Condition}
use Rattle.dl_theory.specs.Derivations.{Follows}
use Rattle.dl_theory.proofs.Deciding.{decided}
use Rattle.dl_graph.specs.Counting.{times}
use Rattle.dl_graph.specs.Numbers.{NetLists, IsNumbered, no_literal, literal_at, rule_at, number, back}
use Rattle.dl_graph.specs.declared.link.Link.TheVariants.{Opposes as Opposing}
use Rattle.dl_fill.specs.Rivals.{Defending}
use Rattle.dl_fill.specs.Meanings.{IsSupported, IsUnsupported, IsAnswered, IsUnanswered}
use Rattle.dl_fill.specs.declared.basis.Basis.{Basis}
use Rattle.dl_fill.specs.declared.basis.Basis.TheVariants.{Prevailing, Failing, Sure, Unsure, Nothing}
use Rattle.dl_fill.specs.Before.{Before, tag_of, attack_fails, attack_holds, plus_gate, minus_gate, IsExact}
use Rattle.dl_fill.specs.Reads.{ReadsPrevailing, ReadsFailing, Reads}
use Rattle.dl_fill.specs.Wires.{through}
use Rattle.dl_fill.specs.Gates.{Passes}
use Rattle.dl_fill.proofs.Attacks.{attack_meets}
use Rattle.dl_fill.proofs.Links.{number_finds, number_inside, attacker_named, opposes_listing, single, single_has}
use Rattle.dl_fill.proofs.Members.{every_first, every_second, every_both, either_of, either_first, either_second, any_from, any_to, all_from, all_to}
use Rattle.dl_fill.proofs.Gating.{open_gate, close_gate, below}

plus_cases : (P : ℕ → Type 0) (s a : Bool) (xs : List ℕ) → Passes P (plus_gate s a) xs
    → (s ≡ true) ⊎ ((s ≡ false) × (a ≡ true) × ((x : ℕ) → 0 < times x xs → P x))
plus_cases P true a xs h = inl refl
plus_cases P false true xs h = inr (refl, refl, h)
plus_cases P false false xs h = absurd h

minus_cases : (P : ℕ → Type 0) (n a : Bool) (xs : List ℕ) → Passes P (minus_gate n a) xs
    → ((n ≡ true) × (a ≡ true)) ⊎ ((n ≡ true) × ((x : ℕ) × (0 < times x xs) × P x))
minus_cases P true true xs h = inl (refl, refl)
minus_cases P true false xs h = inr (refl, h)
minus_cases P false a xs h = absurd h

plus_now : (P : ℕ → Type 0) (s a : Bool) (xs : List ℕ) → s ≡ true → Passes P (plus_gate s a) xs
plus_now P true a xs e = tt
plus_now P false a xs e = absurd (true≢false (sym e))

plus_every : (P : ℕ → Type 0) (s a : Bool) (xs : List ℕ) → a ≡ true → ((x : ℕ) → 0 < times x xs → P x) → Passes P (plus_gate s a) xs
plus_every P true a xs e h = tt
plus_every P false true xs e h = h
plus_every P false false xs e h = absurd (true≢false (sym e))

minus_now : (P : ℕ → Type 0) (n a : Bool) (xs : List ℕ) → n ≡ true → a ≡ true → Passes P (minus_gate n a) xs
minus_now P true true xs e f = tt
minus_now P true false xs e f = absurd (true≢false (sym f))
minus_now P false a xs e f = absurd (true≢false (sym e))

minus_either : (P : ℕ → Type 0) (n a : Bool) (xs : List ℕ) → n ≡ true → (x : ℕ) × (0 < times x xs) × P x → Passes P (minus_gate n a) xs
minus_either P true true xs e h = tt
minus_either P true false xs e h = h
minus_either P false a xs e h = absurd (true≢false (sym e))

module _ {A : Type 0} (P : A → Type 0) (x : A) (xs : List A) where
  any_at : (k : ℕ) (y : A) → k < length (x ∷ xs) → get_or (x ∷ xs) k y ≡ y → P y → P x ⊎ Any P xs
  any_at zero y lt e h = inl (subst P (sym e) h)
  any_at (suc k) y lt e h = inr (k, y, omega (arith, lt), e, h)

  any_uncons : Any P (x ∷ xs) → P x ⊎ Any P xs
  any_uncons h = any_at h.0 h.1 h.2 h.3 h.4

  any_cons : P x ⊎ Any P xs → Any P (x ∷ xs)
  any_cons (inl h) = (0, x, omega arith, refl, h)
  any_cons (inr h) = (suc h.0, h.1, omega (arith, h.2), h.3, h.4)

-- tests of the numbers of literals
module _ {A : Type 0} (n : A → ℕ) (p : ℕ → Bool) (P : A → Type 0) where
  all_numbers : (xs : List A) → ((c : A) → Contains xs c → Decides (p (n c)) (P c)) → Decides (list_all p (map n xs)) (All P xs)
  all_numbers [] each = (λ _. All-nil P, λ _. refl)
  all_numbers (x ∷ xs) each =
      Decides-like (p (n x) && list_all p (map n xs)) (λ h. All-cons P x xs h.0 h.1) (λ h. (All-head P x xs h, All-tail P x xs h))
      (Decides-and (p (n x)) (list_all p (map n xs)) (each x (0, omega arith, refl))
      (all_numbers xs (λ c m. each c (suc m.0, omega (arith, m.1), m.2))))

  any_number : (xs : List A) → ((c : A) → Contains xs c → Decides (p (n c)) (P c)) → Decides (list_any p (map n xs)) (Any P xs)
  any_number [] each = (λ h. absurd (true≢false (sym h)), λ h. absurd (omega (arith, h.2)))
  any_number (x ∷ xs) each =
      Decides-like (p (n x) || list_any p (map n xs)) (any_cons P x xs) (any_uncons P x xs)
      (Decides-or (p (n x)) (list_any p (map n xs)) (each x (0, omega arith, refl))
      (any_number xs (λ c m. each c (suc m.0, omega (arith, m.1), m.2))))

-- where more is at hand, what is read is at hand
pub reads_more : (N : NetLists) (b : Before) (V W : Bool → Literal → Type 0) → ((plus : Bool) (c : Literal) → V plus c → W plus c) → (q : ℕ) (basis : Basis)
    → Reads N b V q basis → Reads N b W q basis
reads_more N b V W to q Prevailing h = λ lt here.
    let r = h lt here in
    record { sure = λ e. to true (literal_at N q) (r.sure e); fails = λ e f k d inside. to false (get_or (attackers N.theory (literal_at N q)) k d) (r.fails e f k d inside) }
reads_more N b V W to q Failing h = λ lt here.
    let r = h lt here in
    record { unsure = λ e. to false (literal_at N q) (r.unsure e); holds = λ e. let a = r.holds e in (a.0, a.1, a.2, a.3, to true a.1 a.4) }
reads_more N b V W to q Sure h = λ lt here e. to true (literal_at N q) (h lt here e)
reads_more N b V W to q Unsure h = λ lt here e. to false (literal_at N q) (h lt here e)
reads_more N b V W to q Nothing h = λ lt here. tt

module _ (N : NetLists) (numbered : IsNumbered N) (b : Before) (definite : IsExact N b Definite) where
  named : (q : ℕ) → q < length N.names → Contains N.names (literal_at N q)
  named q lt = Contains-get_or N.names q no_literal lt

  -- the definite mark of an attacker
  attacker_exact : (plus : Bool) (q : ℕ) → q < length N.names → (c : Literal) → Contains (attackers N.theory (literal_at N q)) c
      → Decides (b.marked (tag_of plus Definite) (number N c)) (Follows N.theory (tagged plus Definite c))
  attacker_exact plus q lt c m =
      let there = attacker_named N numbered (literal_at N q) c (named q lt) m in
      subst (λ (x : Literal). Decides (b.marked (tag_of plus Definite) (number N c)) (Follows N.theory (tagged plus Definite x)))
      (number_finds N numbered c there) (definite plus (number N c) (number_inside N numbered c there))

  pub fails_exact : (q : ℕ) → q < length N.names
      → Decides (attack_fails N b.marked q) (All (λ c. Follows N.theory (tagged false Definite c)) (attackers N.theory (literal_at N q)))
  fails_exact q lt =
      all_numbers (number N) (λ c. b.marked (tag_of false Definite) c) (λ c. Follows N.theory (tagged false Definite c)) (attackers N.theory (literal_at N q))
      (attacker_exact false q lt)

  pub holds_exact : (q : ℕ) → q < length N.names
      → Decides (attack_holds N b.marked q) (Any (λ c. Follows N.theory (tagged true Definite c)) (attackers N.theory (literal_at N q)))
  holds_exact q lt =
      any_number (number N) (λ c. b.marked (tag_of true Definite) c) (λ c. Follows N.theory (tagged true Definite c)) (attackers N.theory (literal_at N q))
      (attacker_exact true q lt)

  -- what gates read follows
  pub reads_follow : (q : ℕ) (basis : Basis) → Reads N b (λ plus c. Follows N.theory (tagged plus Definite c)) q basis
  reads_follow q Prevailing = λ lt here. record { sure = (definite true q lt).0; fails = λ e. (fails_exact q lt).0 }
  reads_follow q Failing = λ lt here. record { unsure = (definite false q lt).0; holds = (holds_exact q lt).0 }
  reads_follow q Sure = λ lt here. (definite true q lt).0
  reads_follow q Unsure = λ lt here. (definite false q lt).0
  reads_follow q Nothing = λ lt here. tt

  module _ (f against : Family)
      (plus_meets : (got : Tagged → Type 0) (q : Literal) → got (tagged true Definite q) ⊎ Prevails N.theory got f against q → Condition N.theory got true f q)
      (minus_meets : (got : Tagged → Type 0) (q : Literal) → got (tagged false Definite q) × Fails N.theory got f against q → Condition N.theory got false f q) where
    module _ (got : Tagged → Type 0) where
      abbrev Answer : Rule → Type 0
      Answer u = IsOff got against u ⊎ Any (λ t. Defending N.theory u t × IsOn got f t) N.theory.rules

      abbrev Unbeaten : Rule → Type 0
      Unbeaten u = IsOn got against u × All (λ t. Defending N.theory u t → IsOff got f t) N.theory.rules

      -- the same in the terms of a literal that u opposes
      abbrev AnswerFor : Literal → Rule → Type 0
      AnswerFor q u = IsOff got against u ⊎ Any (λ t. Supports q t × Beats N.theory t u × IsOn got f t) N.theory.rules

      -- a rule that defends its head against u supports what u opposes
      defender_supports : (q : Literal) (u t : Rule) → Opposes N.theory q u → Defending N.theory u t → Supports q t
      defender_supports q u t o d = (attack_meets N.theory t.head q u.head d.1 o, d.2)

      supporter_defends : (q : Literal) (u t : Rule) → Opposes N.theory q u → Supports q t → Beats N.theory t u → Defending N.theory u t
      supporter_defends q u t o s beats = (beats, subst (λ (x : Literal). Opposes N.theory x u) (sym s.0) o, s.1)

      -- a rule against q is answered, in the terms of q
      answered_for : (q : Literal) (u : Rule) → Opposes N.theory q u → Answer u → AnswerFor q u
      answered_for q u o (inl off) = inl off
      answered_for q u o (inr h) = inr (h.0, h.1, h.2, h.3, (defender_supports q u h.1 o h.4.0, h.4.0.0, h.4.1))

      answered_by : (q : Literal) (u : Rule) → Opposes N.theory q u → AnswerFor q u → Answer u
      answered_by q u o (inl off) = inl off
      answered_by q u o (inr h) = inr (h.0, h.1, h.2, h.3, (supporter_defends q u h.1 o h.4.0 h.4.1, h.4.2))

      unbeaten_for : (q : Literal) (u : Rule) → Opposes N.theory q u → All (λ t. Defending N.theory u t → IsOff got f t) N.theory.rules
          → All (λ t. Supports q t → IsOff got f t ⊎ ¬ Beats N.theory t u) N.theory.rules
      unbeaten_for q u o h k d inside s =
          let p : Pair = record { upper = (get_or N.theory.rules k d).label; lower = u.label } in
          elim (decided (is_member pair_eq N.theory.pairs p) (is_member-Decides pair_eq-Decides N.theory.pairs p)) [
            | inl beats ↦ inl (h k d inside (supporter_defends q u (get_or N.theory.rules k d) o s beats))
            | inr not ↦ inr not
          ]

      unbeaten_by : (q : Literal) (u : Rule) → Opposes N.theory q u
          → All (λ t. Supports q t → IsOff got f t ⊎ ¬ Beats N.theory t u) N.theory.rules
          → All (λ t. Defending N.theory u t → IsOff got f t) N.theory.rules
      unbeaten_by q u o h k d inside s =
          elim (h k d inside (defender_supports q u (get_or N.theory.rules k d) o s)) [ inl off ↦ off | inr not ↦ absurd (not s.0) ]

      module _ (follows : (y : Tagged) → got y → Follows N.theory y) (P : ℕ → Type 0) (s k l : ℕ) (small : k < s) (small' : l < s) (q : ℕ) (lt : q < length N.names) where
        -- the nodes below: whether q is supported or not, and the rules against q, answered or not
        abbrev below_q : List ℕ
        below_q = through s k (q ∷ []) ++ (through s l (back N Opposing q) ++ [])

        pub plus_passes : got (tagged true Definite (literal_at N q)) ⊎ Prevails N.theory got f against (literal_at N q)
            → (IsSupported N got f q → P (q * s + k))
            → ((u : ℕ) → Opposes N.theory (literal_at N q) (rule_at N u) → IsAnswered N got f against u → P (u * s + l))
            → Passes P
            (below q (length N.names) (plus_gate (b.marked (tag_of true Definite) q) (attack_fails N b.marked q)))
            (through s k (q ∷ []) ++ (through s l (back N Opposing q) ++ []))
        plus_passes h supported answered =
            close_gate P (nat_lt q (length N.names)) (plus_gate (b.marked (tag_of true Definite) q) (attack_fails N b.marked q)) below_q
            (lt-ltb q (length N.names) lt)
            (elim h [
              | inl d ↦
                  plus_now P (b.marked (tag_of true Definite) q) (attack_fails N b.marked q) below_q
                  ((definite true q lt).1 (follows (tagged true Definite (literal_at N q)) d))
              | inr p ↦
                  plus_every P (b.marked (tag_of true Definite) q) (attack_fails N b.marked q) below_q
                  ((fails_exact q lt).1 (λ j d inside. follows _ (p.unopposed j d inside)))
                  (every_both P s k l small small' (q ∷ []) (back N Opposing q)
                  (λ i m. subst (λ (v : ℕ). P (v * s + k)) (sym (single i q m)) (supported (lt, p.supported)))
                  (λ u m.
                  let o = (opposes_listing N numbered q lt).sound u m in
                  let a = all_to N numbered (Opposes N.theory (literal_at N q)) (back N Opposing q) (opposes_listing N numbered q lt) (AnswerFor (literal_at N q)) p.answered u m in
                  answered u o.1 (o.0, answered_by (literal_at N q) (rule_at N u) o.1 a)))
            ])

        pub minus_passes : got (tagged false Definite (literal_at N q)) × Fails N.theory got f against (literal_at N q)
            → (IsUnsupported N got f q → P (q * s + k))
            → ((u : ℕ) → Opposes N.theory (literal_at N q) (rule_at N u) → IsUnanswered N got f against u → P (u * s + l))
            → Passes P
            (below q (length N.names) (minus_gate (b.marked (tag_of false Definite) q) (attack_holds N b.marked q)))
            (through s k (q ∷ []) ++ (through s l (back N Opposing q) ++ []))
        minus_passes h unsupported unanswered =
            close_gate P (nat_lt q (length N.names)) (minus_gate (b.marked (tag_of false Definite) q) (attack_holds N b.marked q)) below_q
            (lt-ltb q (length N.names) lt)
            (let unsure : b.marked (tag_of false Definite) q ≡ true = (definite false q lt).1 (follows (tagged false Definite (literal_at N q)) h.0) in
            elim h.1 [
              | inl none ↦
                  minus_either P (b.marked (tag_of false Definite) q) (attack_holds N b.marked q) below_q unsure
                  (either_first P s k l small small' (q ∷ []) (back N Opposing q) q (single_has q q refl) (unsupported (lt, none)))
              | inr rest ↦ elim rest [
                | inl attacked ↦
                    minus_now P (b.marked (tag_of false Definite) q) (attack_holds N b.marked q) below_q unsure
                    ((holds_exact q lt).1 (attacked.0, attacked.1, attacked.2, attacked.3, follows (tagged true Definite attacked.1) attacked.4))
                | inr defeated ↦
                    let r = any_to N numbered (Opposes N.theory (literal_at N q)) (back N Opposing q) (opposes_listing N numbered q lt) Unbeaten
                    (defeated.0, defeated.1, defeated.2, defeated.3, (defeated.4.0, (defeated.4.1, unbeaten_by (literal_at N q) defeated.1 defeated.4.0 defeated.4.2))) in
                    let o = (opposes_listing N numbered q lt).sound r.0 r.1 in
                    minus_either P (b.marked (tag_of false Definite) q) (attack_holds N b.marked q) below_q unsure
                    (either_second P s k l small small' (q ∷ []) (back N Opposing q) r.0 r.1 (unanswered r.0 o.1 (o.0, r.2)))
              ]
            ])

    -- from nodes: a literal whose inputs have their meaning meets its condition
    module _ (got : Tagged → Type 0) (P : ℕ → Type 0) (s k l : ℕ) (small : k < s) (small' : l < s) (q : ℕ) where
      abbrev under_q : List ℕ
      under_q = through s k (q ∷ []) ++ (through s l (back N Opposing q) ++ [])

      pub plus_sound : (q < length N.names → ReadsPrevailing N b (λ plus c. got (tagged plus Definite c)) q)
          → ((i : ℕ) → P (i * s + k) → IsSupported N got f i) → ((u : ℕ) → P (u * s + l) → IsAnswered N got f against u)
          → Passes P
          (below q (length N.names) (plus_gate (b.marked (tag_of true Definite) q) (attack_fails N b.marked q)))
          (through s k (q ∷ []) ++ (through s l (back N Opposing q) ++ [])) → (q < length N.names) × Condition N.theory got true f (literal_at N q)
      plus_sound reads supported answered h =
          let o = open_gate P (nat_lt q (length N.names)) (plus_gate (b.marked (tag_of true Definite) q) (attack_fails N b.marked q)) under_q h in
          let lt : q < length N.names = ltb-true q (length N.names) o.0 in (
            lt,
            elim (plus_cases P (b.marked (tag_of true Definite) q) (attack_fails N b.marked q) under_q o.1) [
              | inl now ↦ plus_meets got (literal_at N q) (inl ((reads lt).sure now))
              | inr every ↦
                  plus_meets got (literal_at N q) (inr (record {
                    supported = (supported q (every_first P s k l small small' (q ∷ []) (back N Opposing q) every.2 q (single_has q q refl))).1;
                    unopposed = (reads lt).fails every.0 every.1;
                    answered = λ j d inside o.
                        answered_for got (literal_at N q) (get_or N.theory.rules j d) o
                        (all_from N numbered (Opposes N.theory (literal_at N q)) (back N Opposing q) (opposes_listing N numbered q lt) (Answer got)
                        (λ u m. (answered u (every_second P s k l small small' (q ∷ []) (back N Opposing q) every.2 u m)).1) j d inside o);
                  }))
            ],
          )

      pub minus_sound : (q < length N.names → ReadsFailing N b (λ plus c. got (tagged plus Definite c)) q)
          → ((i : ℕ) → P (i * s + k) → IsUnsupported N got f i) → ((u : ℕ) → P (u * s + l) → IsUnanswered N got f against u)
          → Passes P
          (below q (length N.names) (minus_gate (b.marked (tag_of false Definite) q) (attack_holds N b.marked q)))
          (through s k (q ∷ []) ++ (through s l (back N Opposing q) ++ [])) → (q < length N.names) × Condition N.theory got false f (literal_at N q)
      minus_sound reads unsupported unanswered h =
          let o = open_gate P (nat_lt q (length N.names)) (minus_gate (b.marked (tag_of false Definite) q) (attack_holds N b.marked q)) under_q h in
          let lt : q < length N.names = ltb-true q (length N.names) o.0 in (
            lt,
            elim (minus_cases P (b.marked (tag_of false Definite) q) (attack_holds N b.marked q) under_q o.1) [
              | inl now ↦ minus_meets got (literal_at N q) ((reads lt).unsure now.0, inr (inl ((reads lt).holds now.1)))
              | inr either ↦
                  minus_meets got (literal_at N q) (
                    (reads lt).unsure either.0,
                    elim (either_of P s k l small small' (q ∷ []) (back N Opposing q) either.1) [
                      | inl m ↦ inl (unsupported q (subst (λ (v : ℕ). P (v * s + k)) (single m.0 q m.1) m.2)).1
                      | inr m ↦
                          let a = any_from N numbered (Opposes N.theory (literal_at N q)) (back N Opposing q) (opposes_listing N numbered q lt) (Unbeaten got) m.0 m.1 (unanswered m.0 m.2).1 in
                          inr (inr (a.0, a.1, a.2, a.3, (a.4.0, a.4.1.0, unbeaten_for got (literal_at N q) a.1 a.4.0 a.4.1.1)))
                    ],
                  )
            ],
          )
