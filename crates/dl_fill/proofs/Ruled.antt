-- The nodes of a literal that some rule for it concludes, and that is refuted where each rule for it fails.
use Rattle.std.proofs.Common.{◌≡◌, ℕ, ◌+◌, ◌*◌, ◌<◌, Bool, true, false, List, [], ◌++◌, length, inl, inr, ◌⊎◌, sym, refl, true≢false}
use Rattle.std.specs.Prelude.{All, Any, nat_lt}
use Rattle.std.proofs.lemmas.Bool.{ltb-true, lt-ltb}
use Rattle.dl_lit.specs.declared.literal.Tagged.{Tagged}
use Rattle.dl_lit.specs.declared.literal.Literal.{Literal}
use Rattle.dl_theory.specs.declared.rule.Rule.{Rule}
use Rattle.dl_graph.specs.Counting.{times}
use Rattle.dl_graph.specs.Numbers.{NetLists, IsNumbered, HasRule, literal_at, rule_at, back}
use Rattle.dl_graph.specs.declared.link.Link.{Link}
use Rattle.dl_fill.specs.Before.{some_gate, each_gate}
use Rattle.dl_fill.specs.Wires.{through}
use Rattle.dl_fill.specs.Gates.{Passes}
use Rattle.dl_fill.proofs.Links.{IsListing}
use Rattle.dl_fill.proofs.Gating.{open_gate, close_gate, below, some_sound, some_passes, each_sound, each_passes}

some_cases : (P : ℕ → Type 0) (s : Bool) (xs : List ℕ) → Passes P (some_gate s) xs → (s ≡ true) ⊎ ((x : ℕ) × (0 < times x xs) × P x)
some_cases P true xs h = inl refl
some_cases P false xs h = inr h

each_cases : (P : ℕ → Type 0) (m : Bool) (xs : List ℕ) → Passes P (each_gate m) xs → (m ≡ true) × ((x : ℕ) → 0 < times x xs → P x)
each_cases P true xs h = (refl, h)
each_cases P false xs h = absurd h

some_now : (P : ℕ → Type 0) (s : Bool) (xs : List ℕ) → s ≡ true → Passes P (some_gate s) xs
some_now P true xs e = tt
some_now P false xs e = absurd (true≢false (sym e))

some_either : (P : ℕ → Type 0) (s : Bool) (xs : List ℕ) → (x : ℕ) × (0 < times x xs) × P x → Passes P (some_gate s) xs
some_either P true xs h = tt
some_either P false xs h = h

each_every : (P : ℕ → Type 0) (m : Bool) (xs : List ℕ) → m ≡ true → ((x : ℕ) → 0 < times x xs → P x) → Passes P (each_gate m) xs
each_every P true xs e h = h
each_every P false xs e h = absurd (true≢false (sym e))

-- R leads from the rules to the literal, and Q is what a rule does
module _ (N : NetLists) (numbered : IsNumbered N) (got : Tagged → Type 0) (P : ℕ → Type 0) (s k : ℕ)
    (small : k < s) (R : Literal → Rule → Type 0) (link : Link) (listing : (q : ℕ) → q < length N.names → IsListing N (R (literal_at N q)) (back N link q))
    (Q : Rule → Type 0) (q : ℕ) where
  abbrev below_q : List ℕ
  below_q = through s k (back N link q) ++ []

  module _ (surely : Bool) where
    -- C is what the literal's node stands for
    pub concluded_sound : (C : Type 0) → (q < length N.names → surely ≡ true → C)
        → (Any (λ r. R (literal_at N q) r × Q r) N.theory.rules → C)
        → ((i : ℕ) → P (i * s + k) → HasRule N i × Q (rule_at N i))
        → Passes P (below q (length N.names) (some_gate surely)) (through s k (back N link q) ++ []) → (q < length N.names) × C
    concluded_sound C sure by_rule into h =
        let o = open_gate P (nat_lt q (length N.names)) (some_gate surely) below_q h in
        let lt : q < length N.names = ltb-true q (length N.names) o.0 in (
          lt,
          elim (some_cases P surely below_q o.1) [
            | inl e ↦ sure lt e
            | inr some ↦ by_rule (some_sound N numbered got P s (R (literal_at N q)) (back N link q) (listing q lt) Q k small into some)
          ],
        )

    pub concluded_passes : q < length N.names → (surely ≡ true) ⊎ Any (λ r. R (literal_at N q) r × Q r) N.theory.rules
        → ((r : ℕ) → R (literal_at N q) (rule_at N r) → HasRule N r × Q (rule_at N r) → P (r * s + k))
        → Passes P (below q (length N.names) (some_gate surely)) (through s k (back N link q) ++ [])
    concluded_passes lt h from =
        close_gate P (nat_lt q (length N.names)) (some_gate surely) below_q (lt-ltb q (length N.names) lt)
        (elim h [
          | inl e ↦ some_now P surely below_q e
          | inr some ↦ some_either P surely below_q (some_passes N numbered got P s (R (literal_at N q)) (back N link q) (listing q lt) Q k small some from)
        ])

  module _ (may : Bool) where
    pub refuted_sound : (C : Type 0) → (q < length N.names → may ≡ true → All (λ r. R (literal_at N q) r → Q r) N.theory.rules → C)
        → ((i : ℕ) → P (i * s + k) → HasRule N i × Q (rule_at N i))
        → Passes P (below q (length N.names) (each_gate may)) (through s k (back N link q) ++ []) → (q < length N.names) × C
    refuted_sound C by_rules into h =
        let o = open_gate P (nat_lt q (length N.names)) (each_gate may) below_q h in
        let lt : q < length N.names = ltb-true q (length N.names) o.0 in
        let each = each_cases P may below_q o.1 in
        (lt, by_rules lt each.0 (each_sound N numbered got P s (R (literal_at N q)) (back N link q) (listing q lt) Q k small into each.1))

    pub refuted_passes : q < length N.names → may ≡ true → All (λ r. R (literal_at N q) r → Q r) N.theory.rules
        → ((r : ℕ) → R (literal_at N q) (rule_at N r) → HasRule N r × Q (rule_at N r) → P (r * s + k))
        → Passes P (below q (length N.names) (each_gate may)) (through s k (back N link q) ++ [])
    refuted_passes lt allowed h from =
        close_gate P (nat_lt q (length N.names)) (each_gate may) below_q (lt-ltb q (length N.names) lt)
        (each_every P may below_q allowed (each_passes N numbered got P s (R (literal_at N q)) (back N link q) (listing q lt) Q k small h from))
