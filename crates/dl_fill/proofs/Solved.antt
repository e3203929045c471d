-- In the families that are filled exactly what follows fires in the region, where what has fired has its tag and what meets its
-- condition fires.
use Rattle.std.proofs.Common.{◌≡◌, ℕ, ◌+◌, ◌*◌, ◌<◌, Bool, true, false, List, [], ◌∷◌, length, sym, subst, refl, arith}
use Rattle.std.specs.Prelude.{All, Contains}
use Rattle.std.proofs.lemmas.List.Elements.{Contains-get_or, All-nil, All-cons, All-contains}
use Rattle.dl_base.proofs.Members.{only}
use Rattle.dl_lit.specs.declared.literal.Literal.{Literal}
use Rattle.dl_lit.specs.declared.literal.Tagged.{Tagged}
use Rattle.dl_lit.specs.declared.literal.Family.{Family}
use Rattle.dl_lit.specs.declared.literal.Family.TheVariants.{Definite, Blocking, Propagating, Support}
use Rattle.dl_lit.specs.Literal.{tagged}
use Rattle.dl_theory.specs.Conditions.{Condition}
use Rattle.dl_theory.specs.Derivations.{Follows}
use Rattle.dl_theory.specs.Verdicts.{needs}
use Rattle.dl_theory.proofs.Needs.{needs_itself}
use Rattle.dl_theory.proofs.Closure.{follows_step, saturated_has}
use Rattle.dl_graph.specs.Counting.{times}
use Rattle.dl_graph.specs.Numbers.{NetLists, IsNumbered, no_literal, literal_at, number}
use Rattle.dl_fill.specs.Counters.{CounterLists}
use Rattle.dl_fill.specs.Before.{is_inside}
use Rattle.dl_fill.specs.Meanings.{HasTag}
use Rattle.dl_fill.specs.Filled.{HasFired, IsSolved}
use Rattle.dl_fill.proofs.Links.{number_finds, number_inside}
use Rattle.dl_fill.proofs.Exact.{names_closed}
use Rattle.dl_fill.proofs.Written.{inside_decides, contains_times}

pub needs_definite : (f : Family) → Contains (needs f) Definite
needs_definite Definite = (0, omega arith, refl)
needs_definite Blocking = (0, omega arith, refl)
needs_definite Propagating = (0, omega arith, refl)
needs_definite Support = (0, omega arith, refl)

sure_needs : (f h : Family) → Contains (needs Definite) h → Contains (needs f) h
sure_needs f h n = subst (Contains (needs f)) (sym (only Definite h n)) (needs_definite f)

-- what matters for a family matters for those for which that matters
abbrev Into : Family → Family → Type 0
Into f g = (h : Family) → Contains (needs g) h → Contains (needs f) h

into_needs : (f : Family) → All (Into f) (needs f)
into_needs Definite = All-cons (Into Definite) Definite [] (λ h n. n) (All-nil (Into Definite))
into_needs Blocking =
    All-cons (Into Blocking) Definite (Blocking ∷ []) (sure_needs Blocking) (All-cons (Into Blocking) Blocking [] (λ h n. n) (All-nil (Into Blocking)))
into_needs Propagating =
    All-cons (Into Propagating) Definite (Propagating ∷ Support ∷ []) (sure_needs Propagating)
    (All-cons (Into Propagating) Propagating (Support ∷ []) (λ h n. n) (All-cons (Into Propagating) Support [] (λ h n. n) (All-nil (Into Propagating))))
into_needs Support =
    All-cons (Into Support) Definite (Propagating ∷ Support ∷ []) (sure_needs Support)
    (All-cons (Into Support) Propagating (Support ∷ []) (λ h n. n) (All-cons (Into Support) Support [] (λ h n. n) (All-nil (Into Support))))

pub needs_all : (f g h : Family) → Contains (needs g) h → Contains (needs f) g → Contains (needs f) h
needs_all f g h m d = All-contains (Into f) (needs f) g (into_needs f) d h m

-- the nodes of a filled family's literals are of its kinds
module _ (N : NetLists) (numbered : IsNumbered N) (members : List ℕ) (s : ℕ) (filled : Family → Bool) (kind : Family → Bool → ℕ) (w : CounterLists) where
  -- what follows counts as derived, and of a family that is filled its node has fired at the members of the region
  abbrev pub GotWhen : Bool → Family → Bool → Literal → Type 0
  GotWhen true f p q = Follows N.theory (tagged p f q) × (is_inside members (number N q) ≡ true → 0 < times (number N q * s + kind f p) w.queue)
  GotWhen false f p q = Follows N.theory (tagged p f q)

  abbrev pub Got : Tagged → Type 0
  Got x = GotWhen (filled x.family) x.family x.plus x.literal

  got_follows : (b : Bool) (f : Family) (p : Bool) (q : Literal) → GotWhen b f p q → Follows N.theory (tagged p f q)
  got_follows true f p q h = h.0
  got_follows false f p q h = h

  pub follows : (y : Tagged) → Got y → Follows N.theory y
  follows y h = got_follows (filled y.family) y.family y.plus y.literal h

  -- what is got at a member has fired
  pub fired : (f : Family) → filled f ≡ true → (p : Bool) (q : ℕ) → is_inside members q ≡ true → HasTag N Got p f q → HasFired s (kind f) w p q
  fired f e p q here h =
      subst (λ (v : ℕ). 0 < times (v * s + kind f p) w.queue) (numbered.distinct q h.0)
      ((subst (λ (b : Bool). GotWhen b f p (literal_at N q)) e h.1).1 (subst (λ (v : ℕ). is_inside members v ≡ true) (sym (numbered.distinct q h.0)) here))

  module _ (within : (q : ℕ) → 0 < times q members → q < length N.names)
      (means : (f : Family) → filled f ≡ true → (p : Bool) (q : ℕ) → HasFired s (kind f) w p q → HasTag N (Follows N.theory) p f q)
      (saturates : (f : Family) → filled f ≡ true → (p : Bool) (q : ℕ) → is_inside members q ≡ true → q < length N.names → Condition N.theory Got p f (literal_at N q)
      → HasFired s (kind f) w p q) where
    saturated : (f : Family) (b : Bool) → filled f ≡ b → (p : Bool) (q : Literal) → Contains N.names q → Condition N.theory Got p f q → GotWhen b f p q
    saturated f true e p q m h = (
      follows_step N.theory Got follows (tagged p f q) h,
      λ here.
          saturates f e p (number N q) here (number_inside N numbered q m)
          (subst (λ (x : Literal). Condition N.theory Got p f x) (sym (number_finds N numbered q m)) h),
    )
    saturated f false e p q m h = follows_step N.theory Got follows (tagged p f q) h

    pub solved : (f : Family) → filled f ≡ true → IsSolved N members (HasFired s (kind f) w) f
    solved f e p q m =
        let lt = within q (contains_times q members m) in (
          λ h. (means f e p q h).1,
          λ h.
              fired f e p q ((inside_decides members q).1 m) (
                lt,
                saturated_has N.theory (Contains (needs f)) (Contains N.names) (names_closed N numbered (Contains (needs f)) (λ g h n d. needs_all f g h n d)) Got
                    (λ x fam inside meets. saturated x.family (filled x.family) refl x.plus x.literal inside meets)
                    (tagged p f (literal_at N q)) h (needs_itself f) (Contains-get_or N.names q no_literal lt),
              ),
        )
