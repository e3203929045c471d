-- The marks of the families of a table, written one family after the other.
use Rattle.std.proofs.Common.{◌≡◌, ℕ, zero, suc, ◌+◌, ◌*◌, ◌<◌, ◌≤◌, Bool, true, false, List, length, inl, inr, sym, subst, ap, refl, ◌∙◌, arith, true≢false}
use Rattle.std.specs.Prelude.{◌↔◌, All, Contains, IsTrue}
use Rattle.std.proofs.lemmas.Bool.{cases_eq}
use Rattle.std.proofs.lemmas.List.Elements.{All-weaker, All-contains}
use Rattle.dl_lit.specs.declared.literal.Family.{Family}
use Rattle.dl_lit.specs.declared.literal.Family.TheVariants.{Definite, Blocking, Propagating, Support}
use Rattle.dl_marks.specs.Marks.{Marking, places, marked, is_owned}
use Rattle.dl_graph.specs.Counting.{times}
use Rattle.dl_graph.specs.Region.{Numbers}
use Rattle.dl_graph.specs.Numbers.{NetLists, IsNumbered}
use Rattle.dl_fill.specs.declared.wire.Gate.{Gate}
use Rattle.dl_fill.specs.Before.{Before, tag_of, before_of}
use Rattle.dl_fill.specs.Counters.{CounterLists}
use Rattle.dl_fill.specs.Families.{FamilyTable, IsFilledBy, IsSound}
use Rattle.dl_fill.specs.Filled.{IsReady, IsFilled, IsRight, IsFamilyWritten, AreWritten, IsSolved, HasFired}
use Rattle.dl_fill.specs.Runs.{HasRun}
use Rattle.dl_fill.proofs.Gating.{known}
use Rattle.dl_fill.proofs.Written.{exact_of_right, exact_of_ready, times_contains, written_right, nodes_fit}

-- the order in which families are written
abbrev pub rank : Family → ℕ
rank Definite = 0
rank Blocking = 1
rank Propagating = 2
rank Support = 3

abbrev of_rank : ℕ → Family
of_rank zero = Definite
of_rank (suc zero) = Blocking
of_rank (suc (suc zero)) = Propagating
of_rank (suc (suc (suc _))) = Support

of_rank_is : (f : Family) → of_rank (rank f) ≡ f
of_rank_is Definite = refl
of_rank_is Blocking = refl
of_rank_is Propagating = refl
of_rank_is Support = refl

one_rank : (f g : Family) → rank f ≡ rank g → f ≡ g
one_rank f g e = sym (of_rank_is f) ∙ ap of_rank e ∙ of_rank_is g

few_ranks : (f : Family) → rank f < 4
few_ranks Definite = omega arith
few_ranks Blocking = omega arith
few_ranks Propagating = omega arith
few_ranks Support = omega arith

module _ (Fired : Family → Bool → ℕ → Type 0) (fills : Family → Bool) (members : List ℕ) (old : Marking) where
  -- the families that are filled, of the first ones in that order
  abbrev pub First : ℕ → Family → Type 0
  First k f = (rank f < k) × IsTrue (fills f)

  same_families : {P Q : Family → Type 0} (new : Marking) → ((f : Family) → P f → Q f) → ((f : Family) → Q f → P f) → AreWritten Fired P members old new
      → AreWritten Fired Q members old new
  same_families new more fewer h = record {
    within = λ f ours. h.within f (fewer f ours);
    out = λ f ours. h.out f (fewer f ours);
    others = λ f never. h.others f (λ ours. never (more f ours));
    places = h.places;
    owned = h.owned;
  }

  none_yet : AreWritten Fired (First 0) members old old
  none_yet = record {
    within = λ f ours. absurd (omega (arith, ours.0));
    out = λ f ours. absurd (omega (arith, ours.0));
    others = λ f never plus n. refl;
    places = refl;
    owned = λ n. refl;
  }

  module _ (f : Family) (mid : Marking) (before : AreWritten Fired (First (rank f)) members old mid) where
    pub next_absent : ((plus : Bool) → All (λ q. marked old (tag_of plus f) q ≡ false) members) → (plus : Bool) → All (λ q. marked mid (tag_of plus f) q ≡ false) members
    next_absent absent plus =
        All-weaker (λ q. marked old (tag_of plus f) q ≡ false) (λ q. marked mid (tag_of plus f) q ≡ false)
        (λ q e. before.others f (λ first. omega (arith, first.0)) plus q ∙ e) members (absent plus)

    pub next_owned : All (λ q. IsTrue (is_owned old q)) members → All (λ q. IsTrue (is_owned mid q)) members
    next_owned =
        All-weaker (λ q. IsTrue (is_owned old q)) (λ q. IsTrue (is_owned mid q)) (λ q h. before.owned q ∙ h) members

    module _ (new : Marking) where
      written_now : IsTrue (fills f) → IsFamilyWritten (Fired f) f members mid new → AreWritten Fired (First (rank f + 1)) members old new
      written_now ours_f w = record {
        within = λ g ours plus n m. elim (cases_eq (rank g) (rank f)) [
          | inl same ↦
              subst (λ (h : Family). (marked new (tag_of plus h) n ≡ true) ↔ Fired h plus n) (sym (one_rank g f same)) (w.within plus n m)
          | inr other ↦
              subst (λ (b : Bool). (b ≡ true) ↔ Fired g plus n) (sym (w.others g (λ e. other (ap rank e)) plus n))
              (before.within g (omega (arith, ours.0, other), ours.1) plus n m)
        ];
        out = λ g ours plus n never. elim (cases_eq (rank g) (rank f)) [
          | inl same ↦
              let e : g ≡ f = one_rank g f same in
              subst (λ (h : Family). marked new (tag_of plus h) n ≡ marked old (tag_of plus h) n) (sym e)
              (w.out plus n never ∙ before.others f (λ first. omega (arith, first.0)) plus n)
          | inr other ↦
              w.others g (λ e. other (ap rank e)) plus n ∙ before.out g (omega (arith, ours.0, other), ours.1) plus n never
        ];
        others = λ g never plus n.
            w.others g (λ e. never (omega (arith, ap rank e), subst (λ (h : Family). IsTrue (fills h)) (sym e) ours_f)) plus n
            ∙ before.others g (λ first. never (omega (arith, first.0), first.1)) plus n;
        places = w.places ∙ before.places;
        owned = λ n. w.owned n ∙ before.owned n;
      }

      not_this : fills f ≡ false → (g : Family) → First (rank f + 1) g → First (rank f) g
      not_this never g ours = elim (cases_eq (rank g) (rank f)) [
        | inl same ↦ absurd (true≢false (sym ours.1 ∙ ap fills (one_rank g f same) ∙ never))
        | inr other ↦ (omega (arith, ours.0, other), ours.1)
      ]

      next_written : (IsTrue (fills f) → IsFamilyWritten (Fired f) f members mid new) → (fills f ≡ false → new ≡ mid)
          → AreWritten Fired (First (rank f + 1)) members old new
      next_written written kept = elim (known (fills f)) [
        | inl filled ↦ written_now filled (written filled)
        | inr never ↦
            subst (λ (m : Marking). AreWritten Fired (First (rank f + 1)) members old m) (sym (kept never))
            (same_families mid (λ g first. (omega (arith, first.0), first.1)) (not_this never) before)
      ]

  all_written_now : (new : Marking) → AreWritten Fired (First 4) members old new → AreWritten Fired (λ f. IsTrue (fills f)) members old new
  all_written_now new = same_families new (λ f first. first.1) (λ f fills. (few_ranks f, fills))

  -- a family was written, if it is one that is filled
  abbrev pub Wrote : Family → Marking → Marking → Type 0
  Wrote f mid new = (IsTrue (fills f) → IsFamilyWritten (Fired f) f members mid new) × (fills f ≡ false → new ≡ mid)

  module _ (one : Marking) (definite : Wrote Definite old one) where
    pub after_one : AreWritten Fired (First 1) members old one
    after_one = next_written Definite old none_yet one definite.0 definite.1

    module _ (two : Marking) (blocking : Wrote Blocking one two) where
      pub after_two : AreWritten Fired (First 2) members old two
      after_two = next_written Blocking one after_one two blocking.0 blocking.1

      module _ (three : Marking) (propagating : Wrote Propagating two three) where
        pub after_three : AreWritten Fired (First 3) members old three
        after_three = next_written Propagating two after_two three propagating.0 propagating.1

        pub after_all : (new : Marking) → Wrote Support three new → AreWritten Fired (λ f. IsTrue (fills f)) members old new
        after_all new support = all_written_now new (next_written Support three after_three new support.0 support.1)

-- solved families that are written are filled
pub families_filled : (N : NetLists) (Ours : Family → Type 0) (region : Numbers) (Fired : Family → Bool → ℕ → Type 0) (old new : Marking)
    → IsReady N Ours old region → All (λ q. q < region.bound) region.members → ((f : Family) → Ours f → IsSolved N region.members (Fired f) f)
    → AreWritten Fired Ours region.members old new → IsFilled N Ours old new
families_filled N Ours region Fired old new ready below solved written = record {
  right = λ f ours.
      written_right N Ours f ours region (Fired f) old new ready below (solved f ours) (written.within f ours) (written.out f ours) written.places;
  others = written.others;
  places = written.places;
  owned = written.owned;
}

module _ (t : FamilyTable) (gate : NetLists → Before → ℕ → ℕ → Gate) (sound : IsSound t gate) where
  -- the nodes of a family have a place
  pub family_fits : (places need bound : ℕ) (members : List ℕ) → All (λ q. q < bound) members → bound ≤ places → need ≡ places * t.width
      → (f : Family) → IsFilledBy t f → (plus : Bool) → All (λ q. q * t.width + t.kind f plus < need) members
  family_fits places need bound members below fits size f filled plus =
      nodes_fit t.width (t.kind f plus) places need bound members (sound.kinds f filled plus) below fits size

  -- a run solves the families
  module _ (N : NetLists) (numbered : IsNumbered N) (m : Marking) (region : Numbers) (rules : List ℕ) (w : CounterLists)
      (run : HasRun N (before_of m region) region.members t.width t.literals t.wires (gate N (before_of m region)) rules w)
      (places : ℕ) (size : length w.need ≡ places * t.width) (names_fit : length N.names ≤ places) (rules_fit : length N.rules ≤ places)
      (below : All (λ q. q < region.bound) region.members) (ready : IsReady N (IsFilledBy t) m region)
      (right : (f : Family) → Contains t.below f → IsRight N m f) where
    within : (q : ℕ) → 0 < times q region.members → q < length N.names
    within q h = omega (arith, All-contains (λ n. n < region.bound) region.members q below (times_contains q region.members h), ready.bound)

    pub run_solves : (f : Family) → IsFilledBy t f → IsSolved N region.members (HasFired t.width (t.kind f) w) f
    run_solves =
        sound.solves N numbered m region (λ f is_below. exact_of_right N m region f ready.room (right f is_below))
        (λ f filled. exact_of_ready N (IsFilledBy t) m region f filled ready) within rules w run places size names_fit rules_fit
