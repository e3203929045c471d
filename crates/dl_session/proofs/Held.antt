-- Which editions are held after more entries, and that the table has them.
use Rattle.std.proofs.Common.{◌≡◌, ◌≢◌, ℕ, eqb, true, false, List, [], ◌∷◌, ◌++◌, Some, None, Option, MatchOption, slice_get, sym, subst, inl, inr}
use Rattle.std.specs.Prelude.{◌⊎◌}
use Rattle.std.proofs.lemmas.Bool.Decides.{eqb_tells}
use Rattle.dl_theory.specs.Lists.{TheoryLists}
use Rattle.dl_turn.specs.History.{StartsWith}
use Rattle.dl_calls.specs.declared.reply.Reply.TheVariants as reply
use Rattle.dl_calls.specs.declared.entry.Entry.{Entry}
use Rattle.dl_edition.specs.Editions.{EditionLists}
use Rattle.dl_edition.specs.Offices.{SeatLists}
use Rattle.dl_session.specs.Answering.{HoldsNone}
use Rattle.dl_session.specs.Replies.{IsHeld}
use Rattle.dl_session.specs.Seats.{editions_of}
use Rattle.dl_session.specs.Table.{theory_in, Gains, Keeps}
use Rattle.dl_session.proofs.Lists.{get_more, any_none, any_one, of_one, any_front, any_behind, any_either}

abbrev Holds : ℕ → Entry → Type 0
Holds n e = e.reply ≡ reply.Holding n

-- what a table says of one number
abbrev At : SeatLists → List Entry → ℕ → Option TheoryLists → Type 0
At v entries n found = MatchOption found (IsHeld entries n → ⊥) (λ T. IsHeld entries n × (slice_get (editions_of v) n ≡ Some T))

-- nothing is held at first
pub keeps_none : (v : SeatLists) → Keeps v [] []
keeps_none v n h = any_none (Holds n) h

at_more : (old new : SeatLists) (before used : List Entry) (n : ℕ) (found : Option TheoryLists) → StartsWith (editions_of new) (editions_of old) → (IsHeld used n → ⊥)
    → At old before n found → At new (before ++ used) n found
at_more old new before used n None editions none h = λ held. either (any_either (Holds n) before used held)
  where
    either : IsHeld before n ⊎ IsHeld used n → ⊥
    either (inl there) = h there
    either (inr here) = none here
at_more old new before used n (Some T) editions none h = (any_front (Holds n) before used h.0, get_more (editions_of old) (editions_of new) n T editions h.1)

-- entries that hold nothing leave the table as it is
pub keeps_more : (old new : SeatLists) (before used : List Entry) (l : List EditionLists) → StartsWith (editions_of new) (editions_of old) → ((n : ℕ) → IsHeld used n → ⊥)
    → Keeps old before l → Keeps new (before ++ used) l
keeps_more old new before used l editions none keeps n = at_more old new before used n (theory_in l n) editions (none n) (keeps n)

pub no_entry_holds : (n : ℕ) → IsHeld [] n → ⊥
no_entry_holds n h = any_none (Holds n) h

pub entry_holds_none : (e : Entry) → HoldsNone e.reply → (n : ℕ) → IsHeld (e ∷ []) n → ⊥
entry_holds_none e none n h = none n (of_one (Holds n) e h)

-- an edition that was handed out is kept
pub keeps_gain : (old new : SeatLists) (before : List Entry) (e : Entry) (l more : List EditionLists) (n : ℕ) (T : TheoryLists)
    → StartsWith (editions_of new) (editions_of old) → e.reply ≡ reply.Holding n → Gains l more (record { number = n; theory = T }) → slice_get (editions_of new) n ≡ Some T
    → Keeps old before l → Keeps new (before ++ e ∷ []) more
keeps_gain old new before e l more n T editions holding gains there keeps q = by (eqb_tells q n)
  where
    by : ((eqb q n ≡ true) × (q ≡ n)) ⊎ ((eqb q n ≡ false) × (q ≢ n)) → At new (before ++ e ∷ []) q (theory_in more q)
    by (inl (test, same)) = subst (λ (k : ℕ). At new (before ++ e ∷ []) k (theory_in more k)) (sym same)
        (subst (λ (found : Option TheoryLists). At new (before ++ e ∷ []) n found) (sym gains.there)
        (any_behind (Holds n) before (e ∷ []) (any_one (Holds n) e holding), there))
    by (inr (test, differs)) =
        let other : (k : ℕ) → IsHeld (e ∷ []) q → ⊥ = λ k held. differs (let h : e.reply ≡ reply.Holding q = of_one (Holds q) e held in cc) in
        subst (λ (found : Option TheoryLists). At new (before ++ e ∷ []) q found) (sym (gains.others q differs))
        (at_more old new before (e ∷ []) q (theory_in l q) editions (other 0) (keeps q))
