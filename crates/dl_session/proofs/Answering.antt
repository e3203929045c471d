-- How the replies of calls and what editions tell become the reply to a request.
use Rattle.std.proofs.Common.{◌≡◌, ℕ, List, [], ◌++◌, Some, None, Option, MatchOption, IsSome, Result, Ok, Err, IfOk, slice_get, rules, refl, sym, ap, subst, inl, inr, ◌∙◌, append-nil}
use Rattle.dl_theory.specs.Lists.{TheoryLists}
use Rattle.dl_calls.specs.declared.call.Call.{Call}
use Rattle.dl_calls.specs.declared.call.Call.TheVariants as call
use Rattle.dl_calls.specs.declared.reply.Reply.{Reply}
use Rattle.dl_calls.specs.declared.reply.Reply.TheVariants as reply
use Rattle.dl_calls.specs.declared.entry.Entry.{Entry}
use Rattle.dl_calls.specs.Text.{reply_text}
use Rattle.dl_edition.specs.Editions.{EditionLists}
use Rattle.dl_edition.specs.Offices.{SeatLists, IsCall}
use Rattle.dl_request.specs.declared.request.Request.{Request}
use Rattle.dl_session.specs.declared.calls.Outcome.{Outcome}
use Rattle.dl_session.specs.declared.calls.Outcome.TheVariants.{Kept, Unpublished, Memory}
use Rattle.dl_session.specs.declared.query.Query.{Query}
use Rattle.dl_session.specs.Answering.{made_reply, hold_reply, made_text, IsEntry, Makes, HoldsNone, HoldsBy, TellsOf, TellsFound, Answers}
use Rattle.dl_session.specs.Replies.{IsHeld, Calls, Tells, TellsBy, Queries, Requests}
use Rattle.dl_session.specs.Seats.{editions_of}
use Rattle.dl_session.specs.Table.{theory_in, Gains, Keeps}
use Rattle.dl_session.specs.Text.{line_of}
use Rattle.dl_session.proofs.Held.{keeps_more, no_entry_holds, entry_holds_none, keeps_gain}
use Rattle.dl_session.proofs.Seats.{stays_put, made}

-- a right reply, by another way to say so
pub answers_by : (R Q : List TheoryLists → List Entry → List ℕ → Type 0) (old new : SeatLists) (before : List Entry) (l : List EditionLists) (bytes : List ℕ)
    → ((S : List TheoryLists) (used : List Entry) → R S used bytes → Q S used bytes) → Answers R old new before l bytes → Answers Q old new before l bytes
answers_by R Q old new before l bytes step answers = record {
  used = answers.used;
  advances = answers.advances;
  keeps = answers.keeps;
  right = step (editions_of new) answers.used answers.right;
}

-- a reply without a call
pub answers_alone : (R : List TheoryLists → List Entry → List ℕ → Type 0) (v : SeatLists) (before : List Entry) (l : List EditionLists) (bytes : List ℕ)
    → v.out ≡ None → Keeps v before l → R (editions_of v) [] bytes → Answers R v v before l bytes
answers_alone R v before l bytes within keeps right = record {
  used = [];
  advances = stays_put v within;
  keeps = subst (λ (entries : List Entry). Keeps v entries l) (sym (append-nil before)) keeps;
  right = right;
}

calls_by : (c : Call) (r : Option Reply) (used : List Entry) → IsEntry c r used → Calls c used (made_text r)
calls_by c None used none = inr (none, refl)
calls_by c (Some r) used (e, one, called, replied) = inl (e, one, called, ap (λ (x : Reply). line_of (reply_text x)) (sym replied))

-- a reply that hands no edition out
abbrev pub GivesNone : Option Reply → Type 0
GivesNone None = Unit {0}
GivesNone (Some r) = HoldsNone r

used_holds_none : (c : Call) (r : Option Reply) (used : List Entry) → GivesNone r → IsEntry c r used → (n : ℕ) → IsHeld used n → ⊥
used_holds_none c None used none entry n h = no_entry_holds n (subst (λ (es : List Entry). IsHeld es n) entry h)
used_holds_none c (Some r) used none (e, one, called, replied) n h =
    entry_holds_none e (λ k holding. none k (sym replied ∙ holding)) n (subst (λ (es : List Entry). IsHeld es n) one h)

keeps_made : (old new : SeatLists) (c : Call) (r : Option Reply) (before : List Entry) (l : List EditionLists) (makes : Makes old new c r) → GivesNone r → Keeps old before l
    → Keeps new (before ++ makes.used) l
keeps_made old new c r before l makes none keeps =
    keeps_more old new before makes.used l makes.advances.editions (used_holds_none c r makes.used none makes.entry) keeps

-- a call other than a hold
pub answers_call : (old new : SeatLists) (c : Call) (r : Option Reply) (before : List Entry) (l : List EditionLists) → Makes old new c r → GivesNone r → Keeps old before l
    → Answers (λ S used bytes. Calls c used bytes) old new before l (made_text r)
answers_call old new c r before l makes none keeps = record {
  used = makes.used;
  advances = makes.advances;
  keeps = keeps_made old new c r before l makes none keeps;
  right = calls_by c r makes.used makes.entry;
}

-- the table after a hold
keeps_hold : (old new : SeatLists) (n : ℕ) (hold : Outcome) (before : List Entry) (l more : List EditionLists) (makes : Makes old new (call.Hold n) (hold_reply n hold))
    → HoldsBy new n l more hold → Keeps old before l → Keeps new (before ++ makes.used) more
keeps_hold old new n Kept before l more makes (T, gains, there) keeps =
    let entry = makes.entry in
    subst (λ (es : List Entry). Keeps new (before ++ es) more) (sym entry.1)
    (keeps_gain old new before entry.0 l more n T makes.advances.editions entry.3 gains there keeps)
keeps_hold old new n (Unpublished asked published) before l more makes same keeps =
    subst (λ (t : List EditionLists). Keeps new (before ++ makes.used) t) (sym same)
    (keeps_made old new (call.Hold n) (Some (reply.Unpublished asked published)) before l makes (λ k e. absurd (cc)) keeps)
keeps_hold old new n Memory before l more makes same keeps =
    subst (λ (t : List EditionLists). Keeps new (before ++ makes.used) t) (sym same) (keeps_made old new (call.Hold n) None before l makes tt keeps)

-- a hold
pub answers_hold : (old new : SeatLists) (n : ℕ) (hold : Outcome) (before : List Entry) (l more : List EditionLists) → Makes old new (call.Hold n) (hold_reply n hold)
    → HoldsBy new n l more hold → Keeps old before l → Answers (λ S used bytes. Calls (call.Hold n) used bytes) old new before more (made_text (hold_reply n hold))
answers_hold old new n hold before l more makes holds keeps = record {
  used = makes.used;
  advances = makes.advances;
  keeps = keeps_hold old new n hold before l more makes holds keeps;
  right = calls_by (call.Hold n) (hold_reply n hold) makes.used makes.entry;
}

tells_at : (S : List TheoryLists) (n : ℕ) (x : Query) (T : TheoryLists) (bytes : List ℕ) → slice_get S n ≡ Some T → TellsOf T x bytes → Tells S n x bytes
tells_at S n x T bytes there (inl text) = inl (T, there, text)
tells_at S n x T bytes there (inr memory) = inr memory

held_in : (v : SeatLists) (before : List Entry) (l : List EditionLists) (n : ℕ) (T : TheoryLists) → theory_in l n ≡ Some T → Keeps v before l → IsHeld before n × (slice_get (editions_of v) n ≡ Some T)
held_in v before l n T found keeps =
    let P : Option TheoryLists → Type 0 = λ found. MatchOption found (IsHeld before n → ⊥) (λ T. IsHeld before n × (slice_get (editions_of v) n ≡ Some T)) in
    subst P found (keeps n)

none_in : (v : SeatLists) (before : List Entry) (l : List EditionLists) (n : ℕ) → theory_in l n ≡ None → Keeps v before l → IsHeld before n → ⊥
none_in v before l n missing keeps =
    let P : Option TheoryLists → Type 0 = λ found. MatchOption found (IsHeld before n → ⊥) (λ T. IsHeld before n × (slice_get (editions_of v) n ≡ Some T)) in
    subst P missing (keeps n)

module _ (n : ℕ) (x : Query) (before : List Entry) (l : List EditionLists) where
  -- a question about an edition that is held
  pub asks_held : (v : SeatLists) (T : TheoryLists) (bytes : List ℕ) → v.out ≡ None → theory_in l n ≡ Some T → TellsOf T x bytes → Keeps v before l
      → Answers (λ S used bytes. Queries S before n x used bytes) v v before l bytes
  asks_held v T bytes within found tells keeps =
      let held = held_in v before l n T found keeps in
      answers_alone (λ S used bytes. Queries S before n x used bytes) v before l bytes within keeps
      (inr (inl (held.0, refl, tells_at (editions_of v) n x T bytes held.1 tells)))

  -- one that is held for the question
  pub asks_kept : (old new : SeatLists) (more : List EditionLists) (bytes : List ℕ) → theory_in l n ≡ None → Makes old new (call.Hold n) (hold_reply n Kept)
      → HoldsBy new n l more Kept → TellsFound (theory_in more n) x bytes → Keeps old before l → Answers (λ S used bytes. Queries S before n x used bytes) old new before more bytes
  asks_kept old new more bytes missing makes holds tells keeps =
      let entry = makes.entry in
      let told : TellsOf holds.0 x bytes = subst (λ (found : Option TheoryLists). TellsFound found x bytes) holds.1.there tells in
      let tells_new = tells_at (editions_of new) n x holds.0 bytes holds.2 told in
      record {
        used = makes.used;
        advances = makes.advances;
        keeps = keeps_hold old new n Kept before l more makes holds keeps;
        right = inr (inr (none_in old before l n missing keeps, (entry.0, entry.1, entry.2, by_reply (editions_of new) entry.0.reply bytes entry.3 tells_new)));
      }
    where
      by_reply : (S : List TheoryLists) (r : Reply) (bytes : List ℕ) → r ≡ reply.Holding n → Tells S n x bytes → TellsBy S n x r bytes
      by_reply S r bytes holding tells = subst (λ (q : Reply). TellsBy S n x q bytes) (sym holding) (refl, tells)

  -- one that is not there
  pub asks_unpublished : (old new : SeatLists) (more : List EditionLists) (asked published : ℕ) → theory_in l n ≡ None → Makes old new (call.Hold n) (hold_reply n (Unpublished asked published))
      → HoldsBy new n l more (Unpublished asked published) → Keeps old before l
      → Answers (λ S used bytes. Queries S before n x used bytes) old new before more (made_text (hold_reply n (Unpublished asked published)))
  asks_unpublished old new more asked published missing makes holds keeps =
      let entry = makes.entry in
      let text : List ℕ = line_of (reply_text (reply.Unpublished asked published)) in
      record {
        used = makes.used;
        advances = makes.advances;
        keeps = keeps_hold old new n (Unpublished asked published) before l more makes holds keeps;
        right = inr (inr (none_in old before l n missing keeps, (entry.0, entry.1, entry.2, subst (λ (q : Reply). TellsBy (editions_of new) n x q text) (sym entry.3) refl)));
      }

  -- no memory for the hold
  pub asks_in_vain : (old new : SeatLists) (more : List EditionLists) → Makes old new (call.Hold n) (hold_reply n Memory) → HoldsBy new n l more Memory → Keeps old before l
      → Answers (λ S used bytes. Queries S before n x used bytes) old new before more (made_text (hold_reply n Memory))
  asks_in_vain old new more makes holds keeps = record {
    used = makes.used;
    advances = makes.advances;
    keeps = keeps_hold old new n Memory before l more makes holds keeps;
    right = inl (makes.entry, refl);
  }

-- a hold that was answered with an edition
pub held_made : (old new : SeatLists) (n : ℕ) (held : EditionLists) → IsCall old new (call.Hold n) (Some (reply.Holding held.number)) → held.number ≡ n → Makes old new (call.Hold n) (hold_reply n Kept)
held_made old new n held called same = made old new (call.Hold n) (Some (reply.Holding n)) (subst (λ (k : ℕ). IsCall old new (call.Hold n) (Some (reply.Holding k))) same called)

pub held_kept : (v : SeatLists) (n : ℕ) (old mid new : List EditionLists) (held : EditionLists) → mid ≡ old → Gains mid new held → held.number ≡ n → slice_get (editions_of v) n ≡ Some held.theory
    → HoldsBy v n old new Kept
held_kept v n old mid new held same gains number there = (
  held.theory,
  record {
    there = subst (λ (k : ℕ). theory_in new k ≡ Some held.theory) number gains.there;
    others = λ k differs. gains.others k (λ e. differs (e ∙ number)) ∙ ap (λ (l : List EditionLists). theory_in l k) same;
  },
  there,
)

-- a request that is this one, with this text
pub requests_as : (old new : SeatLists) (before : List Entry) (l : List EditionLists) (request r : Request) (bytes text : List ℕ) → request ≡ r → bytes ≡ text
    → Answers (λ S used reply. Requests S before r used reply) old new before l text → Answers (λ S used reply. Requests S before request used reply) old new before l bytes
requests_as old new before l request r bytes text same written answers =
    subst (λ (q : Request). Answers (λ S used reply. Requests S before q used reply) old new before l bytes) (sym same)
    (subst (λ (b : List ℕ). Answers (λ S used reply. Requests S before r used reply) old new before l b) (sym written) answers)

-- an edition that was gained is there
pub kept_some : (old new : List EditionLists) (x : EditionLists) → Gains old new x → IsSome (theory_in new x.number)
kept_some old new x gains = subst (λ (o : Option TheoryLists). IsSome o) (sym gains.there) (some x.theory)
  where
    some : (T : TheoryLists) → IsSome (Some T)
    some T = search rules

-- a call that has a reply other than an edition
pub gives_none : {M : Type 0} (result : Result Reply M) → IfOk result HoldsNone → GivesNone (made_reply result)
gives_none (Ok r) none = none
gives_none (Err memory) none = tt
