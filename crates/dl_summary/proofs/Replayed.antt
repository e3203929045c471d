-- Calls that are made once more lead to what the history of them tells.
use Rattle.std.proofs.Common.{◌≡◌, ℕ, ◌+◌, ◌≤◌, Bool, true, false, cond, if◌then◌else◌, List, [], ◌∷◌, ◌++◌, length, drop, inl, inr, ap, sym, subst, refl, ◌∙◌, arith}
use Rattle.std.specs.Prelude.{count_by, nat_lt}
use Rattle.std.proofs.lemmas.List.{length-append, map-append}
use Rattle.std.proofs.lemmas.List.Sums.{sum_by_push}
use Rattle.dl_theory.specs.Lists.{TheoryLists}
use Rattle.dl_theory.specs.Edits.{IsAccepted, IsRefused, after_edit}
use Rattle.dl_theory.proofs.Causes.{never_both}
use Rattle.dl_calls.specs.declared.call.Call.{Call}
use Rattle.dl_calls.specs.declared.call.Call.TheVariants.{Enrol, Edit, Publish, Hold}
use Rattle.dl_calls.specs.declared.reply.Reply.{Reply}
use Rattle.dl_calls.specs.declared.reply.Reply.TheVariants.{Edited, EditRefused, Holding, Unpublished}
use Rattle.dl_calls.specs.declared.entry.Entry.{Entry}
use Rattle.dl_calls.specs.Reasoner.{State, IsStep}
use Rattle.dl_calls.specs.Histories.{state_after, IsLegal}
use Rattle.dl_calls.proofs.Runs.{editions_stay, last_entry_is_a_step}
use Rattle.dl_summary.specs.declared.replay.Replay.{Replay}
use Rattle.dl_summary.specs.Summary.{is_edited, is_edit_refused, calls_of, replies_of}
use Rattle.dl_summary.specs.Replaying.{Takes, IsReplay, Replays}

-- no more edits are counted than there are calls
pub few_more : (old new : Replay) (call : Call) (calls : List Call) → Takes old call new → old.accepted + old.refused ≤ length calls
    → new.accepted + new.refused ≤ length (calls ++ call ∷ [])
few_more old new (Edit e) calls h few =
    elim h [
      | inl a ↦ omega (arith, few, ap (λ (r : Replay). r.accepted) a.1, ap (λ (r : Replay). r.refused) a.1, length-append calls (Edit e ∷ []))
      | inr x ↦ omega (arith, few, ap (λ (r : Replay). r.accepted) x.2, ap (λ (r : Replay). r.refused) x.2, length-append calls (Edit e ∷ []))
    ]
few_more old new Enrol calls h few = omega (arith, few, ap (λ (r : Replay). r.accepted) h, ap (λ (r : Replay). r.refused) h, length-append calls (Enrol ∷ []))
few_more old new Publish calls h few = omega (arith, few, ap (λ (r : Replay). r.accepted) h, ap (λ (r : Replay). r.refused) h, length-append calls (Publish ∷ []))
few_more old new (Hold n) calls h few = omega (arith, few, ap (λ (r : Replay). r.accepted) h, ap (λ (r : Replay). r.refused) h, length-append calls (Hold n ∷ []))

-- what a reply that leads to t tells of a replay that takes its call
record Tells (t : State) (reply : Reply) (old new : Replay) : Type 0 where
  pub accepted : new.accepted ≡ old.accepted + cond (is_edited reply) 1 0
  pub refused : new.refused ≡ old.refused + cond (is_edit_refused reply) 1 0
  pub draft : new.draft ≡ t.draft

-- by a call that is no edit
stays : (s t : State) (reply : Reply) (old new : Replay) → new ≡ old → is_edited reply ≡ false → is_edit_refused reply ≡ false → s.draft ≡ old.draft
    → t.draft ≡ s.draft → Tells t reply old new
stays s t reply old new same edited refused before after = record {
  accepted = omega (arith, ap (λ (r : Replay). r.accepted) same, ap {B = ℕ} (λ b. cond b 1 0) edited);
  refused = omega (arith, ap (λ (r : Replay). r.refused) same, ap {B = ℕ} (λ b. cond b 1 0) refused);
  draft = ap (λ (r : Replay). r.draft) same ∙ sym before ∙ sym after;
}

either_edits_nothing : (b : Bool) (n published : ℕ)
    → (is_edited (if b then Holding n else Unpublished n published) ≡ false) × (is_edit_refused (if b then Holding n else Unpublished n published) ≡ false)
either_edits_nothing true n published = (refl, refl)
either_edits_nothing false n published = (refl, refl)

-- a reasoner with the same draft decides on an edit as the theory does
takes_tell : (s t : State) (seat : ℕ) (call : Call) (reply : Reply) (old new : Replay) → IsStep s seat call reply t → s.draft ≡ old.draft → Takes old call new
    → Tells t reply old new
takes_tell s t seat Enrol reply old new h same k =
    stays s t reply old new k (ap is_edited h.1) (ap is_edit_refused h.1) same (ap (λ (u : State). u.draft) h.2)
takes_tell s t seat (Edit e) Edited old new h same k =
    elim k [
      | inl a ↦ record {
        accepted = ap (λ (r : Replay). r.accepted) a.1;
        refused = omega (arith, ap (λ (r : Replay). r.refused) a.1);
        draft = ap (λ (r : Replay). r.draft) a.1 ∙ sym (ap (λ (u : State). u.draft) h.2 ∙ ap (λ T. after_edit T e) same);
      }
      | inr x ↦ absurd (never_both old.draft e x.0 (subst (λ (T : TheoryLists). IsAccepted T e) same h.1) x.1)
    ]
takes_tell s t seat (Edit e) (EditRefused x) old new h same k =
    elim k [
      | inl a ↦ absurd (never_both old.draft e x a.0 (subst (λ (T : TheoryLists). IsRefused T e x) same h.1))
      | inr y ↦ record {
        accepted = omega (arith, ap (λ (r : Replay). r.accepted) y.2);
        refused = ap (λ (r : Replay). r.refused) y.2;
        draft = ap (λ (r : Replay). r.draft) y.2 ∙ sym same ∙ sym (ap (λ (u : State). u.draft) h.2);
      }
    ]
takes_tell s t seat (Edit e) _ old new h same k = absurd h
takes_tell s t seat Publish reply old new h same k =
    stays s t reply old new k (ap is_edited h.1) (ap is_edit_refused h.1) same (ap (λ (u : State). u.draft) h.2)
takes_tell s t seat (Hold n) reply old new h same k =
    let nothing = either_edits_nothing (nat_lt n (length s.editions)) n (length s.editions) in
    stays s t reply old new k (ap is_edited h.1 ∙ nothing.0) (ap is_edit_refused h.1 ∙ nothing.1) same (ap (λ (u : State). u.draft) h.2)

pub rest_calls : (x y : Call) (l m : List Call) → x ∷ l ≡ y ∷ m → l ≡ m
rest_calls x y l m e = ap (λ (calls : List Call). drop 1 calls) e

-- the entry of the last call, and those before it
record LastCall (history : List Entry) (calls : List Call) (call : Call) : Type 0 where
  pub before : List Entry
  pub last : Entry
  pub whole : history ≡ before ++ last ∷ []
  pub front : calls_of before ≡ calls
  pub end : last.call ≡ call

last_call : (history : List Entry) (calls : List Call) (call : Call) → calls_of history ≡ calls ++ call ∷ [] → LastCall history calls call
last_call [] [] call e = absurd (cc)
last_call [] (c ∷ calls) call e = absurd (cc)
last_call (x ∷ []) [] call e = record { before = []; last = x; whole = refl; front = refl; end = cc }
last_call (x ∷ y ∷ more) [] call e = absurd (cc (rest_calls x.call call (y.call ∷ calls_of more) [] e))
last_call (x ∷ more) (c ∷ calls) call e =
    let rest = last_call more calls call (rest_calls x.call c (calls_of more) (calls ++ call ∷ []) e) in
    let first : x.call ≡ c = cc in
    record { before = x ∷ rest.before; last = rest.last; whole = ap (λ l. x ∷ l) rest.whole; front = λ i. first i ∷ rest.front i; end = rest.end }

count_more : (p : Reply → Bool) (history : List Entry) (e : Entry) → count_by p (replies_of (history ++ e ∷ [])) ≡ count_by p (replies_of history) + cond (p e.reply) 1 0
count_more p history e =
    ap (count_by p) (map-append (λ (x : Entry). x.reply) history (e ∷ [])) ∙ sum_by_push (λ (r : Reply). cond (p r) 1 0) (replies_of history) e.reply

pub replays_none : (T : TheoryLists) (r : Replay) → r.accepted ≡ 0 → r.refused ≡ 0 → r.draft ≡ T → Replays T [] r
replays_none T r accepted refused draft [] legal e = record { accepted = accepted; refused = refused; draft = draft }
replays_none T r accepted refused draft (x ∷ more) legal e = absurd (cc)

pub replays_more : (T : TheoryLists) (calls : List Call) (call : Call) (old new : Replay) → Replays T calls old → Takes old call new → Replays T (calls ++ call ∷ []) new
replays_more T calls call old new h k history legal e =
    let at = last_call history calls call e in
    let lawful = subst (IsLegal T) at.whole legal in
    let was = h at.before (editions_stay T at.before (at.last ∷ []) lawful).legal at.front in
    let told = takes_tell (state_after T at.before) (state_after T (at.before ++ at.last ∷ [])) at.last.seat at.last.call at.last.reply old new
    (last_entry_is_a_step T at.before at.last lawful) (sym was.draft) (subst (λ (c : Call). Takes old c new) (sym at.end) k) in
    subst (λ (l : List Entry). IsReplay T l new) (sym at.whole) (record {
      accepted = told.accepted ∙ ap (λ n. n + cond (is_edited at.last.reply) 1 0) was.accepted ∙ sym (count_more is_edited at.before at.last);
      refused = told.refused ∙ ap (λ n. n + cond (is_edit_refused at.last.reply) 1 0) was.refused ∙ sym (count_more is_edit_refused at.before at.last);
      draft = told.draft;
    })
