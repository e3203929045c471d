-- What calls do to a seat, one after another.
use Rattle.std.proofs.Common.{◌≡◌, List, [], ◌∷◌, ◌++◌, Some, None, Option, IsSome, refl, sym, ap, subst, ◌∙◌, append_assoc, append-nil}
use Rattle.dl_theory.specs.Lists.{TheoryLists}
use Rattle.dl_turn.specs.History.{StartsWith}
use Rattle.dl_calls.specs.declared.call.Call.{Call}
use Rattle.dl_calls.specs.declared.reply.Reply.{Reply}
use Rattle.dl_calls.specs.declared.entry.Entry.{Entry}
use Rattle.dl_calls.specs.Histories.{IsLegal, state_after}
use Rattle.dl_calls.proofs.Runs.{editions_stay}
use Rattle.dl_edition.specs.Offices.{SeatLists, MayCall, Stays, HasCalled, HasWaited, IsCall}
use Rattle.dl_session.specs.Answering.{Makes}
use Rattle.dl_session.specs.Seats.{editions_of, Advances}
use Rattle.dl_session.proofs.Lists.{begins_itself, begins_on}

-- a seat that made no call
pub stays_put : (v : SeatLists) → v.out ≡ None → Advances v v []
stays_put v within = record {
  place = refl;
  start = refl;
  number = refl;
  olds = refl;
  within = within;
  seen = begins_itself v.seen;
  mine = sym (append-nil v.mine);
  legal = λ legal. legal;
  editions = begins_itself (editions_of v);
}

-- some entries, and then more
pub advances_on : (a b c : SeatLists) (xs ys : List Entry) → Advances a b xs → Advances b c ys → Advances a c (xs ++ ys)
advances_on a b c xs ys first more = record {
  place = more.place ∙ first.place;
  start = more.start ∙ first.start;
  number = more.number ∙ first.number;
  olds = more.olds ∙ first.olds;
  within = more.within;
  seen = begins_on a.seen b.seen c.seen more.seen first.seen;
  mine = more.mine ∙ ap (λ (l : List Entry). l ++ ys) first.mine ∙ append_assoc a.mine xs ys;
  legal = λ legal. more.legal (first.legal legal);
  editions = begins_on (editions_of a) (editions_of b) (editions_of c) more.editions first.editions;
}

pub may_call : (old new : SeatLists) (used : List Entry) → MayCall old → Advances old new used → MayCall new
may_call old new used may advances = record {
  numbered = subst IsSome (sym advances.number) may.numbered;
  within = advances.within;
}

editions_on : (T U : TheoryLists) (seen first : List Entry) → T ≡ U → StartsWith seen first → IsLegal T seen → StartsWith (state_after T seen).editions (state_after U first).editions
editions_on T U seen first same begins legal =
    subst (λ (h : List Entry). StartsWith (state_after T h).editions (state_after U first).editions) (sym begins.1)
    (subst (λ (V : TheoryLists). StartsWith (state_after T (first ++ begins.0)).editions (state_after V first).editions) same
    (editions_stay T first begins.0 (subst (λ (h : List Entry). IsLegal T h) begins.1 legal)).editions)

advances_by : (old new : SeatLists) (used : List Entry) → Stays old new → new.number ≡ old.number → StartsWith new.seen old.seen → new.mine ≡ old.mine ++ used → Advances old new used
advances_by old new used stays number seen mine = record {
  place = stays.place;
  start = stays.start;
  number = number;
  olds = stays.olds;
  within = stays.within;
  seen = seen;
  mine = mine;
  legal = λ _. stays.legal;
  editions = editions_on new.start old.start new.seen old.seen stays.start seen stays.legal;
}

-- what a call of an office does to a seat
pub made : (old new : SeatLists) (c : Call) (r : Option Reply) → IsCall old new c r → Makes old new c r
made old new c None call =
    let waited : HasWaited old new = call.tells in
    record {
      used = [];
      advances = advances_by old new [] call.stays call.number waited.seen (waited.mine ∙ sym (append-nil old.mine));
      entry = refl;
    }
made old new c (Some r) call =
    let called : HasCalled old new c r = call.tells in
    let e : Entry = record { seat = called.seat; call = c; reply = r } in
    record {
      used = e ∷ [];
      advances = advances_by old new (e ∷ []) call.stays call.number (called.between ++ e ∷ [], called.seen ∙ append_assoc old.seen called.between (e ∷ [])) called.mine;
      entry = (e, refl, refl, refl);
    }

-- a call that was not made
pub not_made : (v : SeatLists) (c : Call) → v.out ≡ None → Makes v v c None
not_made v c within = record { used = []; advances = stays_put v within; entry = refl }
