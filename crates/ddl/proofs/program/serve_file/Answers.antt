use Rattle.std.proofs.Common.{◌≡◌, ◌∙◌, ℕ, List, [], Bool, Some, Err, inr, refl, sym, ap, subst, map, string_bytes, true}
use Rattle.dl_theory.specs.Lists.{TheoryLists}
use Rattle.dl_replies.specs.declared.reply.Reply.{Reply}
use Rattle.dl_files.specs.declared.theory_file.Loaded.{Loaded}
use Rattle.dl_files.specs.declared.whole.Stop.{Stop}
use Rattle.dl_files.specs.declared.whole.Stop.TheVariants.{Fault, Memory}
use Rattle.dl_files.specs.declared.status.Status.TheVariants as status
use Rattle.dl_replies.specs.declared.reply.Reply.TheVariants.{Refused}
use Rattle.dl_files.specs.Reading.{CountsBy}
use Rattle.dl_files.specs.Theories.{IsLoaded, IsTheoryFile, IsRefusal}
use Rattle.dl_files.specs.Whole.{HasFault}
use Rattle.dl_words.specs.Words.{Serve}
use Rattle.dl_words.proofs.Naming.{servable}
use Rattle.dl_serving.proofs.Serves.{may_open, serves, works}
use Rattle.ddl.proofs.Answering.{theory_works, printed_answers, unread_answers, refused_replies}
use Rattle.ddl.proofs.program.serve_file.Goals as goal

pub serve-status-requires-clause-may : goal.serve-status-requires-clause-may
serve-status-requires-clause-may g c κs within =
    let state = g.H.House.state in
    let old = state c.args.house.now in
    let mid = state c.load.new.house in
    let file = string_bytes c.args.file.now in
    let names = map string_bytes c.args.names.now in
    let reads = c.load.ensures.house in
    may_open mid file names (servable file names c.requires.may) (λ name. ap (λ (f : List ℕ → Bool). f name) reads.open_in ∙ c.requires.shut name)
    (λ name apart. ap (λ (f : List ℕ → Bool). f name) reads.open_out ∙ c.requires.only name apart)

pub returns-in-Ok-Theory-clause-house : goal.returns-in-Ok-Theory-clause-house
returns-in-Ok-Theory-clause-house g c =
    let state = g.H.House.state in
    let old = state c.args.house.now in
    let mid = state c.load.new.house in
    let file = string_bytes c.args.file.now in
    let names = map string_bytes c.args.names.now in
    let new = state c.serve-status.new.house in
    let sink = c.serve-status.new.sink in
    let reads = c.load.ensures.house in
    let able = servable file names c.requires.may in
    let may = may_open mid file names able (λ name. ap (λ (f : List ℕ → Bool). f name) reads.open_in ∙ c.requires.shut name)
    (λ name apart. ap (λ (f : List ℕ → Bool). f name) reads.open_out ∙ c.requires.only name apart) in
    let loads : g.H.House.tells ≡ true → (bytes : List ℕ) × (old.holds file ≡ Some bytes) × IsTheoryFile bytes c.in-Ok-Theory.theory = λ told.
    let gives = c.in-Ok-Theory.ensures.loaded told in
    (gives.0, gives.1, subst (λ (x : Loaded TheoryLists). IsLoaded (λ (T : TheoryLists). T) gives.0 x) c.in-Ok-Theory.field-0-is gives.2) in
    works g.H.House.tells old mid new file names c.in-Ok-Theory.theory (g.H.Out.Sink.handed sink) (g.H.Out.Sink.faults sink) c.serve-status.result reads
    c.in-Ok-Theory.ensures.asked c.in-Ok-Theory.ensures.cause c.in-Ok-Theory.ensures.counts loads able may c.serve-status.ensures.sessions

pub returns-in-Ok-Theory-clause-answer : goal.returns-in-Ok-Theory-clause-answer
returns-in-Ok-Theory-clause-answer g c = λ words is.
    let state = g.H.House.state in
    let old = state c.args.house.now in
    let mid = state c.load.new.house in
    let file = string_bytes c.args.file.now in
    let names = map string_bytes c.args.names.now in
    let new = state c.serve-status.new.house in
    let sink = c.serve-status.new.sink in
    let reads = c.load.ensures.house in
    let able = servable file names c.requires.may in
    let may = may_open mid file names able (λ name. ap (λ (f : List ℕ → Bool). f name) reads.open_in ∙ c.requires.shut name)
    (λ name apart. ap (λ (f : List ℕ → Bool). f name) reads.open_out ∙ c.requires.only name apart) in
    let loads : g.H.House.tells ≡ true → (bytes : List ℕ) × (old.holds file ≡ Some bytes) × IsTheoryFile bytes c.in-Ok-Theory.theory = λ told.
    let gives = c.in-Ok-Theory.ensures.loaded told in
    (gives.0, gives.1, subst (λ (x : Loaded TheoryLists). IsLoaded (λ (T : TheoryLists). T) gives.0 x) c.in-Ok-Theory.field-0-is gives.2) in
    inr (inr (inr (record {
      theory = file;
      names = names;
      asks = is;
      serves = serves g.H.House.tells old mid new file names c.in-Ok-Theory.theory (g.H.Out.Sink.handed sink) (g.H.Out.Sink.faults sink) c.serve-status.result reads
          c.in-Ok-Theory.ensures.asked c.in-Ok-Theory.ensures.cause c.in-Ok-Theory.ensures.counts loads able may c.serve-status.ensures.sessions;
    })))

pub returns-in-Ok-Refused-clause-house : goal.returns-in-Ok-Refused-clause-house
returns-in-Ok-Refused-clause-house g c = theory_works _ _ (string_bytes c.args.file.now) (map string_bytes c.args.names.now) c.load.ensures.house

pub returns-in-Ok-Refused-clause-answer : goal.returns-in-Ok-Refused-clause-answer
returns-in-Ok-Refused-clause-answer g c = λ words is.
    let state = g.H.House.state in
    let old = state c.args.house.now in
    let mid = state c.load.new.house in
    let file = string_bytes c.args.file.now in
    let names = map string_bytes c.args.names.now in
    let sink = c.answer.new.sink in
    let x = c.in-Ok-Refused.refusal in
    let held : g.H.House.tells ≡ true → (bytes : List ℕ) × (old.holds file ≡ Some bytes) × IsRefusal bytes x = λ told.
    let gives = c.in-Ok-Refused.ensures.loaded told in
    (gives.0, gives.1, subst (λ (y : Loaded TheoryLists). IsLoaded (λ (T : TheoryLists). T) gives.0 y) c.in-Ok-Refused.field-0-is gives.2) in
    printed_answers g.H.House.tells old mid [] words (Some (Serve file names)) (sym is) (g.H.Out.Sink.handed sink) (g.H.Out.Sink.faults sink) c.answer.result c.load.ensures.house.wrote (Refused x)
    (refused_replies g.H.House.tells old mid file names x c.in-Ok-Refused.ensures.asked held) c.in-Ok-Refused.ensures.cause (λ told. let h = held told in (h.0, x, h.1, h.2))
    (c.answer.ensures.said g.H.House.tells c.requires.opened.nothing c.requires.opened.none_handed c.requires.opened.no_faults)

pub returns-in-Err-Fault-clause-house : goal.returns-in-Err-Fault-clause-house
returns-in-Err-Fault-clause-house g c = theory_works _ _ (string_bytes c.args.file.now) (map string_bytes c.args.names.now) c.load.ensures.house

pub returns-in-Err-Fault-clause-answer : goal.returns-in-Err-Fault-clause-answer
returns-in-Err-Fault-clause-answer g c = λ words is.
    let state = g.H.House.state in
    let old = state c.args.house.now in
    let mid = state c.load.new.house in
    let file = string_bytes c.args.file.now in
    let names = map string_bytes c.args.names.now in
    let sink = c.args.sink.now in
    let fault : HasFault {T = Reply} old.faults mid.faults (Err Fault) = subst (λ (s : Stop). HasFault {T = Reply} old.faults mid.faults (Err s)) c.in-Err-Fault.field-0-is c.in-Err-Fault.ensures.cause in
    let counts : CountsBy {T = Reply} old mid file (Err Fault) = subst (λ (s : Stop). CountsBy {T = Reply} old mid file (Err s)) c.in-Err-Fault.field-0-is c.in-Err-Fault.ensures.counts in
    unread_answers g.H.House.tells old mid [] words (Some (Serve file names)) (sym is) (g.H.Out.Sink.handed sink) (g.H.Out.Sink.faults sink) status.Fault c.load.ensures.house.wrote file names refl
    c.requires.opened.no_faults c.requires.opened.none_handed Fault fault counts (c.requires.opened.no_faults, c.requires.opened.none_handed, refl)

pub returns-in-Err-Memory-clause-house : goal.returns-in-Err-Memory-clause-house
returns-in-Err-Memory-clause-house g c = theory_works _ _ (string_bytes c.args.file.now) (map string_bytes c.args.names.now) c.load.ensures.house

pub returns-in-Err-Memory-clause-answer : goal.returns-in-Err-Memory-clause-answer
returns-in-Err-Memory-clause-answer g c = λ words is.
    let state = g.H.House.state in
    let old = state c.args.house.now in
    let mid = state c.load.new.house in
    let file = string_bytes c.args.file.now in
    let names = map string_bytes c.args.names.now in
    let sink = c.args.sink.now in
    let fault : HasFault {T = Reply} old.faults mid.faults (Err Memory) = subst (λ (s : Stop). HasFault {T = Reply} old.faults mid.faults (Err s)) c.in-Err-Memory.field-0-is c.in-Err-Memory.ensures.cause in
    let counts : CountsBy {T = Reply} old mid file (Err Memory) = subst (λ (s : Stop). CountsBy {T = Reply} old mid file (Err s)) c.in-Err-Memory.field-0-is c.in-Err-Memory.ensures.counts in
    unread_answers g.H.House.tells old mid [] words (Some (Serve file names)) (sym is) (g.H.Out.Sink.handed sink) (g.H.Out.Sink.faults sink) status.Memory c.load.ensures.house.wrote file names refl
    c.requires.opened.no_faults c.requires.opened.none_handed Memory fault counts (c.requires.opened.no_faults, c.requires.opened.none_handed, refl)
