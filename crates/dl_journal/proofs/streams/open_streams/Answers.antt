use Rattle.std.proofs.Common.{◌∙◌, [], ◌∷◌, ℕ, suc, Some, false, sym, subst, ap, arith, map, take, length, length-append, string_bytes, ◌≡◌, List}
use Rattle.std.specs.Prelude.{slice_get}
use Rattle.std.proofs.lemmas.List.{length-map, map-append}
use Rattle.dl_io.specs.House.{HouseState}
use Rattle.dl_words.specs.Names.{output_name}
use Rattle.dl_sessions.specs.Served.{Told, told}
use Rattle.dl_journal.specs.Streams.{names_of, opened_pair, opened_all, IsFresh, AreFresh, Undoes}
use Rattle.dl_journal.proofs.Settled.{name_at}
use Rattle.dl_journal.proofs.Undone.{next_shut, next_shut_out, next_opened, next_fresh, others_open, undone}
use Rattle.dl_journal.proofs.streams.open_streams.Goals as goal

pub open_pair-requires-clause-input : goal.open_pair-requires-clause-input
open_pair-requires-clause-input g c κs within =
    let names = names_of c.args.names.now in
    let at = length c.loop-house.room.items in
    let name = string_bytes c.index-names-len.result.name in
    let there = subst (λ (k : ℕ). slice_get names k ≡ Some name) (c.len-in-loop-house.ensures ∙ c.loop-house.room.ok.0)
    (name_at c.args.names.now c.len-in-loop-house.result c.index-names-len.result (omega (arith, c.loop-house-test.true, c.len.ensures, c.len-in-loop-house.ensures)) c.index-names-len.is) in
    let old = g.H.House.state c.args.house.now in
    subst (λ (h : HouseState). h.open_in name ≡ false) (sym c.loop-house.invariant.house) (next_shut g.H.House.tells old names c.requires.may at name there)

pub open_pair-requires-clause-output : goal.open_pair-requires-clause-output
open_pair-requires-clause-output g c κs within =
    let names = names_of c.args.names.now in
    let at = length c.loop-house.room.items in
    let name = string_bytes c.index-names-len.result.name in
    let there = subst (λ (k : ℕ). slice_get names k ≡ Some name) (c.len-in-loop-house.ensures ∙ c.loop-house.room.ok.0)
    (name_at c.args.names.now c.len-in-loop-house.result c.index-names-len.result (omega (arith, c.loop-house-test.true, c.len.ensures, c.len-in-loop-house.ensures)) c.index-names-len.is) in
    let old = g.H.House.state c.args.house.now in
    ap (g.H.House.state c.loop-house.house).open_out c.index-names-len.result.behind
    ∙ subst (λ (h : HouseState). h.open_out (output_name name) ≡ false) (sym c.loop-house.invariant.house) (next_shut_out g.H.House.tells old names c.requires.may at name there)

pub loop-house-preserved : goal.loop-house-preserved
loop-house-preserved g c =
    let names = names_of c.args.names.now in
    let at = length c.loop-house.room.items in
    let name = string_bytes c.index-names-len.result.name in
    let there = subst (λ (k : ℕ). slice_get names k ≡ Some name) (c.len-in-loop-house.ensures ∙ c.loop-house.room.ok.0)
    (name_at c.args.names.now c.len-in-loop-house.result c.index-names-len.result (omega (arith, c.loop-house-test.true, c.len.ensures, c.len-in-loop-house.ensures)) c.index-names-len.is) in
    let old = g.H.House.state c.args.house.now in
    let t = told g.H.In.Source.rest g.H.In.Source.faults g.H.In.Source.name g.H.Out.Sink.written g.H.Out.Sink.handed g.H.Out.Sink.faults g.H.Out.Sink.name in
    let f : g.row.H-In.Denot × g.row.H-Out.Denot → Told = λ s. t s.0 s.1 in
    let items = c.push_reserved.ensures.items in
    let count : length c.push_reserved.new.self.items ≡ suc at = ap length items ∙ omega (arith, length-append c.loop-house.room.items (c.in-Ok.pair ∷ [])) in
    record {
      house = c.in-Ok.ensures.opened ∙ ap (λ (h : HouseState). opened_pair h name) c.loop-house.invariant.house ∙ next_opened g.H.House.tells old names c.requires.may at name there
          ∙ ap (λ (k : ℕ). opened_all old (take k names)) (sym count);
      fresh = subst (λ (l : List Told). AreFresh g.H.House.tells old names l) (sym (ap (map f) items ∙ map-append f c.loop-house.room.items (c.in-Ok.pair ∷ [])))
          (next_fresh g.H.House.tells old names c.requires.may at name there (map f c.loop-house.room.items) (f c.in-Ok.pair) (length-map c.loop-house.room.items f) c.loop-house.invariant.fresh
          (subst (λ (h : HouseState). IsFresh g.H.House.tells h name (f c.in-Ok.pair)) c.loop-house.invariant.house c.in-Ok.ensures.fresh));
      within = omega (arith, count, c.push_reserved.new.self.ok.0, c.loop-house.room.ok.0, c.loop-house-test.true, c.len.ensures);
      room = omega (arith, c.push_reserved.ensures.capacity, c.loop-house.invariant.room);
    }

pub settle_streams-requires-clause-open : goal.settle_streams-requires-clause-open
settle_streams-requires-clause-open g c κs within =
    let names = names_of c.args.names.now in
    let at = length c.loop-house.room.items in
    let name = string_bytes c.index-names-len.result.name in
    let there = subst (λ (k : ℕ). slice_get names k ≡ Some name) (c.len-in-loop-house.ensures ∙ c.loop-house.room.ok.0)
    (name_at c.args.names.now c.len-in-loop-house.result c.index-names-len.result (omega (arith, c.loop-house-test.true, c.len.ensures, c.len-in-loop-house.ensures)) c.index-names-len.is) in
    let old = g.H.House.state c.args.house.now in
    let t = told g.H.In.Source.rest g.H.In.Source.faults g.H.In.Source.name g.H.Out.Sink.written g.H.Out.Sink.handed g.H.Out.Sink.faults g.H.Out.Sink.name in
    let f : g.row.H-In.Denot × g.row.H-Out.Denot → Told = λ s. t s.0 s.1 in
    others_open g.H.House.tells old names c.requires.may at name there (g.H.House.state c.open_pair.new.house) c.in-Err.stop
    (subst (λ (h : HouseState). Undoes g.H.House.tells h (g.H.House.state c.open_pair.new.house) (name ∷ []) c.in-Err.stop) c.loop-house.invariant.house c.in-Err.ensures.undone)
    (map f c.loop-house.room.items) (length-map c.loop-house.room.items f) c.loop-house.invariant.fresh

pub returns-in-Err-clause-undone : goal.returns-in-Err-clause-undone
returns-in-Err-clause-undone g c =
    let names = names_of c.args.names.now in
    let at = length c.loop-house.room.items in
    let name = string_bytes c.index-names-len.result.name in
    let there = subst (λ (k : ℕ). slice_get names k ≡ Some name) (c.len-in-loop-house.ensures ∙ c.loop-house.room.ok.0)
    (name_at c.args.names.now c.len-in-loop-house.result c.index-names-len.result (omega (arith, c.loop-house-test.true, c.len.ensures, c.len-in-loop-house.ensures)) c.index-names-len.is) in
    let old = g.H.House.state c.args.house.now in
    let t = told g.H.In.Source.rest g.H.In.Source.faults g.H.In.Source.name g.H.Out.Sink.written g.H.Out.Sink.handed g.H.Out.Sink.faults g.H.Out.Sink.name in
    let f : g.row.H-In.Denot × g.row.H-Out.Denot → Told = λ s. t s.0 s.1 in
    subst (λ (h : HouseState). Undoes g.H.House.tells old h names c.in-Err.stop) (sym c.settle_streams.ensures)
    (undone g.H.House.tells old names c.requires.may at name there (g.H.House.state c.open_pair.new.house) c.in-Err.stop
    (subst (λ (h : HouseState). Undoes g.H.House.tells h (g.H.House.state c.open_pair.new.house) (name ∷ []) c.in-Err.stop) c.loop-house.invariant.house c.in-Err.ensures.undone)
    (map f c.loop-house.room.items) (length-map c.loop-house.room.items f) c.loop-house.invariant.fresh)
