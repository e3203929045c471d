use Rattle.std.proofs.Common.{ap, sym, subst, ◌∙◌, length}
use Rattle.std.proofs.lemmas.Result.{IfOk-weaker, MatchResult-weaker}
use Rattle.dl_theory.specs.Edits.{AddsPairs}
use Rattle.dl_read.specs.declared.file.ReadStop.{ReadStop}
use Rattle.dl_read.specs.Files.{pairs, in_loading_order, IsLoadStop}
use Rattle.dl_read.specs.Loading.{held}
use Rattle.dl_read.proofs.Loading.{waits_lengths, finish_refused, finish_loaded, finish_stopped}
use Rattle.dl_read.proofs.loader.Loader.finish.Goals as goal

pub add_waiting-requires : goal.add_waiting-requires
add_waiting-requires g c =
    let l = c.args.self in
    ap length c.as_slice.ensures.value ∙ waits_lengths (pairs 1 c.requires.0) l.pairs.items l.lines.items c.requires.1.waiting ∙ sym (ap length c.as_slice-in-None.ensures.value)

pub returns-in-Some-clause-stopped : goal.returns-in-Some-clause-stopped
returns-in-Some-clause-stopped g c = λ ss h.
    subst (λ (x : ReadStop). IsLoadStop (in_loading_order ss) x) (sym c.stop.ensures)
    (finish_refused (held g.T.Loading.lists c.args.self) ss _ c.in-Some.is h)

pub returns-clause-loaded : goal.returns-clause-loaded
returns-clause-loaded g c =
    let lists = g.T.Loading.lists in
    IfOk-weaker c.add_waiting.result (λ t. AddsPairs (lists c.args.self.target) c.as_slice.result.now (lists t)) _
    (λ t a ss h. finish_loaded (held lists c.args.self) ss (lists t) c.in-None.is h (rw (sym c.as_slice.ensures.value) a)) c.add_waiting.ensures.loaded

pub returns-clause-stopped : goal.returns-clause-stopped
returns-clause-stopped g c =
    MatchResult-weaker c.add_waiting.result c.add_waiting.ensures.stopped (λ t u. tt)
    (λ x w ss h. finish_stopped (held g.T.Loading.lists c.args.self) ss x c.in-None.is h
    (rw (sym c.as_slice.ensures.value, sym c.as_slice-in-None.ensures.value) w))
