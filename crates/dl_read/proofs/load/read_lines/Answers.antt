use Rattle.std.proofs.Common.{arith, ◌++◌, ◌∷◌, [], List}
use Rattle.std.proofs.lemmas.Result.{err_from_is_err_and, MatchResult-weaker}
use Rattle.dl_read.specs.declared.statement.Statement.{Statement}
use Rattle.dl_read.specs.Files.{lines_of}
use Rattle.dl_read.specs.Loading.{held, HasRead}
use Rattle.dl_read.proofs.Files.{first_is, number_of, reached_none, reached_more, reached_end, reached_stop, loads_so, stops_so}
use Rattle.dl_read.proofs.load.read_lines.Goals as goal

pub lines-init : goal.lines-init
lines-init g c = record {
  reached = reached_none c.args.bytes.now (held g.T.Loading.lists c.make-loader.result) c.make-loader.ensures;
  room = omega arith;
}

pub returns-in_err-load-in-Ok-clause-stopped : goal.returns-in_err-load-in-Ok-clause-stopped
returns-in_err-load-in-Ok-clause-stopped g c =
    let p = err_from_is_err_and c.from_residual.result c.from_residual.ensures.1 in
    rw (p.1, p.2) tt

pub returns-in-Err-clause-stopped : goal.returns-in-Err-clause-stopped
returns-in-Err-clause-stopped g c =
    let f = first_is c.cut_line.result.1 (λ m. m.now) _ (lines_of c.lines.rest.now) c.cut_line.result.0.now c.cut_line.ensures in
    let stops = c.line_stop.ensures c.cut_line.result.0.now (rw c.in-Err.is at c.statement_in.ensures) in
    reached_stop c.args.bytes.now (lines_of c.lines.rest.now) f.0 c.lines.number (held g.T.Loading.lists c.lines.loader) c.cut_line.result.0.now _ c.lines.invariant.reached f.1 stops

pub finish-requires : goal.finish-requires
finish-requires g c =
    let h = c.lines.invariant.reached in
    (h.statements ++ c.in-Ok.statement ∷ [], c.in_ok-load-in-Ok.ensures h.statements (number_of _ _ c.lines.number (held g.T.Loading.lists c.lines.loader) h) h.read)

pub returns-in-None-clause-loaded : goal.returns-in-None-clause-loaded
returns-in-None-clause-loaded g c =
    let h = c.lines.invariant.reached in
    let said = rw c.in-Ok.is at c.statement_in.ensures in
    let e = rw c.in-None.is at c.cut_line.ensures in
    let ss : List Statement = h.statements ++ c.in-Ok.statement ∷ [] in
    let read : HasRead (held g.T.Loading.lists c.load.new.self) ss = c.in_ok-load-in-Ok.ensures h.statements (number_of _ _ c.lines.number (held g.T.Loading.lists c.lines.loader) h) h.read in
    let says = reached_end c.args.bytes.now (lines_of c.lines.rest.now) c.lines.number (held g.T.Loading.lists c.lines.loader) c.cut_line.result.0.now c.in-Ok.statement h e said.1 in
    MatchResult-weaker c.finish.result c.finish.ensures.loaded (λ t made. loads_so c.args.bytes.now ss (g.T.Loading.lists t) says (made ss read)) (λ x u. tt)

pub returns-in-None-clause-stopped : goal.returns-in-None-clause-stopped
returns-in-None-clause-stopped g c =
    let h = c.lines.invariant.reached in
    let said = rw c.in-Ok.is at c.statement_in.ensures in
    let e = rw c.in-None.is at c.cut_line.ensures in
    let ss : List Statement = h.statements ++ c.in-Ok.statement ∷ [] in
    let read : HasRead (held g.T.Loading.lists c.load.new.self) ss = c.in_ok-load-in-Ok.ensures h.statements (number_of _ _ c.lines.number (held g.T.Loading.lists c.lines.loader) h) h.read in
    let says = reached_end c.args.bytes.now (lines_of c.lines.rest.now) c.lines.number (held g.T.Loading.lists c.lines.loader) c.cut_line.result.0.now c.in-Ok.statement h e said.1 in
    MatchResult-weaker c.finish.result c.finish.ensures.stopped (λ T u. tt) (λ x stops. stops_so c.args.bytes.now ss x says (stops ss read))

pub lines-preserved : goal.lines-preserved
lines-preserved g c =
    let h = c.lines.invariant.reached in
    let said = rw c.in-Ok.is at c.statement_in.ensures in
    let e = rw c.in-Some.is at c.cut_line.ensures in
    record {
      reached = reached_more _ _ _ c.lines.number (held g.T.Loading.lists c.lines.loader) (held g.T.Loading.lists c.load.new.self) _ c.in-Ok.statement h e.0 said.1
          (c.in_ok-load-in-Ok.ensures h.statements (number_of _ _ c.lines.number (held g.T.Loading.lists c.lines.loader) h) h.read);
      room = omega (arith, e.1);
    }
