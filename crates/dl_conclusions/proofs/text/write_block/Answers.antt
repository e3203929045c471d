use Rattle.std.proofs.Common.{◌++◌, ◌∙◌, List, ℕ, subst, sym, ap}
use Rattle.dl_io.specs.Streams.{WritesAll}
use Rattle.dl_print.proofs.Writes.{then_all}
use Rattle.dl_conclusions.specs.Text.{lines_before}
use Rattle.dl_conclusions.proofs.text.write_block.Goals as goal

pub returns-then-fit-clause-bytes : goal.returns-then-fit-clause-bytes
returns-then-fit-clause-bytes g c = λ before start.
    let done = lines_before c.args.family c.args.conclusions.now c.args.from in
    let all = c.put_lines.ensures.lines ∙ ap (λ (text : List ℕ). done ++ text) (sym c.as_slice.ensures.value) in
    subst (λ (bytes : List ℕ). WritesAll before (g.S.Sink.written c.write_all.new.sink) c.write_all.result bytes) (sym all)
    (then_all before _ _ _ _ _ start c.write_all.ensures.bytes)
