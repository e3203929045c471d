use Rattle.std.proofs.Common.{ℕ, ◌≡◌, ◌==◌, false}
use Rattle.std.proofs.lemmas.List.Elements.{All-nil}
use Rattle.dl_lines.proofs.Calls.{took_none, took_cut}
use Rattle.dl_lines.proofs.reader.LineReader.next_line.Goals as goal

pub returns-in-Some-find-clause-next : goal.returns-in-Some-find-clause-next
returns-in-Some-find-clause-next g c = λ going.
    let rest = g.S.Source.rest c.args.source.now in
    took_cut rest rest c.args.self.now c.args.self.now c.cut.new.self false c.in-Some-find.len c.cut.result (took_none rest c.args.self.now going)
    (c.in-Some-find.ensures (All-nil (λ (b : ℕ). (b == 10) ≡ false))) c.cut.ensures.off c.cut.ensures.answers
