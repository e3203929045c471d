use Rattle.std.proofs.Common.{◌≡◌, ℕ, ◌+◌, ◌-◌, ◌≤◌, length, take, drop, sym, ap, ◌∙◌, arith, length-take, take-take}
use Rattle.dl_lines.specs.Reading.{Reading}
use Rattle.dl_lines.proofs.Room.{part_drop}
use Rattle.dl_lines.proofs.reader.LineReader.cut.Goals as goal

pub returns-clause-off : goal.returns-clause-off
returns-clause-off c =
    let room = c.self.inside.room.items in
    let next = c.self.inside.next in
    let filled = c.self.inside.filled in
    let len = c.args.len in
    let fits : next + (len + 1) ≤ filled = omega (arith, c.requires, ap (λ (r : Reading). length r.ahead) c.self.view_is, length-take (filled - next) (drop next room), c.self.invariant.ahead) in
    let after : next + len + 1 ≡ next + (len + 1) = omega arith in
    let whole : next + len - next ≡ len = omega arith in
    record {
      line = ap (λ (n : ℕ). take n (drop next room)) whole ∙ sym (take-take len (filled - next) (drop next room) (omega (arith, fits))) ∙ ap (λ (r : Reading). take len r.ahead) c.self.view_is;
      ahead = ap (λ (n : ℕ). take (filled - n) (drop n room)) after ∙ part_drop room next (len + 1) filled fits ∙ ap (λ (r : Reading). drop (len + 1) r.ahead) c.self.view_is;
      count = ap (λ (r : Reading). r.count) c.self.view_is;
      within = c.self.invariant.limit;
      ended = ap (λ (r : Reading). r.ended) c.self.view_is;
    }
