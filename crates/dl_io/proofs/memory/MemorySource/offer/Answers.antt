use Rattle.std.proofs.Common.{◌≡◌, ◌+◌, ◌-◌, Bool, List, ℕ, length, take, drop, if◌then◌else◌, sym, ap, ◌∙◌, add-one}
use Rattle.std.specs.Io.BufRead.{take_through}
use Rattle.std.proofs.lemmas.List.{take_rest}
use Rattle.dl_io.proofs.Lines.{through_all, through_first}
use Rattle.dl_io.proofs.memory.MemorySource.offer.Goals as goal

pub returns-in-Some-clause-bytes : goal.returns-in-Some-clause-bytes
returns-in-Some-clause-bytes c =
    let at = c.args.self.now.at in
    let rest = drop at c.args.self.now.bytes.items in
    let place = c.in-Some.place in
    let searched = take (length c.deref.result.now - at) (drop at c.deref.result.now) in
    let same : searched ≡ rest = take_rest c.deref.result.now at ∙ ap (drop at) c.deref.ensures.value in
    let first = c.in-Some.ensures in
    ap (λ (n : ℕ). take n searched) (add-one place)
    ∙ sym (through_first searched place first.0.before first.0.high first.1)
    ∙ ap (take_through 10) same
    ∙ ap (λ (by_lines : Bool). if by_lines then take_through 10 rest else rest) (sym c.if-not-self.false)

pub returns-in-None-clause-bytes : goal.returns-in-None-clause-bytes
returns-in-None-clause-bytes c =
    let at = c.args.self.now.at in
    let rest = drop at c.args.self.now.bytes.items in
    let searched = take (length c.deref.result.now - at) (drop at c.deref.result.now) in
    let same : searched ≡ rest = take_rest c.deref.result.now at ∙ ap (drop at) c.deref.ensures.value in
    sym (through_all searched c.in-None.ensures)
    ∙ ap (take_through 10) same
    ∙ ap (λ (by_lines : Bool). if by_lines then take_through 10 rest else rest) (sym c.if-not-self.false)
