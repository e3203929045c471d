use Rattle.std.proofs.Common.{◌≡◌, ◌≤◌, ◌∙◌, ℕ, List, false, length, sym, subst, arith}
use Rattle.std.specs.Str.Parse.{ParsesUnsigned}
use Rattle.std.proofs.lemmas.Bool.{both_ways}
use Rattle.dl_read.specs.Numbers.{begins_otherwise, ReadsNumber}
use Rattle.dl_read.proofs.Numbers.{number_short, number_begins, number_text, parsed}
use Rattle.dl_read.proofs.number.read_number.Goals.{then-long-via-then-long, then-long-via-else-long+then-begins_otherwise}
use Rattle.dl_read.proofs.number.read_number.Goals as goal

pub returns-then-long : goal.returns-then-long
returns-then-long c =
    let word = c.args.word.now in
    elim c.then-long.branch [
      | then-long-via-then-long w ↦ λ m h. omega (arith, w.if-long.true, number_short word m h)
      | then-long-via-else-long+then-begins_otherwise w ↦ λ m h.
          both_ways (begins_otherwise word) (number_begins word m h) (sym w.begins_otherwise.ensures ∙ w.if-begins_otherwise.true)
    ]

pub returns-in-Ok : goal.returns-in-Ok
returns-in-Ok c =
    let word = c.args.word.now in
    let begins : begins_otherwise word ≡ false = sym c.begins_otherwise.ensures ∙ c.if-begins_otherwise.false in
    let short : length word ≤ 19 = omega (arith, c.if-long.false) in
    let digits = subst (λ (l : List ℕ). ParsesUnsigned 64 10 l c.parse.result) c.in-Ok.ensures.cases.0 c.parse.ensures.value.0 in
    subst (ReadsNumber word) (sym c.ok.ensures.value) (parsed word c.parse.result short begins digits)

pub returns-in-Err : goal.returns-in-Err
returns-in-Err c = λ m h. c.in-Err.ensures.cases.0 (number_text c.args.word.now m h)
