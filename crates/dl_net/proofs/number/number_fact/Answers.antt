use Rattle.std.proofs.Common.{◌-◌, ℕ, Bool, false, List, length, get_or, replicate, refl, ap, ◌∙◌, arith, length-append}
use Rattle.std.proofs.lemmas.List.{get_or_append_left, get_or-append_right, get_or-replicate, length-replicate}
use Rattle.dl_net.proofs.JoinLemmas.{facts_longer}
use Rattle.dl_net.proofs.number.number_fact.Goals as goal

pub returns-in_ok-widen-clause-kept : goal.returns-in_ok-widen-clause-kept
returns-in_ok-widen-clause-kept c = λ qs h.
    let old : List Bool = c.args.marks.now.items in
    let more : ℕ = c.len-then-len.result - length old in
    let is = c.in_ok-widen.ensures.items in
    facts_longer c.number_literal.new.names.literals qs old c.widen.new.self.items
    (λ n before. ap (λ (bs : List Bool). get_or bs n false) is ∙ get_or_append_left old (replicate more false) false n before)
    (λ n past lt. ap (λ (bs : List Bool). get_or bs n false) is ∙ get_or-append_right old (replicate more false) (length old) n false refl past
    ∙ get_or-replicate more (n - length old) false false (omega (arith, past, lt, c.len-then-len.ensures.len)))
    (omega (
      arith,
      ap length is,
      length-append old (replicate more false),
      length-replicate more false,
      c.len-then-len.ensures.len,
      c.if-len.true,
      c.len.ensures.items,
      c.len-2.ensures.len,
    )) h
