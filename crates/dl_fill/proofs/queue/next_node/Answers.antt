use Rattle.std.proofs.Common.{◌≡◌, ◌<◌, length, get_or, ap, ◌∙◌, arith}
use Rattle.std.specs.List.{fold}
use Rattle.dl_fill.specs.Counters.{CounterLists, hit}
use Rattle.dl_fill.proofs.Waiting.{made_is, made_all, waits_is, waits_none, length-made_same, still_there, still_reached}
use Rattle.dl_fill.proofs.queue.next_node.Goals as goal
use Rattle.dl_fill.proofs.queue.next_node.Goals.{then-head-len, else-head-len}

pub returns-then-head-len-2 : goal.returns-then-head-len-2
returns-then-head-len-2 c =
    let v = c.if-head-len.counters in
    let left = c.if-head-len.hits.items in
    let w = c.args.counters.now in
    let hits = c.args.hits.now.items in
    let same : fold hit v left ≡ fold hit w hits = elim c.if-head-len.branch [
      | then-head-len b ↦ made_all v b.settle.new.counters c.if-head-len.hits b.settle.new.hits b.counters-is b.hits-is b.settle.ensures.none ∙ b.settle.ensures.made
      | else-head-len b ↦ made_is v w c.if-head-len.hits c.args.hits.now b.counters-is b.hits-is
    ] in
    let size = length-made_same w v left hits same in
    let lt : c.args.head < length v.queue = omega (arith, c.len-2.ensures.len, c.if-head-len-2.true) in
    record {
      waits = elim c.if-head-len.branch [
        | then-head-len b ↦ waits_none v c.if-head-len.hits b.settle.new.hits b.hits-is b.settle.ensures.none
        | else-head-len b ↦ waits_is v w c.if-head-len.hits c.args.hits.now b.counters-is b.hits-is c.requires
      ];
      same = same;
      node = c.node.ensures.node ∙ still_there v left c.args.head lt ∙ ap (λ (u : CounterLists). get_or u.queue c.args.head 0) same;
      within = omega (arith, c.node.ensures.within, size);
      reached = omega (arith, still_reached v left c.args.head lt, ap (λ (u : CounterLists). length u.queue) same);
      few = omega (arith, c.len-2.ensures.few, c.if-head-len-2.true, size);
      made = tt;
      ends = tt;
    }
