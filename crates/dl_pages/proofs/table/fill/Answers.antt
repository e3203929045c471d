use Rattle.std.proofs.Common.{◌+◌, ◌-◌, length, sym, ap, ◌∙◌, arith, true}
use Rattle.std.proofs.lemmas.List.{length_push}
use Rattle.dl_pages.proofs.TableLemmas.{none_yet, one_more, all_there, owned_still, owned_behind}
use Rattle.dl_pages.proofs.table.fill.Goals as goal

pub loop-init : goal.loop-init
loop-init g c = record {
  items = none_yet c.args.pages.now.items c.len-counter.result (length c.args.pages.now.items) c.args.value c.len-counter.ensures.items;
  owned = none_yet c.args.pages.now.owned c.len-counter.result (length c.args.pages.now.items) true c.len-counter.ensures.items;
  count = sym c.len-counter.ensures.items;
  room = omega (arith, c.len-counter.ensures.items, c.requires.room);
}

pub push-requires : goal.push-requires
push-requires g c = omega (arith, c.loop.invariant.room)

pub loop-preserved : goal.loop-preserved
loop-preserved g c = record {
  items =
      one_more c.args.pages.now.items c.loop.pages.items c.push.new.self.items c.loop.counter (length c.args.pages.now.items) c.args.value c.loop.invariant.items
      c.push.ensures.items (omega (arith, c.len-counter.ensures.items));
  owned =
      one_more c.args.pages.now.owned c.loop.pages.owned c.push.new.self.owned c.loop.counter (length c.args.pages.now.items) true c.loop.invariant.owned
      c.push.ensures.owned (omega (arith, c.len-counter.ensures.items));
  count = ap length c.push.ensures.items ∙ length_push c.loop.pages.items c.args.value ∙ ap (λ n. n + 1) c.loop.invariant.count;
  room = omega (arith, c.loop.invariant.room, c.push.ensures.spare);
}

pub returns-clause-items : goal.returns-clause-items
returns-clause-items g c =
    all_there c.args.pages.now.items c.loop.pages.items c.loop.counter (length c.args.pages.now.items) c.args.len c.args.value c.loop.invariant.items
    (omega (arith, c.len-counter.ensures.items, c.requires.longer))

pub returns-clause-owned : goal.returns-clause-owned
returns-clause-owned g c = owned_still c.args.pages.now.owned c.loop.pages.owned (c.loop.counter - length c.args.pages.now.items) c.loop.invariant.owned

pub returns-clause-fresh : goal.returns-clause-fresh
returns-clause-fresh g c = λ at le lt.
    owned_behind c.args.pages.now.owned c.loop.pages.owned (c.loop.counter - length c.args.pages.now.items) c.loop.invariant.owned at
    (omega (arith, le, c.len-counter.ensures.items, c.len-counter.ensures.owned))
    (omega (arith, lt, le, c.len-counter.ensures.items, c.len-counter.ensures.owned, c.requires.longer))
