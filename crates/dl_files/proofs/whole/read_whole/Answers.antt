use Rattle.std.proofs.Common.{arith, ap, sym, ◌∙◌, refl, length, length-append}
use Rattle.std.specs.Io.KnownBytes.{prepend_known}
use Rattle.std.proofs.lemmas.List.{length-take}
use Rattle.dl_files.proofs.Known.{prepend_known-none, read_more, read_end, read_past, takes_more}
use Rattle.dl_files.proofs.whole.read_whole.Goals as goal

pub loop-bytes-init : goal.loop-bytes-init
loop-bytes-init g c = record {
  room = c.in_ok-room.ensures.len;
  bytes = prepend_known-none (g.S.Source.rest c.args.source.now)
      ∙ ap (λ items. prepend_known items (g.S.Source.rest c.args.source.now)) (sym c.new-bytes.ensures.items);
  within = omega (arith, ap length c.new-bytes.ensures.items);
  faults = refl;
  name = refl;
}

pub loop-bytes-preserved : goal.loop-bytes-preserved
loop-bytes-preserved g c =
    let more = c.in_ok-count.ensures.more in
    record {
      room = c.loop-bytes.invariant.room;
      bytes = read_more _ _ _ _ _ _ c.loop-bytes.invariant.bytes more.told more.added;
      within = omega (
        arith,
        ap length more.added,
        length-append c.loop-bytes.bytes.items more.piece,
        more.size,
        more.within,
        length-take c.min-want.result c.deref_mut.result.now,
        c.min-want.ensures,
      );
      faults = c.in_ok-count.ensures.cause ∙ c.loop-bytes.invariant.faults;
      name = c.read_more.ensures.name ∙ c.loop-bytes.invariant.name;
    }

pub returns-clause-whole : goal.returns-clause-whole
returns-clause-whole g c = read_past _ _ _ _ c.loop-bytes.invariant.bytes (omega arith)

pub returns-then-count-eq0-clause-whole : goal.returns-then-count-eq0-clause-whole
returns-then-count-eq0-clause-whole g c =
    let more = c.in_ok-count.ensures.more in (
      omega (arith, ap length more.added, length-append c.loop-bytes.bytes.items more.piece, more.size, c.if-count-eq0.true),
      read_end _ _ _ (read_more _ _ _ _ _ _ c.loop-bytes.invariant.bytes more.told more.added) (more.ended c.if-count-eq0.true
          (omega (arith, length-take c.min-want.result c.deref_mut.result.now, ap length c.deref_mut.ensures.value, c.loop-bytes.invariant.room, c.min-want.ensures))),
    )

-- where a read fails, no more was taken than was wanted
pub returns-in_err-count-clause-most : goal.returns-in_err-count-clause-most
returns-in_err-count-clause-most g c =
    takes_more _ _ _ _ _ c.loop-bytes.bytes.items c.loop-bytes.invariant.bytes c.read_more.ensures.most
    (omega (arith, length-take c.min-want.result c.deref_mut.result.now, c.min-want.ensures))

pub returns-then-count-eq0-clause-most : goal.returns-then-count-eq0-clause-most
returns-then-count-eq0-clause-most g c =
    takes_more _ _ _ _ _ c.loop-bytes.bytes.items c.loop-bytes.invariant.bytes c.read_more.ensures.most
    (omega (arith, length-take c.min-want.result c.deref_mut.result.now, c.min-want.ensures))

pub returns-clause-most : goal.returns-clause-most
returns-clause-most g c = (c.loop-bytes.bytes.items, c.loop-bytes.invariant.bytes, omega (arith, c.loop-bytes.invariant.within))
