use Rattle.std.proofs.Common.{◌≡◌, ◌+◌, ◌-◌, Some, min, length, take, drop, arith, sym, ap, ◌∙◌}
use Rattle.std.proofs.lemmas.List.{take_rest, drop-drop}
use Rattle.dl_io.proofs.Known.{read_some, read_none}
use Rattle.dl_io.proofs.raw_memory.RawMemorySourceRawSource.read_once.Goals as goal

pub returns-clause-bytes : goal.returns-clause-bytes
returns-clause-bytes c =
    let bytes = c.args.self.now.bytes.items in
    let at = c.args.self.now.at in
    let n = c.min-count.result in
    let rest = drop at bytes in
    let most = c.max-most.result in
    let same : take (length c.deref-2.result.now - at) (drop at c.deref-2.result.now) ≡ rest = take_rest c.deref-2.result.now at ∙ ap (drop at) c.deref-2.ensures.value in
    let copies : c.copy_from_slice.new.self ≡ take n rest = c.copy_from_slice.ensures.after ∙ ap (take n) same in
    let fewer : c.min.result ≡ min (length rest) (length c.args.room.now) = c.min.ensures ∙ ap (λ l. min (length l) (length c.args.room.now)) same in
    let count : n ≡ min (min (length rest) (length c.args.room.now)) most = c.min-count.ensures ∙ ap (λ k. min k most) fewer in
    let leaves : drop (at + n) bytes ≡ drop n rest = sym (drop-drop n at bytes) in (
      ap Some (read_some rest c.args.room.now c.copy_from_slice.new.self (drop (at + n) bytes) n copies (omega arith) leaves),
      λ none room. leaves ∙ read_none rest c.args.room.now c.copy_from_slice.new.self most n (omega arith) copies count none room,
    )
