use Rattle.std.proofs.Common.{◌≡◌, Some, arith, take, drop, sym, ap, ◌∙◌, take-append-drop}
use Rattle.std.proofs.lemmas.List.{take_all}
use Rattle.dl_io.proofs.memory.MemorySinkSink.flush.Goals as goal

pub returns-clause-handed : goal.returns-clause-handed
returns-clause-handed c =
    let sink = c.args.self.now in
    let bytes = sink.bytes.items in
    let whole : take c.len-self.result bytes ≡ bytes = take_all _ _ (omega arith) in
    (drop sink.handed bytes, ap Some (whole ∙ sym (take-append-drop sink.handed bytes)))
