use Rattle.std.proofs.Common.{sym, ap, ◌∙◌}
use Rattle.std.specs.Io.KnownBytes.{append_known}
use Rattle.dl_io.proofs.Known.{append_known-none}
use Rattle.dl_io.proofs.system.SystemSink.hand_on.Goals as goal

pub returns-clause-whole : goal.returns-clause-whole
returns-clause-whole g c =
    sym (ap (append_known (g.W.RawSink.got c.write_held.new.raw)) c.clear.ensures.items ∙ append_known-none (g.W.RawSink.got c.write_held.new.raw))
