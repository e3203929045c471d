use Rattle.std.proofs.Common.{ap}
use Rattle.dl_io.specs.Register.{house_of}
use Rattle.dl_io.specs.Memory.{house_in_memory, source_rest, sink_handed}
use Rattle.dl_io.proofs.Files.{written_part, written_file}
use Rattle.dl_io.proofs.memory_house.MemoryHouse.put_file.Goals as goal

pub returns-clause-ok : goal.returns-clause-ok
unfolding house_in_memory
returns-clause-ok c =
    let old = c.args.self.now.files in
    let new = c.insert.new.self in
    let updates = c.in_ok-insert.ensures.updates in
    record {
      house = ap (λ holds. house_of source_rest sink_handed holds c.args.self.now.register) (written_file old new c.args.name c.args.file updates);
      reads = written_part (λ f. f.read_fails.items) old new c.args.name c.args.file updates;
      writes = written_part (λ f. f.write_fails.items) old new c.args.name c.args.file updates;
      lines = written_part (λ f. f.by_lines) old new c.args.name c.args.file updates;
    }
