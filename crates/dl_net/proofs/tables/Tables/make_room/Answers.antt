use Rattle.dl_net.specs.Kept.{lists_of}
use Rattle.dl_net.proofs.PairTables.{head_within}
use Rattle.dl_net.proofs.tables.Tables.make_room.Goals as goal

pub meet-requires-clause-few : goal.meet-requires-clause-few
meet-requires-clause-few c = head_within (lists_of c.args.self.now) c.requires.kept c.args.link.upper c.requires.there.0
