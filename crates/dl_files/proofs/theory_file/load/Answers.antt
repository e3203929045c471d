use Rattle.std.proofs.Common.{string_bytes}
use Rattle.dl_files.specs.Theories.{IsLoaded}
use Rattle.dl_files.proofs.Loading.{holds_so}
use Rattle.dl_files.proofs.theory_file.load.Goals as goal

pub returns-clause-loaded : goal.returns-clause-loaded
returns-clause-loaded g c = λ told.
    holds_so (λ bytes. IsLoaded g.T.Loading.lists bytes c.in_ok-loaded.loaded) ((g.H.House.state c.args.house.now).holds (string_bytes c.args.name.now)) c.in_ok-whole.whole
    (c.in_ok-whole.ensures.told told) c.in_ok-whole.ensures.whole c.in_ok-loaded.ensures
