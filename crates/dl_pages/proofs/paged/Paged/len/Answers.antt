use Rattle.std.proofs.Common.{sym}
use Rattle.dl_pages.proofs.PagedLemmas.{length_is, owned_is}
use Rattle.dl_pages.proofs.paged.Paged.len.Goals as goal

pub returns : goal.returns
returns g c = record {
  items = sym (length_is c.self.inside.pages.items c.self.inside.len c.self.inside.spare c.args.self.now c.self.invariant.kept c.self.view_is);
  owned = sym (owned_is c.self.inside.pages.items c.self.inside.len c.self.inside.spare c.args.self.now c.self.invariant.kept c.self.view_is);
}
