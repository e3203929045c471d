use Rattle.std.proofs.Common.{refl, sym, subst, ◌∙◌}
use Rattle.dl_net.specs.declared.tables.Tables.{Tables}
use Rattle.dl_net.specs.Kept.{HasOrder}
use Rattle.dl_net.proofs.PairTables.{keeps_rules, pair_forgotten}
use Rattle.dl_net.proofs.tables.Tables.forget_pair.Goals as goal

pub forget_link-requires : goal.forget_link-requires
forget_link-requires c =
    subst (HasOrder c.args.self.now.order c.args.self.now.pairs.items) (sym c.ready.ensures ∙ c.in-Some.is) c.requires.order

pub returns-in-Some-clause-keeps : goal.returns-in-Some-clause-keeps
returns-in-Some-clause-keeps c =
    let old : Tables = c.args.self.now in
    pair_forgotten old old c.forget_link.new.self old.pairs old.index old.order c.requires refl refl (keeps_rules old.index) c.forget_link.ensures.frame
    c.forget_link.ensures.order
