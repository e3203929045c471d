use Rattle.dl_rules.specs.Indexes.{HasRules, HasLinks}
use Rattle.dl_rules.proofs.RuleLemmas.{HasRules-same, HasLinks-same}
use Rattle.dl_rules.proofs.index.Index.freeze.Goals as goal

pub invariant_of-self : goal.invariant_of-self
invariant_of-self c =
    let rules : HasRules c.self.inside.lines.items c.freeze-heads.new.self c.freeze-uses.new.self =
    HasRules-same c.self.invariant.rules c.freeze-heads.ensures c.freeze-uses.ensures in
    let links : HasLinks c.self.inside.lines.items c.freeze-lowers.new.self c.freeze-uppers.new.self =
    HasLinks-same c.self.invariant.links c.freeze-lowers.ensures c.freeze-uppers.ensures in
    record {
      rules = rw c.freeze.ensures rules;
      links = rw c.freeze.ensures links;
      few = rw c.freeze.ensures c.self.invariant.few;
      live = rw c.freeze.ensures c.self.invariant.live;
      room = tt;
    }
