use Rattle.std.proofs.Common.{ℕ, List, refl, subst, inr}
use Rattle.std.specs.Prelude.{Contains}
use Rattle.dl_theory.specs.Lists.{labels}
use Rattle.dl_net.specs.Kept.{lists_of, theory_in}
use Rattle.dl_net.proofs.RuleLemmas.{has_label}
use Rattle.dl_net.proofs.tables.Tables.link_of.Goals as goal

pub returns-in-None-find_rule-clause-missing : goal.returns-in-None-find_rule-clause-missing
returns-in-None-find_rule-clause-missing c =
    inr (
      refl,
      subst (λ (x : List ℕ). Contains (labels (theory_in c.args.self.now)) x) c.in-Some.ensures.label
          (has_label (lists_of c.args.self.now) c.requires.tables c.in-Some.upper c.in-Some.ensures.there),
      c.in-None-find_rule.ensures.absent,
    )
