use Rattle.std.proofs.Common.{◌≡◌, ℕ, List, Option, [], ◌∷◌, ◌++◌, ap, subst, ◌∙◌, refl}
use Rattle.std.specs.Prelude.{IfSome}
use Rattle.dl_rules.specs.Lines.{Line}
use Rattle.dl_theory.specs.declared.edit.Edit.TheVariants.{AddRule}
use Rattle.dl_net.specs.Kept.{lists_of}
use Rattle.dl_net.proofs.RuleLemmas.{with_rule, rules_with, theory_with, tables_with}
use Rattle.dl_net.proofs.EditLemmas.{made}
use Rattle.dl_net.proofs.tables.Tables.add_rule.Goals as goal

pub returns : goal.returns
returns c =
    let t = lists_of c.args.self.now in
    let r = c.args.rule.now in
    let h = c.requires.kept.tables in
    let x = c.put-2.new.self in
    let lines = c.put-2.ensures.lines ∙ ap (λ (o : Option Line). t.index.lines ++ o ∷ []) c.requires.room.line in
    let labels =
    subst (λ (o : Option (List ℕ)). IfSome o (λ label. c.put.new.self.labels ≡ t.labels ++ label ∷ [])) c.requires.room.label c.put.ensures.labels in
    made c.args.self.now (record c.args.self.now { labels = c.put.new.self; index = x }) (AddRule r) (with_rule t r.label x)
    (λ i. record t { labels = labels i; index = x })
    (tables_with t h r x c.requires.accepted c.requires.room.named lines c.put-2.ensures.lowers c.put-2.ensures.uppers)
    (theory_with t h r x c.requires.accepted c.requires.room.named lines c.put-2.ensures.lowers c.put-2.ensures.uppers)
    (rules_with t h r x c.requires.accepted c.requires.room.named lines c.put-2.ensures.lowers c.put-2.ensures.uppers)
    refl c.requires.kept.order (record { label = c.put.ensures.ready; pair = c.requires.room.pair })
