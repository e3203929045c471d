use Rattle.std.proofs.Common.{◌∷◌, refl, sym, ◌∙◌, arith}
use Rattle.dl_net.specs.Kept.{lists_of}
use Rattle.dl_net.proofs.NetLemmas.{rules_counted}
use Rattle.dl_net.proofs.RuleLemmas.{label_found, label_missing}
use Rattle.dl_net.proofs.EditLemmas.{keeps_with}
use Rattle.dl_net.proofs.tables.Tables.prepare_rule.Goals as goal

pub returns-then-is_some-clause-answered : goal.returns-then-is_some-clause-answered
returns-then-is_some-clause-answered c = (
  c.in_ok-copy.ensures,
  label_found (lists_of c.args.self.now) c.requires.kept.tables c.args.rule.now.label c.find_rule.result c.find_rule.ensures.there c.find_rule.ensures.label
      (sym c.is_some.ensures ∙ c.if-is_some.true),
)

pub returns-then-live-ge-LIMIT-clause-answered : goal.returns-then-live-ge-LIMIT-clause-answered
returns-then-live-ge-LIMIT-clause-answered c = (
  label_missing (lists_of c.args.self.now) c.args.rule.now.label c.find_rule.result c.find_rule.ensures.absent (sym c.is_some.ensures ∙ c.if-is_some.false),
  omega (arith, rules_counted (lists_of c.args.self.now) c.requires.kept.tables, c.live.ensures, c.if-live-ge-LIMIT.true),
)

pub returns-clause-answered : goal.returns-clause-answered
returns-clause-answered c = (
  label_missing (lists_of c.args.self.now) c.args.rule.now.label c.find_rule.result c.find_rule.ensures.absent (sym c.is_some.ensures ∙ c.if-is_some.false),
  omega (arith, rules_counted (lists_of c.args.self.now) c.requires.kept.tables, c.live.ensures, c.if-live-ge-LIMIT.false),
)

pub returns-in_err-room_for_rule-clause-keeps : goal.returns-in_err-room_for_rule-clause-keeps
returns-in_err-room_for_rule-clause-keeps c =
    let kept = c.room_for_rule.ensures.kept in
    keeps_with (c.args.rule.now.head ∷ c.args.rule.now.body) c.args.self.now
    (record c.args.self.now { names = c.room_for_rule.new.names; index = c.room_for_rule.new.index; seen = c.room_for_rule.new.seen }) c.requires.kept
    (record { labels = refl; facts = refl; pairs = refl; lines = kept.lines; lowers = kept.lowers; uppers = kept.uppers })
    c.room_for_rule.ensures.distinct c.room_for_rule.ensures.paired c.room_for_rule.ensures.grown (λ h. h) c.requires.kept.order

pub returns-in_err-prepare-clause-keeps : goal.returns-in_err-prepare-clause-keeps
returns-in_err-prepare-clause-keeps c =
    let kept = c.room_for_rule.ensures.kept in
    keeps_with (c.args.rule.now.head ∷ c.args.rule.now.body) c.args.self.now
    (record c.args.self.now { names = c.room_for_rule.new.names; index = c.room_for_rule.new.index; seen = c.room_for_rule.new.seen; labels = c.prepare.new.self }) c.requires.kept
    (record { labels = c.prepare.ensures.labels; facts = refl; pairs = refl; lines = kept.lines; lowers = kept.lowers; uppers = kept.uppers })
    c.room_for_rule.ensures.distinct c.room_for_rule.ensures.paired c.room_for_rule.ensures.grown (λ h. h) c.requires.kept.order

pub returns-clause-keeps : goal.returns-clause-keeps
returns-clause-keeps c =
    let kept = c.room_for_rule.ensures.kept in
    keeps_with (c.args.rule.now.head ∷ c.args.rule.now.body) c.args.self.now
    (record c.args.self.now { names = c.room_for_rule.new.names; index = c.room_for_rule.new.index; seen = c.room_for_rule.new.seen; labels = c.prepare.new.self }) c.requires.kept
    (record { labels = c.prepare.ensures.labels; facts = refl; pairs = refl; lines = kept.lines; lowers = kept.lowers; uppers = kept.uppers })
    c.room_for_rule.ensures.distinct c.room_for_rule.ensures.paired c.room_for_rule.ensures.grown (λ h. h) c.requires.kept.order
