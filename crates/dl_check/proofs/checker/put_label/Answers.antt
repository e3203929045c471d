use Rattle.std.proofs.Common.{◌≡◌, ℕ, cond, true, List, sym, subst, ◌∙◌}
use Rattle.std.specs.Set.{is_member}
use Rattle.std.specs.Str.{bytes_eq}
use Rattle.dl_check.specs.Derived.{is_derived}
use Rattle.dl_check.specs.Bands.{is_in}
use Rattle.dl_check.proofs.Quantified.{put_in, left_out}
use Rattle.dl_check.proofs.checker.put_label.Goals as goal

pub returns-then-not-is_in : goal.returns-then-not-is_in
returns-then-not-is_in c = λ l.
    left_out (is_member bytes_eq c.args.labels.now.keys l) (bytes_eq c.args.rule.now.label l) (is_in (is_derived c.args.derived.now) c.args.band c.args.rule.now)
    (sym c.is_in.ensures ∙ c.if-not-is_in.true)

pub returns : goal.returns
returns c = λ l.
    let label : c.in_ok-copy.field-0 ≡ c.args.rule.now.label = c.in_ok-copy.ensures in
    put_in (is_member bytes_eq c.insert.new.self.keys l) (is_member bytes_eq c.args.labels.now.keys l) (bytes_eq c.args.rule.now.label l)
    (is_in (is_derived c.args.derived.now) c.args.band c.args.rule.now)
    (subst (λ (n : List ℕ). is_member bytes_eq c.insert.new.self.keys l ≡ cond (bytes_eq n l) true (is_member bytes_eq c.args.labels.now.keys l)) label
    (c.in_ok-insert.ensures.updates.0 l))
    (sym c.is_in.ensures ∙ c.if-not-is_in.false)
