use Rattle.std.proofs.Common.{rules}
use Rattle.std.specs.Prelude.{not, ◌||◌}
use Rattle.std.specs.Str.{bytes_eq}
use Rattle.std.proofs.lemmas.Fn.{filter_same}
use Rattle.dl_theory.proofs.superiority.drop_naming.Goals as goal

pub returns-clause-pairs : goal.returns-clause-pairs
returns-clause-pairs c =
    filter_same _ (λ p. not (bytes_eq p.upper c.args.label.now || bytes_eq p.lower c.args.label.now)) _ (λ x b f' k. search rules) _ _ c.retain.ensures.filtered
