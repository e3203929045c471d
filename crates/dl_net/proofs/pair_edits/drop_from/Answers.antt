use Rattle.std.proofs.Common.{Some, ap, sym, ◌∙◌}
use Rattle.std.specs.Prelude.{option_map, filter, not}
use Rattle.dl_sup.specs.Links.{same_link}
use Rattle.dl_theory.proofs.Numbers.{after_drop}
use Rattle.dl_net.proofs.pair_edits.drop_from.Goals as goal

pub returns-in-Some : goal.returns-in-Some
returns-in-Some c =
    ap Some (after_drop c.in-Some.order c.drop_pair.new.self c.args.link c.drop_pair.result c.drop_pair.ensures.dropped c.drop_pair.ensures.absent c.drop_pair.ensures.kept)
    ∙ ap (option_map (filter (λ p. not (same_link p c.args.link)))) (sym c.in-Some.is)
