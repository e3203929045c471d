use Rattle.std.proofs.Common.{◌-◌, Some, ap, sym, ◌∙◌}
use Rattle.std.specs.Prelude.{slice_get}
use Rattle.dl_calls.specs.Histories.{state_after}
use Rattle.dl_gen.proofs.run.summary_of.Goals as goal

pub returns : goal.returns
returns g c =
    let editions = (state_after c.args.board.now.start c.args.board.now.history).editions in
    let replay = c.requires.replay in
    record {
      accepted = replay.accepted;
      refused = replay.refused;
      editions = c.published-editions.ensures;
      last = c.args.replay.draft;
      published = ap (λ n. slice_get editions (n - 1)) c.published-editions.ensures ∙ c.requires.last ∙ ap (λ T. Some T) (sym replay.draft);
      facts = c.facts_len.ensures.value;
      rules = c.rules_len.ensures.value;
      pairs = c.pairs_len.ensures.value;
      survey = c.in_ok-surveyed.ensures.survey;
    }
