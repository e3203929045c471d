use Rattle.std.proofs.Common.{◌+◌, Some, ap, ◌∙◌}
use Rattle.std.proofs.lemmas.Option.{slice_get_within}
use Rattle.dl_names.specs.Pairs.{same_atom}
use Rattle.dl_names.proofs.PairLemmas.{slice_get-append_left}
use Rattle.dl_names.proofs.PartLemmas.{position_left, position_right, slice_get-append_right}
use Rattle.dl_names.proofs.shared_pairs.find_in_both.Goals as goal

pub returns-in-Some-clause-place : goal.returns-in-Some-clause-place
returns-in-Some-clause-place c =
    position_left (same_atom c.args.literal.now) c.args.shared.now c.args.later.now c.args.literal.now c.in-Some.found.0 c.in-Some.ensures.place

pub returns-in-Some-clause-sign : goal.returns-in-Some-clause-sign
returns-in-Some-clause-sign c =
    let s = c.in-Some.ensures.sign in (
      s.0,
      slice_get-append_left c.args.shared.now c.args.later.now c.in-Some.found.0 (slice_get_within c.args.shared.now c.in-Some.found.0 s.0 s.1) ∙ s.1,
      s.2,
    )

pub returns-in-Some-find-clause-place : goal.returns-in-Some-find-clause-place
returns-in-Some-find-clause-place c =
    ap (λ n. Some (n + c.in-Some-find.place)) c.len.ensures
    ∙ position_right (same_atom c.args.literal.now) c.args.shared.now c.args.later.now c.args.literal.now c.in-Some-find.place c.in_default.ensures.absent
    c.in-Some-find.ensures.place

pub returns-in-Some-find-clause-sign : goal.returns-in-Some-find-clause-sign
returns-in-Some-find-clause-sign c =
    let s = c.in-Some-find.ensures.sign in (
      s.0,
      slice_get-append_right c.args.shared.now c.args.later.now (c.len.result + c.in-Some-find.place) c.in-Some-find.place
          (ap (λ n. n + c.in-Some-find.place) c.len.ensures) ∙ s.1,
      s.2,
    )
