use Rattle.std.proofs.Common.{◌≡◌, [], ◌∷◌, ◌++◌, ◌+◌, ◌<◌, ℕ, List, Some, take, map, length, sym, ap, ◌∙◌, arith}
use Rattle.std.specs.Prelude.{slice_get}
use Rattle.std.proofs.lemmas.List.{map_more}
use Rattle.std.proofs.lemmas.Option.{get_or_from_slice_get}
use Rattle.dl_sup.specs.declared.link.Link.{Link}
use Rattle.dl_lists.specs.Pairs.{PairLists}
use Rattle.dl_net.proofs.PairRules.{told}
use Rattle.dl_net.proofs.load.pair_numbers.Goals as goal

pub loop-at-preserved : goal.loop-at-preserved
loop-at-preserved c =
    let links : List Link = c.args.pairs.now in
    let i : ℕ = c.loop-at.at in
    let pair : Link = record { upper = c.in-Some.upper; lower = c.in-Some.lower } in
    let t = told (slice_get links i) c.in-Some.upper c.in-Some.lower (sym c.rules_of.ensures ∙ c.in-Some.is) in
    let step = c.in_ok-prepare-in-Some.ensures in
    let within : i < length links = omega (arith, c.loop-at-test.true, c.len-at-end.ensures) in
    let items : c.put.new.self.items ≡ map Some (take (i + 1) links) =
    c.put.ensures.items
    ∙ (λ j. (step.items ∙ ap (λ (p : PairLists). p.items) c.loop-at.invariant) j ++ (step.ready ∙ ap Some (sym (get_or_from_slice_get links i t.link pair t.stands ∙ t.is))) j ∷ [])
    ∙ sym (map_more Some links i pair within) in
    λ j. record {
      items = items j;
      ready = c.put.ensures.ready j;
      leaving = c.put.ensures.leaving j;
      clearing = c.put.ensures.clearing j;
    }
