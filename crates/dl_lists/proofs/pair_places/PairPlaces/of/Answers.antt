use Rattle.std.proofs.Common.{◌≡◌, ℕ, ◌+◌, ◌<◌, Option, None, List, length, get_or, take, ap, sym, subst, ◌∙◌, arith}
use Rattle.std.proofs.lemmas.List.{get_or-map, length-map, take_all}
use Rattle.dl_sup.specs.declared.link.Link.{Link}
use Rattle.dl_lists.specs.declared.pair_places.PairPlaces.{PairPlaces}
use Rattle.dl_lists.specs.declared.pair_slot.PairSlot.{PairSlot}
use Rattle.dl_lists.specs.KeptPairs.{ArePlaced, pair_in, pairs_in}
use Rattle.dl_lists.proofs.PairLemmas.{placed_kept, front_pair, front_past}
use Rattle.dl_lists.proofs.pair_places.PairPlaces.of.Goals as goal
use Rattle.dl_lists.proofs.pair_places.PairPlaces.of.Goals.{in-Some+in_ok-reserve, in_default}

pub loop-number-preserved : goal.loop-number-preserved
loop-number-preserved c =
    let slots : List PairSlot = c.args.pairs.now.items in
    let xs : List (Option Link) = pairs_in slots in
    let n : ℕ = c.loop-number.number in
    let now : PairPlaces = c.loop-number.places in
    let lt : n < length slots = omega (arith, c.loop-number-test.true, c.len-number-end.ensures) in
    let within : n < length xs = omega (arith, lt, length-map slots pair_in) in
    let read : c.pair.result ≡ get_or xs n None =
    c.pair.ensures ∙ ap pair_in c.at.ensures ∙ sym (get_or-map pair_in slots n c.at.result.now None lt) in
    elim c.match-pair.branch [
      | in-Some+in_ok-reserve w ↦
          subst (λ (p : PairPlaces). ArePlaced (take (n + 1) xs) p.uppers p.lowers) (sym w.places-is)
          (front_pair xs n w.reserve.new.self.uppers w.reserve.new.self.lowers w.put.new.self.uppers w.put.new.self.lowers within
          (placed_kept (take n xs) now.uppers now.lowers w.reserve.new.self.uppers w.reserve.new.self.lowers c.loop-number.invariant
          w.in_ok-reserve.ensures.uppers w.in_ok-reserve.ensures.lowers)
          w.in-Some.pair (sym read ∙ w.in-Some.is) w.put.ensures)
      | in_default w ↦
          subst (λ (p : PairPlaces). ArePlaced (take (n + 1) xs) p.uppers p.lowers) (sym w.places-is)
          (front_past xs n now.uppers now.lowers now.uppers now.lowers within c.loop-number.invariant (sym read ∙ w.in_default.is))
    ]

pub returns : goal.returns
returns c =
    let xs : List (Option Link) = pairs_in c.args.pairs.now.items in
    subst (λ (l : List (Option Link)). ArePlaced l c.loop-number.places.uppers c.loop-number.places.lowers)
    (take_all c.loop-number.number xs
    (omega (arith, c.loop-number-test.false, c.len-number-end.ensures, length-map c.args.pairs.now.items pair_in)))
    c.loop-number.invariant
