-- Edges lead to nodes that have a place.
use Rattle.std.proofs.Common.{ℕ, ◌*◌, ◌/◌, ◌%◌, ◌<◌, ◌≤◌, ◌==◌, Bool, true, false, cond, List, [], ◌∷◌, length, inl, inr, sym, subst, ap, arith}
use Rattle.std.proofs.lemmas.Bool.{cases_eq}
use Rattle.std.proofs.lemmas.List.Concat.{flat_map-cons}
use Rattle.dl_theory.specs.Lists.{is_strict, can_support, attackers}
use Rattle.dl_graph.specs.Counting.{times}
use Rattle.dl_fill.proofs.Times.{times-append}
use Rattle.dl_graph.specs.Numbers.{NetLists, IsNumbered, rule_at, of_rule, number, body_row, backs_row, proves_row, opposes_row, uppers_row, next}
use Rattle.dl_graph.specs.declared.link.Link.{Link}
use Rattle.dl_graph.specs.declared.link.Link.TheVariants.{Same, Uses, Backs, Proves, Opposes, Defends, Counters}
use Rattle.dl_graph.proofs.Slots.{rule_within, row_has}
use Rattle.dl_fill.proofs.Rows.{places_turned}
use Rattle.dl_fill.proofs.Links.{links_turned, single, kind_row, head_in, number_inside, numbers_sound, attacker_named}
use Rattle.dl_fill.specs.declared.wire.Wire.{Wire}
use Rattle.dl_fill.specs.Wires.{through, edges_by, edges, AreKinds}
use Rattle.dl_fill.proofs.Nodes.{node_inside, place_inside}
use Rattle.dl_fill.proofs.Members.{through_is}

module _ (N : NetLists) (numbered : IsNumbered N) (s room : ℕ) (names : length N.names ≤ room) (rules : length N.rules ≤ room) where
  next_inside : (link : Link) (x j : ℕ) → x < room → 0 < times j (next N link x) → j < room
  next_inside Same x j lt m = subst (λ (v : ℕ). v < room) (sym (single j x m)) lt
  next_inside Uses x j lt m =
      let r = row_has N (body_row N) j x (omega (arith, m, places_turned (of_rule (body_row N)) N.rules j x)) in omega (arith, rule_within N j r.0)
  next_inside Backs x j lt m =
      let r = row_has N (backs_row N) x j m in
      let k = kind_row N numbered (can_support (rule_at N x).kind) j (number N (rule_at N x).head) r.1 in
      omega (arith, k.1, number_inside N numbered (rule_at N x).head (head_in N numbered x r.0))
  next_inside Proves x j lt m =
      let r = row_has N (proves_row N) x j m in
      let k = kind_row N numbered (is_strict (rule_at N x).kind) j (number N (rule_at N x).head) r.1 in
      omega (arith, k.1, number_inside N numbered (rule_at N x).head (head_in N numbered x r.0))
  next_inside Opposes x j lt m =
      let r = row_has N (opposes_row N) x j m in
      let n = numbers_sound N numbered (attackers N.theory (rule_at N x).head) j r.1 in
      subst (λ (v : ℕ). v < room) n.2 (omega (arith, number_inside N numbered n.0 (attacker_named N numbered (rule_at N x).head n.0 (head_in N numbered x r.0) n.1)))
  next_inside Defends x j lt m =
      let r = row_has N (uppers_row N (λ t. can_support t.kind)) j x (omega (arith, m, links_turned N Defends x j)) in omega (arith, rule_within N j r.0)
  next_inside Counters x j lt m =
      let r = row_has N (uppers_row N (λ t. true)) j x (omega (arith, m, links_turned N Counters x j)) in omega (arith, rule_within N j r.0)

  by_inside : (w : Wire) (x y : ℕ) → w.to < s → x < room * s → 0 < times y (edges_by N s x w) → y < room * s
  by_inside w x y small lt m =
      let wired : (b : Bool) → 0 < times y (cond b (through s w.to (next N w.link (x / s))) []) → 0 < times y (through s w.to (next N w.link (x / s))) =
      λ b. elim b as (λ b. 0 < times y (cond b (through s w.to (next N w.link (x / s))) []) → 0 < times y (through s w.to (next N w.link (x / s)))) [
        | true ↦ λ h. h
        | false ↦ λ h. absurd (omega arith)
      ] in
      let r = through_is s w.to y (next N w.link (x / s)) small (wired (w.from == x % s) m) in
      subst (λ (v : ℕ). v < room * s) r.2
      (node_inside s room r.0 w.to small (next_inside w.link (x / s) r.0 (place_inside s room x (omega arith) lt) r.1))

  pub edges_inside : (wires : List Wire) → AreKinds s wires → (x y : ℕ) → x < room * s → 0 < times y (edges N s wires x) → y < room * s
  edges_inside [] kinds x y lt m = absurd (omega arith)
  edges_inside (w ∷ ws) kinds x y lt m =
      elim (cases_eq (times y (edges_by N s x w)) 0) [
        | inl none ↦
            edges_inside ws kinds.2 x y lt
            (omega (arith, m, ap (times y) (flat_map-cons (edges_by N s x) w ws), times-append y (edges_by N s x w) (edges N s ws x)))
        | inr some ↦ by_inside w x y kinds.1 lt (omega arith)
      ]
