-- Counters that have run over a region: their nodes are in order, there is room for all, and exactly what follows has fired.
use Rattle.std.proofs.Common.{◌≡◌, ℕ, ◌+◌, ◌*◌, ◌/◌, ◌%◌, ◌<◌, ◌≤◌, Bool, true, false, List, [], length, get_or, inl, inr, sym, subst, ap, refl, ◌∙◌, arith}
use Rattle.std.specs.Prelude.{Contains}
use Rattle.dl_lit.specs.declared.literal.Family.{Family}
use Rattle.dl_lit.specs.Literal.{tagged}
use Rattle.dl_theory.specs.Derivations.{Follows}
use Rattle.dl_theory.specs.Verdicts.{needs, Reaches}
use Rattle.dl_marks.specs.Marks.{Marking}
use Rattle.dl_graph.specs.Region.{Numbers}
use Rattle.dl_graph.specs.Counting.{times}
use Rattle.dl_graph.specs.Numbers.{NetLists, IsNumbered, literal_at}
use Rattle.dl_fill.specs.declared.wire.Gate.{Gate}
use Rattle.dl_fill.specs.Before.{Before, before_of, is_inside, IsExact}
use Rattle.dl_fill.specs.Counters.{CounterLists}
use Rattle.dl_fill.specs.Passing.{Passing, IsOrdered}
use Rattle.dl_fill.specs.Families.{FamilyTable, IsFilledBy, IsSound}
use Rattle.dl_fill.specs.Filled.{IsSolved, HasFired}
use Rattle.dl_fill.specs.Pruned.{IsPruned}
use Rattle.dl_fill.specs.Wires.{inputs, IsLive}
use Rattle.dl_fill.proofs.InOrder.{passing_front, run_ordered, run_inside}
use Rattle.dl_fill.proofs.Nodes.{place_of}
use Rattle.dl_fill.proofs.Pruning.{pruned_ordered}
use Rattle.dl_fill.proofs.Tables.{live_here}
use Rattle.dl_fill.proofs.Times.{times-append}
use Rattle.dl_fill.proofs.Written.{times_contains}
use Rattle.dl_derive.specs.Back.{IsBack}
use Rattle.dl_derive.specs.Ways.{IsRun, IsWay, IsFrontTo}

-- how many places there are
pub places_in : (s n len : ℕ) → 0 < s → len ≡ n * s → len / s ≡ n
places_in s n len pos e =
    let p : (n * s + 0) / s ≡ n = place_of s n 0 pos in
    let z : n * s + 0 ≡ len = omega (arith, e) in
    subst (λ (v : ℕ). v / s ≡ n) z p

module _ (t : FamilyTable) (gate : NetLists → Before → ℕ → ℕ → Gate) (sound : IsSound t gate) (N : NetLists) (m : Marking) (region touched : Numbers)
    (w : CounterLists) (run : IsRun t gate N m region touched w) where
  pub queue_ordered : IsOrdered N (before_of m region) t.width t.literals t.wires (gate N (before_of m region)) w.queue
  queue_ordered = run_ordered N m region t.width t.literals t.wires sound.table (gate N (before_of m region)) touched.members w run.run

  pub queue_inside : (y : ℕ) → 0 < times y w.queue → y < length w.need
  queue_inside = run_inside N m region t.width t.literals t.wires sound.table (gate N (before_of m region)) touched.members w run.run

  pub nodes_live : (nodes : List ℕ) → IsOrdered N (before_of m region) t.width t.literals t.wires (gate N (before_of m region)) nodes → (x : ℕ)
      → 0 < times x nodes → IsLive (is_inside region.members) t.width t.wires x
  nodes_live nodes ordered x h = live_here (is_inside region.members) t.width t.literals x t.wires sound.table.bodies (ordered.here x h)

  module _ (len : ℕ) (is : len ≡ length w.need) where
    places : len / t.width ≡ touched.bound
    places = places_in t.width touched.bound len (omega (arith, sound.table.rules)) (is ∙ run.size)

    pub room_whole : len / t.width * t.width ≡ len
    room_whole = ap (λ (v : ℕ). v * t.width) places ∙ sym (is ∙ run.size)

    pub room_names : length N.names ≤ len / t.width
    room_names = subst (λ (v : ℕ). length N.names ≤ v) (sym places) run.names

    pub room_rules : length N.rules ≤ len / t.width
    room_rules = subst (λ (v : ℕ). length N.rules ≤ v) (sym places) run.rules

  -- the nodes up to one of the queue
  module _ (node : ℕ) (nodes : List ℕ) (front : IsFrontTo w.queue node nodes) where
    front_has : (x : ℕ) → 0 < times x nodes → 0 < times x w.queue
    front_has x h = omega (arith, h, ap (times x) front.whole, times-append x nodes front.rest)

    pub front_in_order : IsOrdered N (before_of m region) t.width t.literals t.wires (gate N (before_of m region)) nodes
    front_in_order = record {
      passing =
          passing_front (inputs N (is_inside region.members) t.width t.wires) (λ y. gate N (before_of m region) (y % t.width) (y / t.width)) [] nodes front.rest
          (subst (Passing (inputs N (is_inside region.members) t.width t.wires) (λ y. gate N (before_of m region) (y % t.width) (y / t.width)) []) front.whole
          queue_ordered.passing);
      here = λ y h. queue_ordered.here y (front_has y h);
    }

    pub front_in_room : (x : ℕ) → 0 < times x nodes → x < length w.need
    front_in_room x h = queue_inside x (front_has x h)

    -- what its last node rests on leads up to it
    pub front_leads : (wanted : List Bool) (kept : List ℕ) → get_or wanted node false ≡ true
        → IsPruned (inputs N (is_inside region.members) t.width t.wires) (λ y. gate N (before_of m region) (y % t.width) (y / t.width)) nodes wanted kept
        → IsWay t gate N m region node kept
    front_leads wanted kept is pruned =
        let l = pruned.last front.before node front.ends is in
        record {
          before = l.0;
          ends = l.1;
          ordered =
              pruned_ordered N (before_of m region) t.width t.literals t.wires (gate N (before_of m region)) nodes wanted kept front_in_order pruned;
        }

  -- exactly what follows has fired, in a family for which all marks are right that it needs
  pub run_solved : IsNumbered N → ((n : ℕ) → 0 < times n region.members → n < length N.names) → (f : Family) → IsFilledBy t f
      → ((h : Family) → Contains (needs f) h → IsExact N (before_of m region) h) → IsSolved N region.members (HasFired t.width (t.kind f) w) f
  run_solved numbered within f filled right =
      sound.solves N numbered m region (λ h below. right h (sound.needed f h filled (inl below)))
      (λ h ours plus q lt out. right h (sound.needed f h filled (inr ours)) plus q lt) within touched.members w run.run touched.bound run.size run.names run.rules
      f filled

  pub run_fired : IsNumbered N → (q : ℕ) → q < length N.names → IsBack N q region → (f : Family) → IsFilledBy t f
      → ((h : Family) → Contains (needs f) h → IsExact N (before_of m region) h) → (plus : Bool) → Follows N.theory (tagged plus f (literal_at N q))
      → 0 < times (q * t.width + t.kind f plus) w.queue
  run_fired numbered q lt all f filled right plus follows =
      (run_solved numbered (λ n h. ((all.members n).0 (times_contains n region.members h)).0) f filled right plus q
      ((all.members q).1 (lt, Reaches.start (literal_at N q) refl))).1 follows

  pub fired_inside : IsNumbered N → (q : ℕ) → q < length N.names → IsBack N q region → (f : Family) → IsFilledBy t f
      → ((h : Family) → Contains (needs f) h → IsExact N (before_of m region) h) → (plus : Bool) → Follows N.theory (tagged plus f (literal_at N q))
      → q * t.width + t.kind f plus < length w.need
  fired_inside numbered q lt all f filled right plus follows =
      queue_inside (q * t.width + t.kind f plus) (run_fired numbered q lt all f filled right plus follows)
