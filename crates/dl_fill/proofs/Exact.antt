-- At the end of a run exactly the nodes have fired that have their meaning.
use Rattle.std.proofs.Common.{◌≡◌, ℕ, ◌+◌, ◌*◌, ◌/◌, ◌%◌, ◌<◌, ◌≤◌, Bool, true, false, List, length, inl, inr, sym, subst, ap, ◌∙◌, arith}
use Rattle.std.specs.Prelude.{Contains}
use Rattle.std.proofs.lemmas.List.Elements.{Contains-get_or}
use Rattle.dl_lit.specs.declared.literal.Family.{Family}
use Rattle.dl_theory.specs.Verdicts.{needs}
use Rattle.dl_theory.proofs.Within.{IsClosedUnder}
use Rattle.dl_graph.specs.Counting.{times}
use Rattle.dl_graph.specs.Numbers.{NetLists, IsNumbered}
use Rattle.dl_fill.specs.Counters.{CounterLists}
use Rattle.dl_fill.specs.declared.wire.Wire.{Wire}
use Rattle.dl_fill.specs.declared.wire.Gate.{Gate}
use Rattle.std.specs.Prelude.{nat_lt, cond}
use Rattle.std.proofs.lemmas.Bool.{lt-ltb, ltb-true}
use Rattle.dl_fill.specs.declared.wire.Gate.TheVariants.{Never}
use Rattle.dl_fill.specs.Before.{Before, is_inside}
use Rattle.dl_fill.specs.Prepared.{is_touched, is_touched_at, touched_gate}
use Rattle.dl_fill.proofs.Gating.{known, open_gate, close_gate}
use Rattle.dl_fill.specs.Wires.{edges, inputs, inputs_at, AreKinds, IsLive}
use Rattle.dl_fill.specs.Gates.{Passes}
use Rattle.dl_fill.specs.Runs.{HasRun}
use Rattle.dl_fill.proofs.Engine.{IsClosedFrom, IsSettled}
use Rattle.dl_fill.proofs.Nodes.{place_of, kind_of, node_inside}
use Rattle.dl_fill.proofs.Network.{start, given, free, turned, closed_from, settled_has}
use Rattle.dl_fill.proofs.Begun.{run_settles}
use Rattle.dl_fill.proofs.Links.{attacker_named}

-- the literals that have numbers are enough by themselves
pub names_closed : (N : NetLists) → IsNumbered N → (Ours : Family → Type 0) → ((f g : Family) → Contains (needs f) g → Ours f → Ours g)
    → IsClosedUnder N.theory Ours (Contains N.names)
names_closed N numbered Ours families = record {
  families = families;
  attacked = λ q c h m. attacker_named N numbered q c h m;
  bodies = λ r m h k d lt.
      let c = Contains-get_or r.body k d lt in
      numbered.mentioned _ (inl (inr (m.0, r, m.1, m.2, inr c)));
}

-- M says what a node of a kind at a place means; each gate keeps it, and a node that leads to bodies is inside
module _ (N : NetLists) (b : Before) (members : List ℕ) (s literals : ℕ) (wires : List Wire) (kinds : AreKinds s wires) (gate : ℕ → ℕ → Gate) (M : ℕ → ℕ → Type 0)
    (live : (y : ℕ) → M (y % s) (y / s) → IsLive b.inside s wires y) (rules : List ℕ)
    (step : (k i : ℕ) → is_touched_at literals members rules k i ≡ true → Passes (λ y. M (y % s) (y / s)) (gate k i) (inputs_at N b.inside s wires k i) → M k i) (w : CounterLists)
    (run : HasRun N b members s literals wires gate rules w) where
  abbrev pub Means : ℕ → Type 0
  Means y = M (y % s) (y / s)

  abbrev gate_of : ℕ → Gate
  gate_of y = touched_gate s literals members rules gate y

  -- a node's meaning is that of its kind and place
  pub meaning : (k i : ℕ) → k < s → M ((i * s + k) % s) ((i * s + k) / s) → M k i
  meaning k i small m =
      subst (λ (v : ℕ). M v i) (kind_of s i k small) (subst (λ (v : ℕ). M ((i * s + k) % s) v) (place_of s i k small) m)

  step_of : (y : ℕ) → Passes Means (gate_of y) (inputs N b.inside s wires y) → Means y
  step_of y h =
      let o = open_gate Means (is_touched s literals members rules y) (gate (y % s) (y / s)) (inputs N b.inside s wires y) h in
      step (y % s) (y / s) o.0 o.1

  closed : IsClosedFrom (start (inputs N b.inside s wires) gate_of) (given (inputs N b.inside s wires) gate_of) (free (inputs N b.inside s wires) gate_of) (edges N s wires) Means
  closed = closed_from (inputs N b.inside s wires) gate_of (edges N s wires) Means (λ x y h. turned N b.inside s wires kinds x y (live x h)) step_of

  ended : IsSettled (start (inputs N b.inside s wires) gate_of) (given (inputs N b.inside s wires) gate_of) (free (inputs N b.inside s wires) gate_of) (edges N s wires) Means w
      × (length w.need ≡ length run.middle.need)
  ended = run_settles (inputs N b.inside s wires) gate_of (edges N s wires) Means closed run.middle w run.begun run.inside run.out

  -- what has fired has its meaning
  pub fired_means : (k i : ℕ) → k < s → 0 < times (i * s + k) w.queue → M k i
  fired_means k i small h = meaning k i small (ended.0.means (i * s + k) h)

  -- a node that is touched and whose gate is passed has fired
  pub fires : (places : ℕ) → length w.need ≡ places * s → (k i : ℕ) → k < s → i < places → is_touched_at literals members rules k i ≡ true
      → Passes (λ x. 0 < times x w.queue) (gate k i) (inputs_at N b.inside s wires k i) → 0 < times (i * s + k) w.queue
  fires places size k i small lt touched h =
      settled_has (inputs N b.inside s wires) gate_of (edges N s wires) Means (λ x y h. turned N b.inside s wires kinds x y (live x h)) w ended.0 (i * s + k)
      (subst (λ (n : ℕ). i * s + k < n) (sym size) (node_inside s places i k small lt))
      (subst (λ (v : ℕ). Passes (λ x. 0 < times x w.queue) (cond (is_touched_at literals members rules v ((i * s + k) / s)) (gate v ((i * s + k) / s)) Never) (inputs_at N b.inside s wires v ((i * s + k) / s))) (sym (kind_of s i k small))
      (subst (λ (v : ℕ). Passes (λ x. 0 < times x w.queue) (cond (is_touched_at literals members rules k v) (gate k v) Never) (inputs_at N b.inside s wires k v)) (sym (place_of s i k small))
      (close_gate (λ x. 0 < times x w.queue) (is_touched_at literals members rules k i) (gate k i) (inputs_at N b.inside s wires k i) touched h)))

-- a literal of the region is touched, and so is a rule that is among the rules
pub literal_touched : (literals : ℕ) (members rules : List ℕ) (k i : ℕ) → k < literals → 0 < times i members → is_touched_at literals members rules k i ≡ true
literal_touched literals members rules k i lt m =
    ap (λ (c : Bool). cond c (is_inside members i) (is_inside rules i)) (lt-ltb k literals lt) ∙ lt-ltb 0 (times i members) m

pub rule_touched : (literals : ℕ) (members rules : List ℕ) (k i : ℕ) → literals ≤ k → 0 < times i rules → is_touched_at literals members rules k i ≡ true
rule_touched literals members rules k i ge m =
    ap (λ (c : Bool). cond c (is_inside members i) (is_inside rules i)) (not_below k literals ge) ∙ lt-ltb 0 (times i rules) m
  where
    not_below : (k n : ℕ) → n ≤ k → nat_lt k n ≡ false
    not_below k n ge = elim (known (nat_lt k n)) [ inl e ↦ absurd (omega (arith, ge, ltb-true k n e)) | inr e ↦ e ]

pub touched_literal : (literals : ℕ) (members rules : List ℕ) (k i : ℕ) → k < literals → is_touched_at literals members rules k i ≡ true → is_inside members i ≡ true
touched_literal literals members rules k i lt e =
    sym (ap (λ (c : Bool). cond c (is_inside members i) (is_inside rules i)) (lt-ltb k literals lt)) ∙ e
