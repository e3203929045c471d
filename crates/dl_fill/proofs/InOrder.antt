-- In a queue after a run, each node's gate is passed by nodes that stand before it.
use Rattle.std.proofs.Common.{◌≡◌, ℕ, ◌-◌, ◌/◌, ◌%◌, ◌<◌, ◌≤◌, Bool, true, List, [], ◌∷◌, ◌++◌, length, take, get_or, sym, subst, ap, refl, ◌∙◌, arith, append_assoc, length-append}
use Rattle.std.proofs.lemmas.List.{take_at}
use Rattle.std.proofs.lemmas.List.{get_or-append_right}
use Rattle.dl_graph.specs.Counting.{times}
use Rattle.dl_graph.specs.Numbers.{NetLists}
use Rattle.dl_fill.specs.Counters.{CounterLists}
use Rattle.dl_fill.specs.declared.wire.Wire.{Wire}
use Rattle.dl_fill.specs.declared.wire.Gate.{Gate}
use Rattle.dl_fill.specs.declared.wire.Gate.TheVariants.{Every, Either, Now, Never}
use Rattle.dl_fill.specs.Wires.{edges, inputs, IsLive}
use Rattle.dl_fill.specs.Tables.{IsTable}
use Rattle.dl_fill.specs.Gates.{Passes}
use Rattle.dl_fill.specs.Runs.{HasRun}
use Rattle.dl_fill.specs.Passing.{Passing, IsOrdered}
use Rattle.dl_fill.specs.Before.{before_of, is_inside}
use Rattle.dl_fill.specs.Prepared.{is_touched, touched_gate}
use Rattle.dl_marks.specs.Marks.{Marking}
use Rattle.dl_graph.specs.Region.{Numbers}
use Rattle.dl_fill.proofs.Exact.{touched_literal}
use Rattle.dl_fill.proofs.Gating.{open_gate}
use Rattle.dl_fill.proofs.Tables.{live_here}
use Rattle.dl_fill.proofs.Times.{times-append, times_cons_same}
use Rattle.dl_fill.proofs.Engine.{IsClosedFrom, IsSettled}
use Rattle.dl_fill.proofs.Network.{start, given, free, turned, closed_from, settled_order}
use Rattle.dl_fill.proofs.Begun.{run_settles}

pub passes_more : (P Q : ℕ → Type 0) → ((x : ℕ) → P x → Q x) → (g : Gate) (xs : List ℕ) → Passes P g xs → Passes Q g xs
passes_more P Q f Every xs h = λ x m. f x (h x m)
passes_more P Q f Either xs h = (h.0, h.1, f h.0 h.2)
passes_more P Q f Now xs h = tt
passes_more P Q f Never xs h = absurd h

module _ (inputs : ℕ → List ℕ) (gate : ℕ → Gate) where
  abbrev PassesAt : List ℕ → ℕ → Type 0
  PassesAt q i = Passes (λ x. 0 < times x (take i q)) (gate (get_or q i 0)) (inputs (get_or q i 0))

  passing_from : (before rest : List ℕ) → ((x : ℕ) → times x (before ++ rest) ≤ 1)
      → ((i : ℕ) → i < length (before ++ rest) → PassesAt (before ++ rest) i) → Passing inputs gate before rest
  passing_from before [] once h = tt
  passing_from before (y ∷ rest) once h =
      let long : length before < length (before ++ y ∷ rest) = omega (arith, length-append before (y ∷ rest)) in
      let here : PassesAt (before ++ y ∷ rest) (length before) = h (length before) long in
      let none : length before - length before ≡ 0 = omega arith in
      let this : get_or (before ++ y ∷ rest) (length before) 0 ≡ y =
      get_or-append_right before (y ∷ rest) (length before) (length before) 0 refl (omega arith) ∙ ap (λ (n : ℕ). get_or (y ∷ rest) n 0) none in
      let front : take (length before) (before ++ y ∷ rest) ≡ before = take_at before (y ∷ rest) (length before) refl in
      let turned : before ++ y ∷ rest ≡ (before ++ y ∷ []) ++ rest = sym (append_assoc before (y ∷ []) rest) in (
        omega (arith, once y, times-append y before (y ∷ rest), times_cons_same y y rest refl),
        subst (λ (v : ℕ). Passes (λ x. 0 < times x before) (gate v) (inputs v)) this
            (subst (λ (xs : List ℕ). Passes (λ x. 0 < times x xs) (gate (get_or (before ++ y ∷ rest) (length before) 0)) (inputs (get_or (before ++ y ∷ rest) (length before) 0))) front here),
        passing_from (before ++ y ∷ []) rest
            (subst (λ (q : List ℕ). (x : ℕ) → times x q ≤ 1) turned once)
            (subst (λ (q : List ℕ). (i : ℕ) → i < length q → PassesAt q i) turned h),
      )

-- a front of such a list
pub passing_front : (inputs : ℕ → List ℕ) (gate : ℕ → Gate) (before xs ys : List ℕ) → Passing inputs gate before (xs ++ ys) → Passing inputs gate before xs
passing_front inputs gate before [] ys p = tt
passing_front inputs gate before (x ∷ xs) ys p = (p.0, p.1, passing_front inputs gate (before ++ x ∷ []) xs ys p.2)

-- after a run over what a region touches, the queue as a whole
module _ (N : NetLists) (m : Marking) (region : Numbers) (s literals : ℕ) (wires : List Wire) (table : IsTable s literals wires) (gate : ℕ → ℕ → Gate)
    (rules : List ℕ) (w : CounterLists) (run : HasRun N (before_of m region) region.members s literals wires gate rules w) where
  abbrev inside : ℕ → Bool
  inside q = is_inside region.members q

  abbrev gate_of : ℕ → Gate
  gate_of y = touched_gate s literals region.members rules gate y

  abbrev IsTouched : ℕ → Type 0
  IsTouched y = is_touched s literals region.members rules y ≡ true

  at_literal : (y : ℕ) → IsTouched y → y % s < literals → inside (y / s) ≡ true
  at_literal y touched lt = touched_literal literals region.members rules (y % s) (y / s) lt touched

  live : (y : ℕ) → IsTouched y → IsLive inside s wires y
  live y touched = live_here inside s literals y wires table.bodies (at_literal y touched)

  opened : (P : ℕ → Type 0) (y : ℕ) → Passes P (gate_of y) (inputs N inside s wires y) → IsTouched y × Passes P (gate (y % s) (y / s)) (inputs N inside s wires y)
  opened P y h = open_gate P (is_touched s literals region.members rules y) (gate (y % s) (y / s)) (inputs N inside s wires y) h

  closed : IsClosedFrom (start (inputs N inside s wires) gate_of) (given (inputs N inside s wires) gate_of) (free (inputs N inside s wires) gate_of) (edges N s wires) IsTouched
  closed =
      closed_from (inputs N inside s wires) gate_of (edges N s wires) IsTouched (λ x y h. turned N inside s wires table.kinds x y (live x h))
      (λ y h. (opened IsTouched y h).0)

  ended : IsSettled (start (inputs N inside s wires) gate_of) (given (inputs N inside s wires) gate_of) (free (inputs N inside s wires) gate_of) (edges N s wires) IsTouched w
  ended = (run_settles (inputs N inside s wires) gate_of (edges N s wires) IsTouched closed run.middle w run.begun run.inside run.out).0

  pub run_inside : (y : ℕ) → 0 < times y w.queue → y < length w.need
  run_inside = ended.inside

  plain : (before rest : List ℕ) → Passing (inputs N inside s wires) gate_of before rest → Passing (inputs N inside s wires) (λ y. gate (y % s) (y / s)) before rest
  plain before [] p = tt
  plain before (y ∷ rest) p = (p.0, (opened (λ x. 0 < times x before) y p.1).1, plain (before ++ y ∷ []) rest p.2)

  pub run_ordered : IsOrdered N (before_of m region) s literals wires gate w.queue
  run_ordered = record {
    passing =
        plain [] w.queue
        (passing_from (inputs N inside s wires) gate_of [] w.queue (λ x. ended.once x)
        (settled_order (inputs N inside s wires) gate_of (edges N s wires) IsTouched (λ x y h. turned N inside s wires table.kinds x y (live x h)) w ended));
    here = λ y h lt. at_literal y (ended.means y h) lt;
  }
