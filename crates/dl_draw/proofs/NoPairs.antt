-- No call that is generated adds a pair.
use Rattle.std.proofs.Common.{ℕ, ◌==◌, Bool, true, false, if◌then◌else◌}
use Rattle.std.specs.Prelude.{All}
use Rattle.std.proofs.lemmas.List.Elements.{All-cons}
use Rattle.dl_theory.specs.declared.edit.Edit as edit
use Rattle.dl_calls.specs.declared.call.Call.TheVariants.{Enrol, Edit}
use Rattle.dl_draw.specs.Generator.{Drawn, draw, draw_dropped_rule, draw_added_rule, draw_added_fact, draw_dropped_fact, draw_edit, generated_calls, AddsNoPair}
use Rattle.dl_draw.proofs.EachCall.{each_call}

one_of_four : (a b c : Bool) (w x y z : Drawn edit.Edit) → AddsNoPair (Edit w.value) → AddsNoPair (Edit x.value) → AddsNoPair (Edit y.value)
    → AddsNoPair (Edit z.value) → AddsNoPair (Edit (if a then w else (if b then x else (if c then y else z))).value)
one_of_four true b c w x y z hw hx hy hz = hw
one_of_four false true c w x y z hw hx hy hz = hx
one_of_four false false true w x y z hw hx hy hz = hy
one_of_four false false false w x y z hw hx hy hz = hz

edit_adds_none : (size k x : ℕ) → AddsNoPair (Edit (draw_edit size k x).value)
unfolding draw_edit
edit_adds_none size k x =
    let choice = draw 4 x in
    one_of_four (choice.value == 0) (choice.value == 1) (choice.value == 2) (draw_dropped_rule size choice.state) (draw_added_rule size k choice.state)
    (draw_added_fact size choice.state) (draw_dropped_fact size choice.state) tt tt tt tt

pub calls_add_no_pair : (seed size : ℕ) → All AddsNoPair (generated_calls seed size)
calls_add_no_pair seed size = All-cons AddsNoPair Enrol _ tt (each_call AddsNoPair edit_adds_none tt seed size)
