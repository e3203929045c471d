-- What holds of each call that is generated behind the enrolment.
use Rattle.std.proofs.Common.{ℕ, zero, suc, ◌+◌, ◌%◌, ◌==◌, Bool, true, false, if◌then◌else◌, List, [], ◌∷◌, ◌++◌, flat_map, sym, subst}
use Rattle.std.specs.Prelude.{All}
use Rattle.std.proofs.lemmas.List.Concat.{flat_map-append}
use Rattle.std.proofs.lemmas.List.Elements.{All-nil, All-cons, All-append}
use Rattle.dl_calls.specs.declared.call.Call.{Call}
use Rattle.dl_calls.specs.declared.call.Call.TheVariants.{Edit, Publish}
use Rattle.dl_draw.specs.Generator.{draw_each, draw_edit, draw_calls, draw_lists}

-- what holds of each edit that is drawn, and of a publication
module _ (P : Call → Type 0) (edits : (size k x : ℕ) → P (Edit (draw_edit size k x).value)) (publish : P Publish) where
  maybe_published : (b : Bool) → All P (if b then Publish ∷ [] else [])
  maybe_published true = All-cons P Publish [] publish (All-nil P)
  maybe_published false = All-nil P

  each_drawn : (size k x : ℕ) → All P (draw_calls size k x).value
  unfolding draw_calls
  each_drawn size k x = All-cons P _ _ (edits size k x) (maybe_published ((k + 1) % 64 == 0))

  each_turn : (size n x : ℕ) → All P (flat_map (λ calls. calls) (draw_each (draw_calls size) n x).value)
  each_turn size zero x = All-nil P
  each_turn size (suc n) x =
      let before = draw_each (draw_calls size) n x in
      let last = draw_calls size n before.state in
      subst (λ (calls : List Call). All P calls) (sym (flat_map-append (λ calls. calls) before.value (last.value ∷ [])))
      (All-append P _ _ (each_turn size n x) (All-append P last.value [] (each_drawn size n before.state) (All-nil P)))

  pub each_call : (seed size : ℕ) → All P (flat_map (λ calls. calls) (draw_each (draw_calls size) size (draw_lists size seed).state).value ++ Publish ∷ [])
  each_call seed size =
      All-append P _ (Publish ∷ []) (each_turn size size (draw_lists size seed).state) (All-cons P Publish [] publish (All-nil P))
