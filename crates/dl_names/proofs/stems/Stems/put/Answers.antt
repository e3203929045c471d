use Rattle.std.proofs.Common.{ℕ, ◌≡◌, ◌∙◌, Some, inl, inr, ap, sym, refl, subst, arith}
use Rattle.std.specs.Prelude.{slice_get}
use Rattle.std.specs.Vec.{with_item}
use Rattle.std.proofs.lemmas.Option.{slice_get-get_or}
use Rattle.dl_names.specs.declared.stems.Stem.{Stem}
use Rattle.dl_names.specs.declared.stems.Stems.{Stems}
use Rattle.dl_names.specs.Stems.{Knows}
use Rattle.dl_names.proofs.StemLemmas.{knows_set}
use Rattle.dl_names.proofs.stems.Stems.put.Goals as goal
use Rattle.dl_names.proofs.stems.Stems.put.Goals.{then-is_empty, else-is_empty}

pub returns-then-at-len : goal.returns-then-at-len
returns-then-at-len c =
    let now : Stems = c.if-is_empty.self in
    let at : ℕ = c.stem_at-at.result in
    let s : Stem = c.index_mut.result.now in
    let there : slice_get now.stems.items at ≡ Some s = slice_get-get_or now.stems.items at s (omega arith) ∙ ap Some (sym c.index_mut.ensures.value) in
    λ a n knows. elim (knows_set now (record { stems = with_item now.stems at c.note.new.self }) at s c.note.new.self c.args.name.now c.args.number refl there c.note.ensures a n knows) [
      | inl here ↦ inl here
      | inr was ↦ elim c.if-is_empty.branch [
        | then-is_empty w ↦ inr (w.open.ensures a n (subst (λ (x : Stems). Knows x a n) w.self-is was))
        | else-is_empty w ↦ inr (subst (λ (x : Stems). Knows x a n) w.self-is was)
      ]
    ]

pub returns-else-at-len : goal.returns-else-at-len
returns-else-at-len c =
    λ a n knows. elim c.if-is_empty.branch [
      | then-is_empty w ↦ inr (w.open.ensures a n (subst (λ (x : Stems). Knows x a n) w.self-is knows))
      | else-is_empty w ↦ inr (subst (λ (x : Stems). Knows x a n) w.self-is knows)
    ]
