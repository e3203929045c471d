use Rattle.std.proofs.Common.{◌≡◌, ℕ, ◌+◌, ◌<◌, List, [], ◌∷◌, ◌++◌, length, set, map, ap, subst, ◌∙◌, arith}
use Rattle.std.proofs.Math.ListN.{length-map, length-set}
use Rattle.dl_rows.specs.declared.packed_rows.Span.{Span}
use Rattle.dl_rows.specs.Tables.{list_of}
use Rattle.dl_rows.specs.Packed.{in_span, room_end}
use Rattle.dl_rows.proofs.PackedLemmas.{appended_packed, appended_lists}
use Rattle.dl_rows.proofs.packed_rows.PackedRowsLists.append.Goals as goal

there : (spans : List Span) (items : List ℕ) (lists : List (List ℕ)) (n : ℕ) → map (in_span items) spans ≡ lists → n < length lists → n < length spans
there spans items lists n is lt = omega (arith, length-map spans (in_span items), ap length is, lt)

room_there : (spans spans' : List Span) (n end all all' room : ℕ) → spans' ≡ spans → all' ≡ all → room ≡ room_end spans' n all' → end < room
    → end < room_end spans n all
room_there spans spans' n end all all' room is same told lt =
    subst (λ (k : ℕ). end < k) (told ∙ ap (λ (ss : List Span). room_end ss n all') is ∙ ap (room_end spans n) same) lt

pub invariant_of-self : goal.invariant_of-self
invariant_of-self c =
    let all : c.len.result ≡ length c.self.inside.items.items = omega arith in
    record {
      packed = appended_packed c.self.inside.spans.items c.self.inside.items.items c.self.invariant.packed c.args.number
          (there c.self.inside.spans.items c.self.inside.items.items c.args.self.now c.args.number c.self.view_is c.requires) c.index-span.result.now c.index-span.ensures c.args.item
          (room_there c.self.inside.spans.items c.as_slice.result.now c.args.number _ _ c.len.result c.room_end.result c.as_slice.ensures.value all c.room_end.ensures c.if-end-room_end.false);
      few = omega (arith, c.self.invariant.few, length-set c.self.inside.items.items (c.index-span.result.now.start + c.index-span.result.now.len) c.args.item);
    }

pub returns-clause-lists : goal.returns-clause-lists
returns-clause-lists c =
    let all : c.len.result ≡ length c.self.inside.items.items = omega arith in
    appended_lists c.self.inside.spans.items c.self.inside.items.items c.self.invariant.packed c.args.number
    (there c.self.inside.spans.items c.self.inside.items.items c.args.self.now c.args.number c.self.view_is c.requires) c.index-span.result.now c.index-span.ensures c.args.item
    (room_there c.self.inside.spans.items c.as_slice.result.now c.args.number _ _ c.len.result c.room_end.result c.as_slice.ensures.value all c.room_end.ensures c.if-end-room_end.false)
    ∙ ap (λ (ls : List (List ℕ)). set ls c.args.number (list_of ls c.args.number ++ c.args.item ∷ [])) c.self.view_is
