use Rattle.std.proofs.Common.{◌≡◌, ◌+◌, ◌∙◌, ℕ, List, length, refl, sym, ap, subst, arith, length-append}
use Rattle.std.specs.Prelude.{All}
use Rattle.std.proofs.lemmas.List.Elements.{All-push}
use Rattle.dl_rows.specs.declared.packed_rows.Span.{Span}
use Rattle.dl_rows.specs.Packed.{ArePacked}
use Rattle.dl_rows.proofs.PackedLemmas.{packed_pushed, none_have}
use Rattle.dl_rows.proofs.packed_rows.PackedRows.with_room.Goals as goal

pub loop-count-preserved : goal.loop-count-preserved
loop-count-preserved c = record {
  packed = subst (λ (ss : List Span). ArePacked ss c.in-Some.more) (sym c.in_ok-push.ensures.items)
      (packed_pushed c.loop-count.spans.items c.loop-count.room c.in-Some.more c.loop-count.invariant.packed (omega arith));
  none = subst (λ (ss : List Span). All (λ s. s.len ≡ 0) ss) (sym c.in_ok-push.ensures.items)
      (All-push (λ (s : Span). s.len ≡ 0) c.loop-count.spans.items (record { start = c.loop-count.room; len = 0 }) c.loop-count.invariant.none refl);
  long = ap length c.in_ok-push.ensures.items ∙ length-append c.loop-count.spans.items _ ∙ ap (λ (n : ℕ). n + 1) c.loop-count.invariant.long;
}

pub returns : goal.returns
returns c =
    none_have _ c.loop-count.spans.items c.args.counts.now c.loop-count.invariant.none (omega (arith, c.loop-count.invariant.long, c.loop-count-test.false, c.loop-count.auto.count-index-end))
