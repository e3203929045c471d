-- Between which two places of a list of wires those of a kind stand.
use Rattle.std.specs.Prelude.{◌≡◌, ℕ, ◌<◌, ◌≤◌, Bool, cond, List, Some, slice_get, slice_index}
use Rattle.dl_fill.specs.declared.spans.Spans.{Spans}
use Rattle.dl_fill.specs.declared.wire.Wire.{Wire}

-- the kind to which a wire leads, or from which
abbrev pub side : Bool → Wire → ℕ
side to w = cond to w.to w.from

-- each span ends among so many wires, and no sooner than it starts
pub record AreWithin (size : ℕ) (spans : Spans) : Type 0 where
  pub ordered : (k : ℕ) → slice_index spans.starts k ≤ slice_index spans.ends k
  pub inside : (k : ℕ) → slice_index spans.ends k ≤ size

-- of so many wires, the first ones, each whose kind has a span stands in it
pub record IsSpans (of : Wire → ℕ) (wires : List Wire) (size : ℕ) (spans : Spans) : Type 0 where
  pub within : AreWithin size spans
  pub there : (i : ℕ) (w : Wire) → i < size → slice_get wires i ≡ Some w → of w < 32 → (slice_index spans.starts (of w) ≤ i) × (i < slice_index spans.ends (of w))
