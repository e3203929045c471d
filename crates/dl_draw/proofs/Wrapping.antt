-- A product and a sum that wrap at 64 bits are the next state.
use Rattle.std.proofs.Common.{◌≡◌, ℕ, ◌+◌, ◌*◌, ◌%◌, ◌^◌}
use native.Mathlib.Nat.{mod-add-mod}

pub wraps : (x a b : ℕ) → ((x * a) % 2 ^ 64 + b) % 2 ^ 64 ≡ (x * a + b) % 2 ^ 64
wraps x a b = mod-add-mod (x * a) (2 ^ 64) b
