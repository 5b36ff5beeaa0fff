-- The lowest of some numbers that lacks a property.
use Rattle.std.specs.Prelude.{ℕ, ◌<◌, ◌≤◌}

-- Number i is the lowest, from the given one up to but not including the end, of which P does not hold.
pub record LowestWithout (P : ℕ → Type 0) (start end i : ℕ) : Type 0 where
  pub from_start : start ≤ i
  pub before_end : i < end
  pub lacks : P i → ⊥
  pub below_have : (j : ℕ) → start ≤ j → j < i → P j
