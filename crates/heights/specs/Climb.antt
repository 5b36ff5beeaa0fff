-- Heights over a game with n positions and r registers: from 0 to T = n^(r+1), and T means lost.
use Rattle.std.specs.Prelude.{ℕ, ◌+◌, ◌-◌, ◌/◌, ◌%◌, ◌^◌, cond, ◌==◌, nat_lt}

abbrev pub lost : ℕ → ℕ → ℕ
lost n r = n ^ (r + 1)

-- The step of a priority p: n^⌊p/2⌋.
abbrev pub step_of : ℕ → ℕ → ℕ
step_of n p = n ^ (p / 2)

-- A lost height stays lost. Any other is rounded down to a multiple of the step, and raised by one step if p is odd.
abbrev pub climb : ℕ → ℕ → ℕ → ℕ → ℕ
climb n r x p = cond (nat_lt x (lost n r)) (x - x % step_of n p + cond (p % 2 == 0) 0 (step_of n p)) (lost n r)
