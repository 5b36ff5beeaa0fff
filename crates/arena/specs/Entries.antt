-- How many arcs an entry leaves of so many: one where it numbers one of them, else all.
use Rattle.std.specs.Prelude.{ℕ, cond, Some, None, Option, nat_lt}

abbrev pub left_of : Option ℕ → ℕ → ℕ
left_of None count = count
left_of (Some i) count = cond (nat_lt i count) 1 count
