-- What a move does to a row. Registers are counted from 1; the last one stands first in the row.
use Rattle.std.specs.Prelude.{ℕ, ◌+◌, ◌-◌, ◌*◌, ◌%◌, max, cond, List, [], ◌∷◌, ◌++◌, map, length, ◌==◌, nat_le, slice_index}
use Rattle.std.specs.List.{remove}

-- What register j holds.
abbrev pub content : ℕ → List ℕ → ℕ
content j xs = slice_index xs (length xs - j)

-- Updating by a priority: every content below p becomes p.
abbrev pub updated : ℕ → List ℕ → List ℕ
updated p xs = map (λ c. max c p) xs

-- Resetting register j: it takes the content of register j - 1, and so on down, and register 1 takes 0. So the content of j is taken
-- out, those below it move up by one place, and a 0 comes in at the end.
abbrev pub reset : ℕ → List ℕ → List ℕ
reset j xs = remove xs (length xs - j) ++ 0 ∷ []

-- The priority of resetting register j: 2j if it holds an even content before the reset, 2j + 1 if an odd one.
abbrev pub reset_priority : ℕ → List ℕ → ℕ
reset_priority j xs = 2 * j + content j xs % 2

-- Update and reset on contents by register: what register i holds after an update by p and a reset of register j (0: no reset).
abbrev pub after : (ℕ → ℕ) → ℕ → ℕ → ℕ → ℕ
after held p j i = cond (nat_le i j) (cond (i == 1) 0 (max (held (i - 1)) p)) (max (held i) p)
