-- The refusal line.
use Rattle.std.specs.Prelude.{ℕ, List, ◌++◌, codes, decimal}

-- The line of a fault with this number and place.
abbrev pub refusal_line : ℕ → ℕ → List ℕ
refusal_line number place = codes "refused " ++ decimal number ++ codes " at " ++ decimal place ++ codes "\n"
