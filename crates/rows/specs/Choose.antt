-- Binomials.
use Rattle.std.specs.Prelude.{ℕ, zero, suc, ◌+◌, Bool, true, cond, ◌&&◌, List, [], ◌∷◌, Some, None, Option, ◌==◌, nat_le, slice_index}

-- How many ways there are to choose b things among a: with the first thing, or without it.
abbrev pub choose : ℕ → ℕ → ℕ
choose a zero = 1
choose zero (suc b) = 0
choose (suc a) (suc b) = choose a b + choose a (suc b)

-- The rule of entry b in a row of the table, by the row above: 1 in the first column, elsewhere the entry above added to the one on its left.
abbrev pub rule : List ℕ → ℕ → ℕ
rule above zero = 1
rule above (suc b) = slice_index above b + slice_index above (suc b)

-- The entries xs of a row, which stand in it from column b on and end before column 16, keep the rule.
abbrev pub row_keeps : List ℕ → ℕ → List ℕ → Bool
row_keeps above b [] = b == 16
row_keeps above b (x ∷ xs) = x == rule above b && row_keeps above (suc b) xs

-- A table keeps the rule if each of its rows does, by the row above it.
abbrev pub keeps : List ℕ → List (List ℕ) → Bool
keeps above [] = true
keeps above (xs ∷ rest) = row_keeps above 0 xs && keeps xs rest

-- The entry of the table, which ends at 15 both ways.
abbrev pub binomial_at : ℕ → ℕ → Option ℕ
binomial_at a b = cond (nat_le a 15 && nat_le b 15) (Some (choose a b)) None
