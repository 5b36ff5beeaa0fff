-- Rows: what r registers hold, and their list, which numbers them.
use Rattle.std.specs.Prelude.{ℕ, zero, suc, ◌+◌, ◌≤◌, cond, nat_eq, List, [], ◌∷◌, ◌++◌, map, length}
use Rattle.std.specs.Cmp.Lexicographic.{pointwise}
use Rattle.rows.specs.Choose.{choose}

-- A row: contents from 0 to top, that of the last register first, none larger than the one before it.
abbrev pub IsRow : ℕ → List ℕ → Type 0
IsRow top [] = Unit {0}
IsRow top (x ∷ xs) = (x ≤ top) × IsRow x xs

-- The rows of r registers with contents from 0 to top, in dictionary order: by the first content, from 0 up to top, and behind each first
-- content c the rows of one register less with contents from 0 to c.
abbrev pub rows : ℕ → ℕ → List (List ℕ)
rows zero top = [] ∷ []
rows (suc r) zero = map (λ xs. zero ∷ xs) (rows r zero)
rows (suc r) (suc t) = rows (suc r) t ++ map (λ xs. suc t ∷ xs) (rows r (suc t))

-- The number of a row is its place in the list of rows: how many stand before it.
abbrev pub place : List ℕ → List (List ℕ) → ℕ
place xs [] = 0
place xs (ys ∷ rest) = cond (pointwise nat_eq xs ys) 0 (suc (place xs rest))

-- The number by a formula: the sum, over the registers j, of the ways to choose j things among c + j - 1, where c is the content.
abbrev pub formula : List ℕ → ℕ
formula [] = 0
formula (c ∷ cs) = choose (c + length cs) (suc (length cs)) + formula cs
