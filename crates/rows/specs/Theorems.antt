-- What holds of rows and their numbers.
use Rattle.std.specs.Prelude.{◌≡◌, ℕ, ◌+◌, ◌<◌, ◌≤◌, ◌↔◌, List, [], ◌∷◌, length, Some}
use Rattle.std.specs.List.{slice_get}
use Rattle.game.specs.Dictionary.{Before}
use Rattle.rows.specs.Choose.{choose}
use Rattle.rows.specs.Rows.{IsRow, rows, place, formula}
use Rattle.rows.specs.Registers.{content, updated, reset, reset_priority, after}

-- The list has exactly the rows of r registers.
abbrev pub RowsListed : Type 0
RowsListed =
    (r top : ℕ) (xs : List ℕ) → ((k : ℕ) × (slice_get (rows r top) k ≡ Some xs)) ↔ (IsRow top xs × (length xs ≡ r))

-- The list ascends in dictionary order: one row comes before another exactly if its number is smaller.
abbrev pub RowsAscend : Type 0
RowsAscend =
    (r top i j : ℕ) (xs ys : List ℕ) →
    slice_get (rows r top) i ≡ Some xs → slice_get (rows r top) j ≡ Some ys → Before xs ys ↔ (i < j)

-- There are as many rows as ways to choose r things among top + r.
abbrev pub RowsCounted : Type 0
RowsCounted = (r top : ℕ) → length (rows r top) ≡ choose (top + r) r

-- The number of row number k is k, the row at the number of a row is that row, and the formula gives the number.
abbrev pub RowsNumbered : Type 0
RowsNumbered =
    ((r top k : ℕ) (xs : List ℕ) → slice_get (rows r top) k ≡ Some xs → place xs (rows r top) ≡ k) ×
    ((r top : ℕ) (xs : List ℕ) → IsRow top xs → length xs ≡ r → slice_get (rows r top) (place xs (rows r top)) ≡ Some xs) ×
    ((r top : ℕ) (xs : List ℕ) → IsRow top xs → length xs ≡ r → place xs (rows r top) ≡ formula xs)

-- Update and reset keep a row a row, of as many registers.
abbrev pub RowsKept : Type 0
RowsKept =
    ((top p : ℕ) (xs : List ℕ) → IsRow top xs → p ≤ top → IsRow top (updated p xs) × (length (updated p xs) ≡ length xs)) ×
    ((top j : ℕ) (xs : List ℕ) → IsRow top xs → 1 ≤ j → j ≤ length xs → IsRow top (reset j xs) × (length (reset j xs) ≡ length xs))

-- What each register holds after an update, and after an update and a reset.
abbrev pub ContentsMoved : Type 0
ContentsMoved =
    (p i : ℕ) (xs : List ℕ) → 1 ≤ i → i ≤ length xs →
    (content i (updated p xs) ≡ after (λ m. content m xs) p 0 i) ×
    ((j : ℕ) → 1 ≤ j → j ≤ length xs → content i (reset j (updated p xs)) ≡ after (λ m. content m xs) p j i)

-- Examples: the row (5, 2, 0) updated by 3, resets of the row (5, 3, 3) with their priorities, and how many rows 5 registers have
-- with contents from 0 to 9.
abbrev pub WorkedRows : Type 0
WorkedRows =
    (updated 3 (5 ∷ 2 ∷ 0 ∷ []) ≡ 5 ∷ 3 ∷ 3 ∷ []) ×
    (reset 2 (5 ∷ 3 ∷ 3 ∷ []) ≡ 5 ∷ 3 ∷ 0 ∷ []) × (reset_priority 2 (5 ∷ 3 ∷ 3 ∷ []) ≡ 5) ×
    (reset 3 (5 ∷ 3 ∷ 3 ∷ []) ≡ 3 ∷ 3 ∷ 0 ∷ []) × (reset_priority 3 (5 ∷ 3 ∷ 3 ∷ []) ≡ 7) ×
    (choose 14 5 ≡ 2002)
