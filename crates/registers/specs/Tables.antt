-- What moves do to the numbers of rows.
use Rattle.std.specs.Prelude.{◌≡◌, ℕ, zero, suc, ◌≤◌, cond, List, [], length, Some, None, Option, slice_index, slice_index_or}
use Rattle.rows.specs.Rows.{rows, place}
use Rattle.rows.specs.Registers.{updated, reset, reset_priority}
use Rattle.rows.specs.Views.{has_register}
use Rattle.registers.specs.declared.row_moves.Step.{Step}
use Rattle.registers.specs.declared.row_moves.RowMoves.{RowMoves}

-- Step 0 from a row of a list leaves it alone, with priority 1; step j resets register j, if the row has it.
abbrev pub step_in : List (List ℕ) → List ℕ → ℕ → Option Step
step_in listed row zero = Some (record { row = place row listed; priority = 1 })
step_in listed row (suc j) =
    cond (has_register (suc j) row) (Some (record { row = place (reset (suc j) row) listed; priority = reset_priority (suc j) row })) None

-- Row number k of r registers with contents from 0 to top.
abbrev pub row_at : ℕ → ℕ → ℕ → List ℕ
row_at r top k = slice_index_or (rows r top) k []

-- The number of row k updated by p.
abbrev pub updated_at : ℕ → ℕ → ℕ → ℕ → ℕ
updated_at r top k p = place (updated p (row_at r top k)) (rows r top)

-- Step j from row k.
abbrev pub step_at : ℕ → ℕ → ℕ → ℕ → Option Step
step_at r top k j = step_in (rows r top) (row_at r top k) j

-- The moves of row number k, each in its place.
pub record MovesOf (r top k : ℕ) (m : RowMoves) : Type 0 where
  pub ten : length m.updates ≡ 10
  pub updates : (p : ℕ) → p ≤ top → slice_index m.updates p ≡ updated_at r top k p
  pub steps : (j : ℕ) → slice_index_or m.steps j None ≡ step_at r top k j
