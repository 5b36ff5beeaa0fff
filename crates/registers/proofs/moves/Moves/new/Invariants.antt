use Rattle.std.proofs.Common.{◌≡◌, ℕ, length, Some}
use Rattle.std.specs.List.{slice_get}
use Rattle.registers.specs.declared.row_moves.RowMoves.{RowMoves}
use Rattle.registers.specs.Tables.{MovesOf}
use Rattle.registers.proofs.moves.Moves.new.Given as goal

abbrev pub invariant-loop-k : goal.invariant-loop-k
invariant-loop-k l =
    (length l.by_row.items ≡ l.k)
    × ((i : ℕ) (m : RowMoves) → slice_get l.by_row.items i ≡ Some m → MovesOf l.shape.registers l.shape.top i m)
