-- What is found where a list is read by a number.
use Rattle.std.proofs.Common.{◌≡◌, ℕ, zero, suc, ◌+◌, ◌<◌, ◌≤◌, List, [], ◌∷◌, ◌++◌, length, get_or, Some, inl, inr, ap, ◌∙◌, arith}
use Rattle.std.specs.List.{slice_get}
use Rattle.std.proofs.lemmas.List.{get_or_default}
use Rattle.std.proofs.lemmas.Option.{none-some, same_Some, slice_get-get_or}
use Rattle.game.specs.declared.Arc.{Arc}
use Rattle.rows.proofs.Members.{nth_joined}
use Rattle.registers.specs.declared.moves.Moves.{Moves}
use Rattle.registers.specs.declared.position.Position.{Position}
use Rattle.registers.specs.declared.row_moves.RowMoves.{RowMoves}
use Rattle.registers.specs.declared.copied.Copied.{Copied}
use Rattle.registers.specs.Copies.{position_in, last_inside}
use Rattle.registers.specs.Tables.{MovesOf}

pub position_found : (positions xs : List Position) (arcs : List Arc) (v : ℕ) (d : Position) → xs ≡ positions → v < length positions → get_or xs v d ≡ position_in positions arcs v
position_found positions xs arcs v d e h = ap (λ ys. get_or ys v d) e ∙ get_or_default positions v d _ h

pub moves_found : (s : Moves) (k : ℕ) → k < length s.by_row.items → (xs : List RowMoves) (d : RowMoves) → xs ≡ s.by_row.items →
    MovesOf s.shape.registers s.shape.top k (get_or xs k d)
moves_found s k h xs d e = rw e (s.each k (get_or s.by_row.items k d) (slice_get-get_or s.by_row.items k d h))

-- the moves of one more row
pub moves_more : (r top : ℕ) (xs : List RowMoves) (m : RowMoves) → ((i : ℕ) (n : RowMoves) → slice_get xs i ≡ Some n → MovesOf r top i n) → MovesOf r top (length xs) m →
    (i : ℕ) (n : RowMoves) → slice_get (xs ++ m ∷ []) i ≡ Some n → MovesOf r top i n
moves_more r top xs m each last i n found = elim (nth_joined xs (m ∷ []) i n found) [
  | inl before ↦ each i n before
  | inr (zero, at, is) ↦ let same : i ≡ length xs = omega arith in rw same (rw (← same_Some m n is) last)
  | inr (suc k, at, is) ↦ absurd (none-some n is)
]

-- the arcs of a position end within the list
pub arcs_end : (s : Copied) (v i : ℕ) (xs : List Position) (d : Position) → xs ≡ s.positions.items → v < length s.positions.items → i < (get_or xs v d).count →
    (get_or xs v d).first + (get_or xs v d).count ≤ 64
arcs_end s v i xs d e h low =
    let inside = last_inside s.spans v h in
    let narrow = s.narrow in
    let first = ap (λ (p : Position). p.first) (position_found s.positions.items xs s.arcs.items v d e h) in
    let count = ap (λ (p : Position). p.count) (position_found s.positions.items xs s.arcs.items v d e h) in
    omega arith
