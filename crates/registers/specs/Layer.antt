-- The register layer: a game of r registers over a small game.
use Rattle.std.specs.Prelude.{ℕ, zero, suc, ◌+◌, ◌-◌, ◌*◌, ◌/◌, ◌%◌, Bool, cond, ◌&&◌, List, [], ◌∷◌, ◌++◌, length, nat_le, nat_lt, slice_index_or}
use Rattle.game.specs.declared.Player.TheVariants.{Even}
use Rattle.game.specs.declared.Arc.{Arc}
use Rattle.game.specs.Game.{Game}
use Rattle.rows.specs.Rows.{rows, place}
use Rattle.rows.specs.Registers.{updated, reset, reset_priority}

-- The arcs of a game numbered through, position 0's first: those of the positions below v, and the number of v's first arc.
abbrev pub arcs_below : Game → ℕ → List Arc
arcs_below g zero = []
arcs_below g (suc v) = arcs_below g v ++ g.arcs v

abbrev pub first_arc : Game → ℕ → ℕ
first_arc g v = length (arcs_below g v)

abbrev pub arc_total : Game → ℕ
arc_total g = length (arcs_below g g.size)

-- The layer has 1 to 5 registers and stands over at most 16 positions, priorities up to 9 and 64 arcs altogether.
abbrev pub stands : ℕ → Game → Bool
stands r g = (nat_le 1 r && nat_le r 5) && (nat_le g.size 16 && nat_le g.top 9 && nat_le (arc_total g) 64)

-- How many rows there are, and the number of a row.
abbrev pub row_count : ℕ → Game → ℕ
row_count r g = length (rows r g.top)

abbrev pub row_number : ℕ → Game → List ℕ → ℕ
row_number r g row = place row (rows r g.top)

-- At (v, row) arc number i of v, being arc e of priority p, leads to (e, row updated by p) with priority 0.
abbrev pub updates : ℕ → Game → List ℕ → ℕ → List Arc → List Arc
updates r g row e [] = []
updates r g row e (a ∷ arcs) =
    record { target = (g.size + e) * row_count r g + row_number r g (updated a.priority row); priority = 0 } ∷ updates r g row (suc e) arcs

-- At (e, row) arc 0 leads to (target of e, row) with priority 1; arc j, from 1 to r, leads there with register j reset.
abbrev pub reset_arc : ℕ → Game → List ℕ → Arc → ℕ → Arc
reset_arc r g row a j = record { target = a.target * row_count r g + row_number r g (reset j row); priority = reset_priority j row }

abbrev pub resets_to : ℕ → Game → List ℕ → Arc → ℕ → List Arc
resets_to r g row a zero = []
resets_to r g row a (suc j) = resets_to r g row a j ++ reset_arc r g row a (suc j) ∷ []

abbrev pub choices : ℕ → Game → List ℕ → Arc → List Arc
choices r g row a = record { target = a.target * row_count r g + row_number r g row; priority = 1 } ∷ resets_to r g row a r

-- What stands where there is no arc.
abbrev pub no_arc : Arc
no_arc = record { target = 0; priority = 0 }

-- The arcs of the layer's position at · R + number of the row: at is a position of the game below, or its size plus an arc number.
abbrev pub layer_arcs : ℕ → Game → ℕ → List ℕ → List Arc
layer_arcs r g at row =
    cond (nat_lt at g.size) (updates r g row (first_arc g at) (g.arcs at)) (choices r g row (slice_index_or (arcs_below g g.size) (at - g.size) no_arc))

-- The layer where it stands: a position v · R + number of a row for each position v, and (n + e) · R + number of a row for each arc e.
abbrev pub layer : ℕ → Game → Game
layer r g = record {
  size = (g.size + arc_total g) * row_count r g;
  top = 2 * r + 1;
  mover = λ x. cond (nat_lt (x / row_count r g) g.size) (g.mover (x / row_count r g)) Even;
  arcs = λ x. layer_arcs r g (x / row_count r g) (slice_index_or (rows r g.top) (x % row_count r g) []);
}

abbrev pub no_positions : Game
no_positions = record { size = 0; top = 0; mover = λ v. Even; arcs = λ v. [] }

-- The layer's game: where the layer does not stand it has no positions, and top 0.
abbrev pub registers : ℕ → Game → Game
registers r g = cond (stands r g) (layer r g) no_positions
