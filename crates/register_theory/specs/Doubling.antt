-- Double steps: two moves of the register layer taken together, an arc below and then a choice of a reset.
use Rattle.std.specs.Prelude.{◌≡◌, ℕ, zero, suc, ◌+◌, ◌*◌, ◌<◌, ◌≤◌, List, [], ◌∷◌, length, Some}
use Rattle.game.specs.declared.Arc.{Arc}
use Rattle.game.specs.Game.{Game, arc_at}
use Rattle.game.specs.Plans.{highest}
use Rattle.rows.specs.Rows.{IsRow}
use Rattle.rows.specs.Registers.{updated, reset, reset_priority}
use Rattle.registers.specs.Layer.{row_count, row_number, registers}

-- A state: a position of the game below, and a row of r registers.
abbrev pub State : Game → ℕ → ℕ → List ℕ → Type 0
State g r v row = (v < g.size) × IsRow g.top row × (length row ≡ r)

-- What the choice j makes of a row: 0 leaves it alone, any other resets register j.
abbrev pub chosen : ℕ → List ℕ → List ℕ
chosen zero row = row
chosen (suc j) row = reset (suc j) row

-- The layer's priority of the choice j.
abbrev pub toll : ℕ → List ℕ → ℕ
toll zero row = 1
toll (suc j) row = reset_priority (suc j) row

-- A double step: an arc below, by whose priority the row is updated, and a choice of one of the r registers or none.
pub record DoubleStep (g : Game) (r v : ℕ) (row : List ℕ) (w : ℕ) (next : List ℕ) (below above : ℕ) : Type 0 where
  pub number : ℕ
  pub arc : Arc
  pub choice : ℕ
  pub is_arc : arc_at g v number ≡ Some arc
  pub leads : arc.target ≡ w
  pub costs : arc.priority ≡ below
  pub a_choice : choice ≤ r
  pub next_row : chosen choice (updated below row) ≡ next
  pub price : toll choice (updated below row) ≡ above

-- The double step is two moves of the layer: by an arc of priority 0 to an arc position, and from there by an arc of priority above.
abbrev pub TwoMoves : Game → ℕ → ℕ → List ℕ → ℕ → List ℕ → ℕ → Type 0
TwoMoves g r v row w next above =
    (x i j : ℕ) × (arc_at (registers r g) (v * row_count r g + row_number r g row) i ≡ Some (record { target = x; priority = 0 })) ×
    (arc_at (registers r g) x j ≡ Some (record { target = w * row_count r g + row_number r g next; priority = above }))

abbrev pub StepsAreMoves : Game → ℕ → Type 0
StepsAreMoves g r =
    (v w p q : ℕ) (row next : List ℕ) → State g r v row → DoubleStep g r v row w next p q → TwoMoves g r v row w next q

-- And whatever two moves lead from a state are a double step.
abbrev pub MovesAreSteps : Game → ℕ → Type 0
MovesAreSteps g r =
    (v i j : ℕ) (row : List ℕ) (a b : Arc) → State g r v row →
    arc_at (registers r g) (v * row_count r g + row_number r g row) i ≡ Some a → arc_at (registers r g) a.target j ≡ Some b →
    (w p : ℕ) × (next : List ℕ) × DoubleStep g r v row w next p b.priority × (a.priority ≡ 0) × (b.target ≡ w * row_count r g + row_number r g next)

-- A walk of double steps, with the priorities met below and above.
pub data DoubleWalk (g : Game) (r : ℕ) : ℕ → List ℕ → ℕ → List ℕ → List ℕ → List ℕ → Type 0 where
  stay : {v : ℕ} {row : List ℕ} → DoubleWalk g r v row v row [] []
  step : {u v w p q : ℕ} {row next last ps qs : List ℕ} → DoubleStep g r u row v next p q → DoubleWalk g r v next w last ps qs → DoubleWalk g r u row w last (p ∷ ps) (q ∷ qs)

-- A closed walk of one or more double steps, from a row of r registers, with the highest priorities that it meets below and above.
abbrev pub ClosedDoubleWalk : Game → ℕ → ℕ → ℕ → Type 0
ClosedDoubleWalk g r below above =
    (v p q : ℕ) × (row ps qs : List ℕ) × (length row ≡ r) × DoubleWalk g r v row v row (p ∷ ps) (q ∷ qs) × (below ≡ highest (p ∷ ps)) × (above ≡ highest (q ∷ qs))
