-- What the functions answer: of two heights the better, and the reply to the call for least heights.
use Rattle.std.specs.Prelude.{◌≡◌, ℕ, ◌+◌, ◌*◌, ◌≤◌, min, max, List, length, drop, Some, None, Option}
use Rattle.game.specs.declared.Player.{Player}
use Rattle.game.specs.declared.Player.TheVariants.{Even, Odd}
use Rattle.game.specs.Game.{Game}
use Rattle.heights.specs.Climb.{lost}
use Rattle.heights.specs.Heights.{LeastClosed}
use Rattle.heights.specs.Sweeps.{height_in, zeroed, Swept}

-- Of two heights the one that the mover takes: the lower for Even, the higher for Odd.
abbrev pub better : Player → ℕ → ℕ → ℕ
better Even x y = min x y
better Odd x y = max x y

-- Which calls are served: n from 1 to 16, 1 to 5 registers, enough of them for the priorities, and a cell for each position.
pub record Served (n r : ℕ) (g : Game) (cells : List ℕ) : Type 0 where
  pub some_base : 1 ≤ n
  pub low_base : n ≤ 16
  pub some_registers : 1 ≤ r
  pub few_registers : r ≤ 5
  pub low_top : g.top ≤ 2 * r + 1
  pub enough_cells : g.size ≤ length cells

-- The cells hold the heights that the sweeps from all zeros end in, the least closed ones; other cells are untouched.
pub record Found (n r : ℕ) (g : Game) (before after : List ℕ) (raises : ℕ) : Type 0 where
  pub served : Served n r g before
  pub swept : Swept n r g (zeroed g.size before) after raises
  pub least : LeastClosed n r g (height_in after)
  pub few_raises : raises ≤ g.size * lost n r
  pub others_stay : drop g.size after ≡ drop g.size before

-- The number of raises; absent, and the cells untouched, exactly where the call is not served.
abbrev pub Reply : ℕ → ℕ → Game → List ℕ → List ℕ → Option ℕ → Type 0
Reply n r g before after None = (Served n r g before → ⊥) × (after ≡ before)
Reply n r g before after (Some raises) = Found n r g before after raises
