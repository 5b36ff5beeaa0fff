-- The sweeps that find the least closed heights. A list of cells holds the heights, cell v that of position v.
use Rattle.std.specs.Prelude.{◌≡◌, ℕ, zero, suc, ◌+◌, ◌≤◌, Bool, cond, List, ◌++◌, drop, replicate, nat_lt, slice_index, slice_set}
use Rattle.game.specs.Game.{Game}
use Rattle.toolkit.specs.Finite.{bit}
use Rattle.heights.specs.Heights.{due}

abbrev pub height_in : List ℕ → ℕ → ℕ
height_in cells v = slice_index cells v

-- The start: all heights 0 in the cells of the positions.
abbrev pub zeroed : ℕ → List ℕ → List ℕ
zeroed size cells = replicate size 0 ++ drop size cells

-- A position is low if its height is below its due height. A low position is raised to its due height.
unfoldable pub low : ℕ → ℕ → Game → ℕ → List ℕ → Bool
low n r g v cells = nat_lt (height_in cells v) (due n r g (height_in cells) v)

unfoldable pub raised_at : ℕ → ℕ → Game → ℕ → List ℕ → List ℕ
raised_at n r g v cells = cond (low n r g v cells) (slice_set cells v (due n r g (height_in cells) v)) cells

-- A sweep takes the positions in ascending order. The cells before it comes to position v, and how often it has raised by then.
unfoldable pub swept_to : ℕ → ℕ → Game → ℕ → List ℕ → List ℕ
swept_to n r g zero cells = cells
swept_to n r g (suc v) cells = raised_at n r g v (swept_to n r g v cells)

unfoldable pub raises_to : ℕ → ℕ → Game → ℕ → List ℕ → ℕ
raises_to n r g zero cells = 0
raises_to n r g (suc v) cells = raises_to n r g v cells + bit (low n r g v (swept_to n r g v cells))

-- Sweeps go on until one raises nothing: from the first cells to the last, with the total of raises.
pub data Swept (n r : ℕ) (g : Game) : List ℕ → List ℕ → ℕ → Type 0 where
  settled : {cells : List ℕ} → raises_to n r g g.size cells ≡ 0 → Swept n r g cells cells 0
  once_more : {cells last : List ℕ} {later : ℕ} → 1 ≤ raises_to n r g g.size cells → Swept n r g (swept_to n r g g.size cells) last later → Swept n r g cells last (raises_to n r g g.size cells + later)

-- The sweeps from all heights 0 come to an end after so many raises.
abbrev pub Takes : ℕ → ℕ → Game → ℕ → Type 0
Takes n r g raises = (last : List ℕ) × Swept n r g (replicate g.size 0) last raises
