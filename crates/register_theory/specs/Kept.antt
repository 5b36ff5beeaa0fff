-- What the least heights over the register layer keep.
use Rattle.std.specs.Prelude.{ℕ, ◌*◌, ◌<◌, ◌⊎◌, ◌↔◌}
use Rattle.game.specs.declared.Player.TheVariants.{Even, Odd}
use Rattle.game.specs.Game.{Game}
use Rattle.game.specs.Layers.{swapped}
use Rattle.game.specs.Plans.{Winnable, Belongs}
use Rattle.heights.specs.Climb.{lost}
use Rattle.heights.specs.Heights.{LeastClosed}
use Rattle.registers.specs.Layer.{row_count, registers}

-- The layer of r registers has least closed heights.
abbrev pub HeightsExist : ℕ → Game → Type 0
HeightsExist r g = (h : ℕ → ℕ) × LeastClosed g.size r (registers r g) h

-- With r registers the position is kept: its height with the row of zeros, which is row number 0, is not lost.
abbrev pub Kept : ℕ → Game → ℕ → Type 0
Kept r g v = (h : ℕ → ℕ) × LeastClosed g.size r (registers r g) h × (h (v * row_count r g) < lost g.size r)

-- Any least closed heights tell what is kept.
abbrev pub KeptByLeast : ℕ → Game → Type 0
KeptByLeast r g =
    (h : ℕ → ℕ) → LeastClosed g.size r (registers r g) h → (v : ℕ) → v < g.size → Kept r g v ↔ (h (v * row_count r g) < lost g.size r)

-- What is kept is won: by Even on the game itself, by Odd on the swapped game.
abbrev pub KeptIsWon : ℕ → Game → Type 0
KeptIsWon r g = (v : ℕ) → v < g.size → Kept r g v → Belongs g Even v

abbrev pub KeptSwappedIsWon : ℕ → Game → Type 0
KeptSwappedIsWon r g = (v : ℕ) → v < g.size → Kept r (swapped g) v → Belongs g Odd v

-- No position is kept for both players, by however many registers each.
abbrev pub NeverBoth : ℕ → ℕ → Game → Type 0
NeverBoth r s g = (v : ℕ) → v < g.size → Kept r g v → Kept s (swapped g) v → ⊥

-- What r registers keep, s registers keep.
abbrev pub StillKept : ℕ → ℕ → Game → Type 0
StillKept r s g = (v : ℕ) → v < g.size → Kept r g v → Kept s g v

-- Whatever position a winning plan of Even's claims is kept.
abbrev pub WonIsKept : ℕ → Game → Type 0
WonIsKept r g = (v : ℕ) → Winnable g Even v → Kept r g v

-- The position is kept for exactly one player, and that is the one to whom it belongs.
pub record Exact (r : ℕ) (g : Game) (v : ℕ) : Type 0 where
  pub evens : Belongs g Even v ↔ Kept r g v
  pub odds : Belongs g Odd v ↔ Kept r (swapped g) v
  pub one_of : Kept r g v ⊎ Kept r (swapped g) v
  pub not_both : Kept r g v → Kept r (swapped g) v → ⊥
