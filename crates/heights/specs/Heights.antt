-- Assignments of heights to the positions of a game, and the least closed one.
use Rattle.std.specs.Prelude.{ℕ, ◌<◌, ◌≤◌, min, max, List, [], ◌∷◌, map}
use Rattle.game.specs.declared.Player.{Player}
use Rattle.game.specs.declared.Player.TheVariants.{Even, Odd}
use Rattle.game.specs.declared.Arc.{Arc}
use Rattle.game.specs.Game.{Game}
use Rattle.heights.specs.Climb.{lost, climb}

-- The least of some heights, at most the limit; the greatest of some heights.
abbrev pub least : ℕ → List ℕ → ℕ
least limit [] = limit
least limit (x ∷ xs) = min x (least limit xs)

abbrev pub greatest : List ℕ → ℕ
greatest [] = 0
greatest (x ∷ xs) = max x (greatest xs)

-- What an arc asks of the position that it leaves: the climb, by its priority, from the height of its target.
abbrev pub asked : ℕ → ℕ → (ℕ → ℕ) → Arc → ℕ
asked n r h a = climb n r (h a.target) a.priority

-- The height that is due: the least that an arc asks where Even moves, the greatest where Odd moves.
abbrev pub due_for : Player → ℕ → List ℕ → ℕ
due_for Even limit xs = least limit xs
due_for Odd limit xs = greatest xs

abbrev pub due : ℕ → ℕ → Game → (ℕ → ℕ) → ℕ → ℕ
due n r g h v = due_for (g.mover v) (lost n r) (map (asked n r h) (g.arcs v))

-- An assignment of heights is closed if no position lies below its due height.
pub record Closed (n r : ℕ) (g : Game) (h : ℕ → ℕ) : Type 0 where
  pub bounded : (v : ℕ) → v < g.size → h v ≤ lost n r
  pub enough : (v : ℕ) → v < g.size → due n r g h v ≤ h v

-- The least closed assignment.
pub record LeastClosed (n r : ℕ) (g : Game) (h : ℕ → ℕ) : Type 0 where
  pub closed : Closed n r g h
  pub below_others : (k : ℕ → ℕ) → Closed n r g k → (v : ℕ) → v < g.size → h v ≤ k v
