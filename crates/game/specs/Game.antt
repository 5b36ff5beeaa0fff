-- A parity game: positions 0 to size - 1, each with a mover and a list of arcs, and what may be asked of it.
use Rattle.std.specs.Prelude.{◌≡◌, ℕ, ◌<◌, ◌≤◌, cond, List, length, Some, None, Option, nat_lt}
use Rattle.std.specs.List.{slice_get}
use Rattle.game.specs.declared.Player.{Player}
use Rattle.game.specs.declared.Player.TheVariants.{Even, Odd}
use Rattle.game.specs.declared.Arc.{Arc}

abbrev pub rival : Player → Player
rival Even = Odd
rival Odd = Even

-- What remains of a priority that is the player's own, divided by two.
abbrev pub parity : Player → ℕ
parity Even = 0
parity Odd = 1

-- A game. What mover and arcs say of a number that is not below size has no meaning.
pub record Game : Type 0 where
  pub size : ℕ
  pub top : ℕ
  pub mover : ℕ → Player
  pub arcs : ℕ → List Arc

-- The three questions about a position, "absent" where the position or the arc is not there.
abbrev pub mover_at : Game → ℕ → Option Player
mover_at g v = cond (nat_lt v g.size) (Some (g.mover v)) None

abbrev pub arc_count_at : Game → ℕ → Option ℕ
arc_count_at g v = cond (nat_lt v g.size) (Some (length (g.arcs v))) None

abbrev pub arc_at : Game → ℕ → ℕ → Option Arc
arc_at g v i = cond (nat_lt v g.size) (slice_get (g.arcs v) i) None

-- The laws of every arena.
pub record Lawful (g : Game) : Type 0 where
  pub few_positions : g.size ≤ 200000
  pub low_top : g.top ≤ 250
  pub some_arc : (v : ℕ) → v < g.size → 1 ≤ length (g.arcs v)
  pub few_arcs : (v : ℕ) → v < g.size → length (g.arcs v) ≤ 64
  pub target_inside : (v i : ℕ) (a : Arc) → arc_at g v i ≡ Some a → a.target < g.size
  pub priority_low : (v i : ℕ) (a : Arc) → arc_at g v i ≡ Some a → a.priority ≤ g.top
