-- How many arcs a game has.
use Rattle.std.specs.Prelude.{ℕ}
use Rattle.std.specs.List.{sum_by, range_with_len}
use Rattle.std.specs.Option.{unwrap_or}
use Rattle.game.specs.Game.{Game, arc_count_at}

-- How many arcs a position has: none where there is no such position.
abbrev pub arcs_at : Game → ℕ → ℕ
arcs_at g v = unwrap_or (arc_count_at g v) 0

-- The arcs of all positions together.
abbrev pub arcs_in : Game → ℕ
arcs_in g = sum_by (arcs_at g) (range_with_len 0 g.size)
