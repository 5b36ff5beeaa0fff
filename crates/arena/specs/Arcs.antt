-- The arcs of a position that are left to an iterator.
use Rattle.std.specs.Prelude.{ℕ, cond, List, [], nat_lt, drop}
use Rattle.game.specs.declared.Arc.{Arc}
use Rattle.game.specs.Game.{Game}

-- The arcs of a position from number i on; none where there is no such position.
abbrev pub arcs_from : Game → ℕ → ℕ → List Arc
arcs_from g v i = cond (nat_lt v g.size) (drop i (g.arcs v)) []
