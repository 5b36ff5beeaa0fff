-- The smallest games, whose winners everybody knows: one position with a loop.
use Rattle.std.specs.Prelude.{ℕ, [], ◌∷◌}
use Rattle.game.specs.declared.Player.TheVariants.{Even, Odd}
use Rattle.game.specs.Game.{Game}
use Rattle.game.specs.Plans.{Belongs}

-- Position 0, where Even moves, with one arc back to itself.
abbrev pub lone_loop : ℕ → Game
lone_loop p = record { size = 1; top = 7; mover = λ v. Even; arcs = λ v. record { target = 0; priority = p } ∷ [] }

-- A loop of priority 0 is Even's to win, a loop of priority 7 is Odd's.
abbrev pub LoneLoopsDecided : Type 0
LoneLoopsDecided = Belongs (lone_loop 0) Even 0 × Belongs (lone_loop 7) Odd 0
