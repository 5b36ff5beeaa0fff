-- What judging some bytes on a game answers.
use Rattle.std.specs.Prelude.{ℕ, ◌<◌, ◌≤◌, List, Some, None, Ok, Err, Option, Result}
use Rattle.game.specs.Game.{Game}
use Rattle.game.specs.Plans.{Wins}
use Rattle.plans.specs.declared.fault.PlanFault.{PlanFault}
use Rattle.plans.specs.declared.mark.Mark.{Mark}
use Rattle.plans.specs.Bytes.{plan_of, WellFormed}
use Rattle.plans.specs.Refusals.{Refuses}
use Rattle.plans.specs.Marks.{Marks}

-- The bytes are a plan, and this is its mark.
abbrev pub FormedAndMarked : Game → List ℕ → Mark → Type 0
FormedAndMarked g bytes mark = WellFormed g bytes × Marks g (plan_of g.size bytes) mark

-- Nothing exactly where there are more than 16 positions; else a fault or a mark.
abbrev pub Judges : Game → List ℕ → Option (Result Mark PlanFault) → Type 0
Judges g bytes None = 16 < g.size
Judges g bytes (Some (Err fault)) = (g.size ≤ 16) × Refuses g bytes fault
Judges g bytes (Some (Ok mark)) = (g.size ≤ 16) × FormedAndMarked g bytes mark

-- The bytes are a plan that wins, on a game of at most 16 positions.
abbrev pub WinningBytes : Game → List ℕ → Type 0
WinningBytes g bytes = (g.size ≤ 16) × WellFormed g bytes × Wins g (plan_of g.size bytes)
