-- Plans in dictionary order of their bytes.
use Rattle.std.specs.Prelude.{◌≡◌, ℕ, ◌⊎◌, List}
use Rattle.game.specs.declared.Player.{Player}
use Rattle.game.specs.Game.{Game}
use Rattle.game.specs.Dictionary.{Before}
use Rattle.determinacy.specs.Statements.{WinsRegion}
use Rattle.register_theory.specs.First.{FirstPlan}
use Rattle.plans.specs.Bytes.{plan_of, WellFormed}

-- If the bytes are the first plan that wins the player's region, any other bytes of such a plan are the same or come later.
abbrev pub FirstInBytes : Game → Player → List ℕ → List ℕ → Type 0
FirstInBytes g player bytes others =
    WellFormed g bytes → WellFormed g others → FirstPlan g player (plan_of g.size bytes) → WinsRegion g player (plan_of g.size others) → (others ≡ bytes) ⊎ Before bytes others
