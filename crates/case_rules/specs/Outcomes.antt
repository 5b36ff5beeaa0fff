-- What a solve gives, and what plans issue is to choose from.
use Rattle.std.specs.Prelude.{◌≡◌, ℕ, zero, suc, ◌+◌, ◌<◌, ◌≤◌, Bool, true, ◌&&◌, ◌⊎◌, ◌↔◌, List, Option, ◌==◌, Some, None}
use Rattle.game.specs.declared.Player.{Player}
use Rattle.game.specs.declared.Player.TheVariants.{Even, Odd}
use Rattle.game.specs.Game.{Game}
use Rattle.game.specs.Layers.{held}
use Rattle.game.specs.Plans.{Wins}
use Rattle.game.specs.Dictionary.{Before}
use Rattle.heights.specs.Sweeps.{Takes}
use Rattle.registers.specs.Layer.{registers}
use Rattle.register_theory.specs.First.{solved_for, KeptFor}
use Rattle.plans.specs.Bytes.{player_of, plan_of, WellFormed}
use Rattle.case_rules.specs.Limits.{within, needed, IsUsed}

-- What a solved case knows: the registers used and needed, whether the solve was full, the raises, and each position's verdict.
pub record Outcome : Type 0 where
  pub used : ℕ
  pub needed : ℕ
  pub full : Bool
  pub raises : ℕ
  pub verdicts : ℕ → Option Player

-- The verdict of r registers on a position of the arena as held: the player for whom they keep it, or open where they keep it for neither.
abbrev pub Decides : ℕ → Game → ℕ → Option Player → Type 0
Decides r h v (Some player) = KeptFor r h player v
Decides r h v None = (player : Player) → KeptFor r h player v → ⊥

-- With no registers every verdict is open. What stands where there is no position is open too.
pub record Decided (r : ℕ) (h : Game) (verdicts : ℕ → Option Player) : Type 0 where
  pub by_registers : (v : ℕ) → 1 ≤ r → v < h.size → Decides r h v (verdicts v)
  pub by_none : (v : ℕ) → (r ≡ 0) ⊎ (h.size ≤ v) → verdicts v ≡ None

-- How many raises the sweeps take that find what is kept for the player, and those of both players together; with no registers there are none.
abbrev pub RaisesFor : ℕ → Game → Player → ℕ → Type 0
RaisesFor r h player = Takes h.size r (registers r (solved_for player h))

abbrev pub Raised : ℕ → Game → ℕ → Type 0
Raised zero h raises = raises ≡ 0
Raised (suc r) h raises = (even odd : ℕ) × RaisesFor (suc r) h Even even × RaisesFor (suc r) h Odd odd × (raises ≡ even + odd)

-- The outcome of a solve of the case on g with these entries, so many registers wanted and room for so many cells.
pub record Solves (g : Game) (entries : List (Option ℕ)) (wanted room : ℕ) (o : Outcome) : Type 0 where
  pub is_used : IsUsed g wanted room o.used
  pub is_needed : o.needed ≡ needed g
  pub is_full : o.full ≡ (within g && o.used == o.needed)
  pub decided : Decided o.used (held entries g) o.verdicts
  pub raised : Raised o.used (held entries g) o.raises

-- The bytes are a winning plan of the player that claims exactly the positions that are said to be the player's.
pub record WinningPlan (h : Game) (player : Player) (Mine : ℕ → Type 0) (bytes : List ℕ) : Type 0 where
  pub formed : WellFormed h bytes
  pub players : player_of bytes ≡ player
  pub wins : Wins h (plan_of h.size bytes)
  pub claims_mine : (v : ℕ) → v < h.size → ((plan_of h.size bytes).claims v ≡ true) ↔ Mine v

-- And of all such plans it is the first in dictionary order.
pub record FirstWinning (h : Game) (player : Player) (Mine : ℕ → Type 0) (bytes : List ℕ) : Type 0 where
  pub such : WinningPlan h player Mine bytes
  pub first : (others : List ℕ) → WinningPlan h player Mine others → (others ≡ bytes) ⊎ Before bytes others
