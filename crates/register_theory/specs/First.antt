-- The first, in dictionary order of their choices, of the plans that win all of a player's region.
use Rattle.std.specs.Prelude.{◌≡◌, ℕ, ◌<◌, ◌≤◌, true, ◌⊎◌, ◌↔◌, List, length, Some, Option}
use Rattle.game.specs.declared.Player.{Player}
use Rattle.game.specs.declared.Player.TheVariants.{Even, Odd}
use Rattle.game.specs.Game.{Game}
use Rattle.game.specs.Layers.{swapped, entry_at, held}
use Rattle.game.specs.Plans.{Plan, Winnable}
use Rattle.determinacy.specs.Layers.{Agrees}
use Rattle.determinacy.specs.Statements.{WinsRegion}
use Rattle.registers.specs.Layer.{stands}
use Rattle.register_theory.specs.Groups.{SmallGroups}
use Rattle.register_theory.specs.Kept.{Kept}

-- The game whose least heights keep positions for the player: the game itself for Even, the swapped game for Odd.
abbrev pub solved_for : Player → Game → Game
solved_for Even g = g
solved_for Odd g = swapped g

-- The position is kept for the player.
abbrev pub KeptFor : ℕ → Game → Player → ℕ → Type 0
KeptFor r g player v = Kept r (solved_for player g) v

-- What makes the player's verdicts exact: the game can be swapped, the layer stands, and the groups are small.
pub record Solvable (r : ℕ) (g : Game) (player : Player) : Type 0 where
  pub swaps : g.top < 250
  pub layer_stands : stands r (solved_for player g) ≡ true
  pub small : SmallGroups r g

-- Every position that the player can win is kept still, with the entries held.
abbrev pub KeepsAll : ℕ → List (Option ℕ) → Game → Player → Type 0
KeepsAll r entries g player = (v : ℕ) → Winnable g player v → KeptFor r (held entries g) player v

-- Some plan that wins the player's whole region agrees with the entries.
abbrev pub SomePlanAgrees : List (Option ℕ) → Game → Player → Type 0
SomePlanAgrees entries g player = (s : Plan) × WinsRegion g player s × Agrees entries g s

-- The plan claims the position, and its player moves there.
abbrev pub Own : Game → Plan → ℕ → Type 0
Own g s v = (s.claims v ≡ true) × (g.mover v ≡ s.player)

-- The other plan makes the same choices at the plan's own positions below v.
abbrev pub SameBelow : Game → Plan → Plan → ℕ → Type 0
SameBelow g s t v = (u : ℕ) → u < v → Own g s u → t.choice u ≡ s.choice u

-- The plan comes before the other: it has the smaller choice at the first own position where they differ.
pub record Earlier (g : Game) (s t : Plan) : Type 0 where
  pub place : ℕ
  pub own : Own g s place
  pub same_below : SameBelow g s t place
  pub smaller : s.choice place < t.choice place

-- The plan wins the player's region, and every other plan that wins it comes later or has the same choices.
pub record FirstPlan (g : Game) (player : Player) (s : Plan) : Type 0 where
  pub wins_region : WinsRegion g player s
  pub before_others : (t : Plan) → WinsRegion g player t → SameBelow g s t g.size ⊎ Earlier g s t

-- The entries hold the plan's choices at its own positions below v, arc i at v, and nothing else.
pub record HoldsTo (g : Game) (s : Plan) (entries : List (Option ℕ)) (v i : ℕ) : Type 0 where
  pub before : (u : ℕ) → u < v → Own g s u → entry_at entries u ≡ Some (s.choice u)
  pub here : entry_at entries v ≡ Some i
  pub no_others : (u k : ℕ) → entry_at entries u ≡ Some k → (u ≤ v) × Own g s u

-- Holding arc i at v on top of the plan's choices before keeps the player's whole region, or does not.
pub record Passes (r : ℕ) (g : Game) (player : Player) (s : Plan) (v i : ℕ) : Type 0 where
  pub entries : List (Option ℕ)
  pub holds : HoldsTo g s entries v i
  pub solvable : Solvable r (held entries g) player
  pub keeps : KeepsAll r entries g player

pub record Fails (r : ℕ) (g : Game) (player : Player) (s : Plan) (v i : ℕ) : Type 0 where
  pub entries : List (Option ℕ)
  pub holds : HoldsTo g s entries v i
  pub solvable : Solvable r (held entries g) player
  pub loses : KeepsAll r entries g player → ⊥

-- The plan as it is found by holding one arc after another: it claims the player's region, and its choice at each own position is the first arc that
-- passes.
pub record FoundByHolding (r : ℕ) (g : Game) (player : Player) (s : Plan) : Type 0 where
  pub is_players : s.player ≡ player
  pub claims_region : (v : ℕ) → (s.claims v ≡ true) ↔ Winnable g player v
  pub choice_is_arc : (v : ℕ) → Own g s v → s.choice v < length (g.arcs v)
  pub passes : (v : ℕ) → Own g s v → Passes r g player s v (s.choice v)
  pub fails_before : (v i : ℕ) → Own g s v → i < s.choice v → Fails r g player s v i
