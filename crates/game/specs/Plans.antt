-- Plans and winning. A plan is a positional strategy together with the set of positions that it claims.
use Rattle.std.specs.Prelude.{◌≡◌, ℕ, ◌%◌, ◌<◌, max, Bool, true, List, [], ◌∷◌, length, Some}
use Rattle.game.specs.declared.Player.{Player}
use Rattle.game.specs.declared.Arc.{Arc}
use Rattle.game.specs.Game.{Game, parity, rival, arc_at}

-- A plan belongs to a player, claims some positions, and chooses one arc at each claimed position where its player moves.
pub record Plan : Type 0 where
  pub player : Player
  pub claims : ℕ → Bool
  pub choice : ℕ → ℕ

-- A move follows the plan if it leaves a claimed position by one of its arcs: by the chosen one where the plan's player moves,
-- by any where the other player moves.
pub record Follows (g : Game) (s : Plan) (from to priority : ℕ) : Type 0 where
  pub number : ℕ
  pub arc : Arc
  pub claimed : s.claims from ≡ true
  pub is_arc : arc_at g from number ≡ Some arc
  pub chosen : g.mover from ≡ s.player → number ≡ s.choice from
  pub leads : arc.target ≡ to
  pub costs : arc.priority ≡ priority

-- A walk by moves of one kind, with the priorities met on the way: each move starts where the last one ended.
pub data Walk (Move : ℕ → ℕ → ℕ → Type 0) : ℕ → ℕ → List ℕ → Type 0 where
  stay : {v : ℕ} → Walk Move v v []
  step : {u v w p : ℕ} {ps : List ℕ} → Move u v p → Walk Move v w ps → Walk Move u w (p ∷ ps)

-- The highest priority of a walk.
abbrev pub highest : List ℕ → ℕ
highest [] = 0
highest (p ∷ ps) = max p (highest ps)

-- The plan wins: its choices are arcs, its claimed positions exist, every move that follows it ends in a claimed position, and every
-- closed walk of one or more such moves has a highest priority of the player's parity.
pub record Wins (g : Game) (s : Plan) : Type 0 where
  pub choice_is_arc : (v : ℕ) → s.claims v ≡ true → g.mover v ≡ s.player → s.choice v < length (g.arcs v)
  pub claims_exist : (v : ℕ) → s.claims v ≡ true → v < g.size
  pub stays_claimed : (v w p : ℕ) → Follows g s v w p → s.claims w ≡ true
  pub closed_walks : (v p : ℕ) (ps : List ℕ) → Walk (Follows g s) v v (p ∷ ps) → highest (p ∷ ps) % 2 ≡ parity s.player

-- Some winning plan of the player claims the position.
abbrev pub Winnable : Game → Player → ℕ → Type 0
Winnable g player v = (s : Plan) × Wins g s × (s.player ≡ player) × (s.claims v ≡ true)

-- The position belongs to the player: a winning plan of that player claims it, and none of the rival's does.
pub record Belongs (g : Game) (player : Player) (v : ℕ) : Type 0 where
  pub winnable : Winnable g player v
  pub not_rivals : Winnable g (rival player) v → ⊥
