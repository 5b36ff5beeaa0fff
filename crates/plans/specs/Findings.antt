-- What the steps of judging find.
use Rattle.std.specs.Prelude.{◌≡◌, ℕ, ◌%◌, ◌<◌, ◌≤◌, Bool, true, false, List, ◌∷◌, Option, Some, None, min, Decides, MatchBool}
use Rattle.game.specs.declared.Arc.{Arc}
use Rattle.game.specs.Game.{Game, parity, rival}
use Rattle.game.specs.Plans.{Plan, Follows, Walk, highest}
use Rattle.plans.specs.declared.relation.Relation.{Relation}
use Rattle.plans.specs.Relations.{related}

-- The answer says whether P holds.
abbrev pub Tells : Bool → Type 0 → Type 0
Tells r P = MatchBool r P (P → ⊥)

-- The answer says whether some move from v that follows the plan is by an arc of which the test says yes.
abbrev pub TellsSomeMove : Game → Plan → ℕ → (Arc → Bool → Type 0) → Bool → Type 0
TellsSomeMove g s v says r = MatchBool r ((arc : Arc) × Follows g s v arc.target arc.priority × says arc true) ((arc : Arc) → Follows g s v arc.target arc.priority → says arc false)

-- A move from u to w that follows the plan, with a priority from low to high.
pub record MovesBetween (g : Game) (s : Plan) (low high u w : ℕ) : Type 0 where
  pub priority : ℕ
  pub move : Follows g s u w priority
  pub not_lower : low ≤ priority
  pub not_higher : priority ≤ high

-- The relation has just those moves.
abbrev pub HasMoves : Game → Plan → ℕ → ℕ → Relation → Type 0
HasMoves g s low high r = (u w : ℕ) → u < 16 → w < 16 → Decides (related r u w) (MovesBetween g s low high u w)

-- From v a closed walk of following moves has q for its highest priority.
pub record ClosedWalkAt (g : Game) (s : Plan) (q v : ℕ) : Type 0 where
  pub first : ℕ
  pub rest : List ℕ
  pub walk : Walk (Follows g s) v v (first ∷ rest)
  pub is_highest : highest (first ∷ rest) ≡ q

-- The same, where q has the parity of the player's rival.
pub record LosingWalkAt (g : Game) (s : Plan) (q v : ℕ) : Type 0 where
  pub wrong : q % 2 ≡ parity (rival s.player)
  pub closed : ClosedWalkAt g s q v

-- The lower of two positions, where there are any.
abbrev pub lower_of : Option ℕ → Option ℕ → Option ℕ
lower_of None b = b
lower_of (Some x) None = Some x
lower_of (Some x) (Some y) = Some (min x y)
