-- What judging a plan finds, by the moves that follow it and their closed walks.
use Rattle.std.specs.Prelude.{◌≡◌, ℕ, ◌%◌, ◌<◌, false, List, ◌∷◌, Some, None, Option}
use Rattle.game.specs.Game.{Game, parity, rival}
use Rattle.game.specs.Plans.{Plan, Follows, Walk, highest}
use Rattle.plans.specs.declared.mark.Mark.{Mark}
use Rattle.plans.specs.declared.mark.Mark.TheVariants.{Passes, Leaves, Loses}

-- From p, which is then claimed, a move that follows the plan ends unclaimed.
pub record StepsOut (g : Game) (s : Plan) (p : ℕ) : Type 0 where
  pub to : ℕ
  pub priority : ℕ
  pub move : Follows g s p to priority
  pub unclaimed : s.claims to ≡ false

-- Position p is on a closed walk of following moves whose highest priority has the other player's parity. (A closed walk may be
-- begun at any of its positions: here it is begun at p.)
pub record OnLosingWalk (g : Game) (s : Plan) (p : ℕ) : Type 0 where
  pub first : ℕ
  pub rest : List ℕ
  pub walk : Walk (Follows g s) p p (first ∷ rest)
  pub wrong : highest (first ∷ rest) % 2 ≡ parity (rival s.player)

-- No position has the property; p is the lowest position that has it.
abbrev pub Nowhere : (ℕ → Type 0) → Type 0
Nowhere P = (v : ℕ) → P v → ⊥

pub record Lowest (P : ℕ → Type 0) (p : ℕ) : Type 0 where
  pub here : P p
  pub none_below : (v : ℕ) → v < p → P v → ⊥

-- The lowest position with the property, or there is none.
abbrev pub Found : (ℕ → Type 0) → Option ℕ → Type 0
Found P None = Nowhere P
Found P (Some p) = Lowest P p

-- The plan passes, leaves at p or loses at p. Where it both leaves and loses, it leaves.
abbrev pub Marks : Game → Plan → Mark → Type 0
Marks g s Passes = Nowhere (StepsOut g s) × Nowhere (OnLosingWalk g s)
Marks g s (Leaves p) = Lowest (StepsOut g s) p
Marks g s (Loses p) = Nowhere (StepsOut g s) × Lowest (OnLosingWalk g s) p

abbrev pub mark_number : Mark → ℕ
mark_number Passes = 0
mark_number (Leaves p) = 1
mark_number (Loses p) = 2
