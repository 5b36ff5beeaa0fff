-- A game of two positions, and three plans on it.
use Rattle.std.specs.Prelude.{ℕ, List, [], ◌∷◌, slice_index_or}
use Rattle.game.specs.declared.Player.TheVariants.{Even, Odd}
use Rattle.game.specs.declared.Arc.{Arc}
use Rattle.game.specs.Game.{Game}
use Rattle.game.specs.Plans.{Wins}
use Rattle.plans.specs.declared.mark.Mark.{Mark}
use Rattle.plans.specs.declared.mark.Mark.TheVariants.{Passes, Leaves, Loses}
use Rattle.plans.specs.Bytes.{plan_of, WellFormed}
use Rattle.plans.specs.Marks.{Marks}

abbrev pub arc_to : ℕ → ℕ → Arc
arc_to target priority = record { target = target; priority = priority }

-- Even moves at 0, with arcs to 1 and back to 0; Odd moves at 1, with one arc to 0.
abbrev pub roof : Game
roof = record {
  size = 2;
  top = 7;
  mover = λ v. slice_index_or (Even ∷ []) v Odd;
  arcs = λ v. slice_index_or ((arc_to 1 1 ∷ arc_to 0 2 ∷ []) ∷ (arc_to 0 0 ∷ []) ∷ []) v [];
}

abbrev pub Marked : List ℕ → Mark → Type 0
Marked bytes mark = WellFormed roof bytes × Marks roof (plan_of 2 bytes) mark

-- Staying at 0 passes, and wins; going to 1 and back loses at 0; claiming 1 alone leaves there.
pub record WorkedPlans : Type 0 where
  pub stays : Marked (0 ∷ 2 ∷ 1 ∷ 254 ∷ []) Passes
  pub stays_wins : Wins roof (plan_of 2 (0 ∷ 2 ∷ 1 ∷ 254 ∷ []))
  pub goes : Marked (0 ∷ 2 ∷ 0 ∷ 254 ∷ []) (Loses 0)
  pub goes_out : Marked (0 ∷ 2 ∷ 255 ∷ 254 ∷ []) (Leaves 1)
