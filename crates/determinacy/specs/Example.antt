-- A game of four positions whose regions can be seen by eye.
use Rattle.std.specs.Prelude.{ℕ, true, false, [], ◌∷◌, slice_index, slice_index_or}
use Rattle.game.specs.declared.Player.TheVariants.{Even, Odd}
use Rattle.game.specs.declared.Arc.{Arc}
use Rattle.game.specs.Game.{Game}
use Rattle.game.specs.Plans.{Plan}

abbrev pub arc_to : ℕ → ℕ → Arc
arc_to target priority = record { target = target; priority = priority }

-- Even moves at 0 and 3, Odd at 1 and 2; each position has two arcs.
abbrev pub example : Game
example = record {
  size = 4;
  top = 5;
  mover = λ v. slice_index_or (Even ∷ Odd ∷ Odd ∷ Even ∷ []) v Even;
  arcs = λ v. slice_index_or ((arc_to 1 1 ∷ arc_to 2 4 ∷ []) ∷ (arc_to 0 2 ∷ arc_to 3 3 ∷ []) ∷ (arc_to 0 1 ∷ arc_to 2 2 ∷ []) ∷ (arc_to 3 5 ∷ arc_to 1 1 ∷ []) ∷ []) v [];
}

-- Even claims 0 and 2, and goes from 0 to 2: the closed walks have 4 or 2 for their highest priority.
abbrev pub even_plan : Plan
even_plan = record { player = Even; claims = λ v. slice_index_or (true ∷ false ∷ true ∷ false ∷ []) v false; choice = λ v. slice_index (1 ∷ []) v }

-- Odd claims 1 and 3, and goes from 1 to 3: the closed walks have 5 or 3 for their highest priority.
abbrev pub odd_plan : Plan
odd_plan = record { player = Odd; claims = λ v. slice_index_or (false ∷ true ∷ false ∷ true ∷ []) v false; choice = λ v. slice_index (0 ∷ 1 ∷ []) v }
