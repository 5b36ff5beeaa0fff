-- How many registers are needed and how many cells they take, for numbers of positions and for the game with two positions.
use Rattle.std.specs.Prelude.{◌≡◌}
use Rattle.plans.specs.Examples.{roof}
use Rattle.case_rules.specs.Binary.{binary_digits}
use Rattle.case_rules.specs.Limits.{needed, cells_for}

abbrev pub WorkedMeasures : Type 0
WorkedMeasures = (binary_digits 15 ≡ 4) × (binary_digits 16 ≡ 5) × (needed roof ≡ 2) × (cells_for roof 1 ≡ 45) × (cells_for roof 2 ≡ 225)
