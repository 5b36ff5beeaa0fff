-- Climbs for 2 positions and 1 register, where T is 4.
use Rattle.std.specs.Prelude.{◌≡◌}
use Rattle.heights.specs.Climb.{lost, climb}

abbrev pub WorkedClimbs : Type 0
WorkedClimbs = (lost 2 1 ≡ 4) × (climb 2 1 1 1 ≡ 2) × (climb 2 1 1 2 ≡ 0) × (climb 2 1 3 2 ≡ 2) × (climb 2 1 3 3 ≡ 4)
