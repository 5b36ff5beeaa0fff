use Rattle.heights.proofs.Climb.{climb_laws_lem}
use Rattle.heights.proofs.climb_laws.Goals as goal

pub returns : goal.returns
returns c = climb_laws_lem
