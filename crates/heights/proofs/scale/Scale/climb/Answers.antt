use Rattle.std.proofs.Common.{arith}
use Rattle.std.proofs.Math.Nat.{one-le-pow}
use Rattle.heights.proofs.Climb.{power_small}
use Rattle.heights.proofs.scale.Scale.climb.Goals as goal

pub nonzero_rem-floor : goal.nonzero_rem-floor
nonzero_rem-floor c = grind (arith, one-le-pow)

pub overflow_add-result : goal.overflow_add-result
overflow_add-result c = grind (arith, power_small)
