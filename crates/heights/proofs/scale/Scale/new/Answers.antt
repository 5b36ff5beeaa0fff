use Rattle.std.proofs.Common.{arith}
use Rattle.std.proofs.iter.Serving.{serving}
use Rattle.heights.proofs.Climb.{power_small}
use Rattle.heights.proofs.scale.Scale.new.Goals as goal

pub from_fn-steps-requires : goal.from_fn-steps-requires
from_fn-steps-requires c = grind (serving, arith, power_small)

pub pow-limit-requires : goal.pow-limit-requires
pow-limit-requires c = grind (arith, power_small)
