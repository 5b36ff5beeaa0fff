use Rattle.heights.proofs.Taking.{sweeps_take_lem}
use Rattle.heights.proofs.sweeps_take.Goals as goal

pub returns : goal.returns
returns c = sweeps_take_lem
