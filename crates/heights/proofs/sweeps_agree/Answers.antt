use Rattle.heights.proofs.Sweeping.{sweeps_agree_lem}
use Rattle.heights.proofs.sweeps_agree.Goals as goal

pub returns : goal.returns
returns c = sweeps_agree_lem
