use Rattle.heights.proofs.Sweeping.{least_unique_lem}
use Rattle.heights.proofs.least_unique.Goals as goal

pub returns : goal.returns
returns c = least_unique_lem
