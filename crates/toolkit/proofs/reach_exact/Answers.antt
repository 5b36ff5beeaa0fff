use Rattle.toolkit.proofs.Reachability.{reach_exact_lem}
use Rattle.toolkit.proofs.reach_exact.Goals as goal

pub returns : goal.returns
returns c = reach_exact_lem
