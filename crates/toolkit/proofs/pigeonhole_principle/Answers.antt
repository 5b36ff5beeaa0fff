use Rattle.toolkit.proofs.Pigeonhole.{pigeonhole}
use Rattle.toolkit.proofs.pigeonhole_principle.Goals as goal

pub returns : goal.returns
returns c = pigeonhole
