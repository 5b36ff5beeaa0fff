use Rattle.game.proofs.Loops.{lone_loops_decided_lem}
use Rattle.game.proofs.lone_loops_decided.Goals as goal

pub returns : goal.returns
returns c = lone_loops_decided_lem
