use Rattle.heights.proofs.Ladder.{counters_laws}
use Rattle.heights.proofs.counters_lawful.Goals as goal

pub returns : goal.returns
returns c = counters_laws
