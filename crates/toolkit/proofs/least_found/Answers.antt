use Rattle.toolkit.proofs.Laws.{least_or_none}
use Rattle.toolkit.proofs.least_found.Goals as goal

pub returns : goal.returns
returns c = least_or_none
