use Rattle.toolkit.proofs.Laws.{adding}
use Rattle.toolkit.proofs.adding_laws.Goals as goal

pub returns : goal.returns
returns c = adding
