use Rattle.toolkit.proofs.Laws.{counting}
use Rattle.toolkit.proofs.counting_laws.Goals as goal

pub returns : goal.returns
returns c = counting
