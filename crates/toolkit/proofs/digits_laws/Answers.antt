use Rattle.toolkit.proofs.Laws.{digits_laws_lem}
use Rattle.toolkit.proofs.digits_laws.Goals as goal

pub returns : goal.returns
returns c = digits_laws_lem
