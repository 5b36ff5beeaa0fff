use Rattle.register_theory.proofs.More.{kept_by_least}
use Rattle.register_theory.proofs.least_heights_tell.Goals as goal

pub returns : goal.returns
returns c = kept_by_least
