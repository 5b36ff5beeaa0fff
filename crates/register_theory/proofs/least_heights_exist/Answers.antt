use Rattle.register_theory.proofs.Exist.{heights_exist}
use Rattle.register_theory.proofs.least_heights_exist.Goals as goal

pub returns : goal.returns
returns c = heights_exist
