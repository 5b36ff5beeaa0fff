use Rattle.register_theory.proofs.InTurn.{first_exists_lem}
use Rattle.register_theory.proofs.first_exists.Goals as goal

pub returns : goal.returns
returns c = first_exists_lem
