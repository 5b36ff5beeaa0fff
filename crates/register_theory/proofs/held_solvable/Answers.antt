use Rattle.register_theory.proofs.Held.{held_solvable_lem}
use Rattle.register_theory.proofs.held_solvable.Goals as goal

pub returns : goal.returns
returns c = held_solvable_lem
