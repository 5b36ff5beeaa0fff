use Rattle.register_theory.proofs.InTurn.{found_first}
use Rattle.register_theory.proofs.found_first.Goals as goal

pub returns : goal.returns
returns c = λ r g player s lawful. found_first r g player lawful s
