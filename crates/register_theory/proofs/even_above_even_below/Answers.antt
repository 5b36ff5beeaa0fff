use Rattle.register_theory.proofs.EvenBelow.{even_above_even_below_lem}
use Rattle.register_theory.proofs.even_above_even_below.Goals as goal

pub returns : goal.returns
returns c = even_above_even_below_lem
