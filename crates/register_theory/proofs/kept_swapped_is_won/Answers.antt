use Rattle.register_theory.proofs.Sound.{kept_swapped_is_won_lem}
use Rattle.register_theory.proofs.kept_swapped_is_won.Goals as goal

pub returns : goal.returns
returns c = kept_swapped_is_won_lem
