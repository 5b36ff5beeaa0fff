use Rattle.register_theory.proofs.Complete.{won_is_kept_lem}
use Rattle.register_theory.proofs.won_is_kept.Goals as goal

pub returns : goal.returns
returns c = won_is_kept_lem
