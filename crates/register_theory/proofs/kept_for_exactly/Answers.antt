use Rattle.register_theory.proofs.First.{kept_for_exact}
use Rattle.register_theory.proofs.kept_for_exactly.Goals as goal

pub returns : goal.returns
returns c = kept_for_exact
