use Rattle.register_theory.proofs.Exact.{exact}
use Rattle.register_theory.proofs.kept_exactly.Goals as goal

pub returns : goal.returns
returns c = exact
