use Rattle.case_theory.proofs.Trust.{trust}
use Rattle.case_theory.proofs.promises_kept.Goals as goal

pub returns : goal.returns
returns c = trust
