use Rattle.case_theory.proofs.Binary.{log2_law}
use Rattle.case_theory.proofs.logarithm_lawful.Goals as goal

pub returns : goal.returns
returns c = log2_law
