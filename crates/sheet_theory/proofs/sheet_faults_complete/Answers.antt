use Rattle.sheet_theory.proofs.Total.{faults_complete}
use Rattle.sheet_theory.proofs.sheet_faults_complete.Goals as goal

pub returns : goal.returns
returns c = faults_complete
