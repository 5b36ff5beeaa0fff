use Rattle.plans.proofs.Complete.{faults_complete}
use Rattle.plans.proofs.plan_faults_complete.Goals as goal

pub returns : goal.returns
returns c = faults_complete
