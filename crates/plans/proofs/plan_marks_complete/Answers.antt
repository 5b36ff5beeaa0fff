use Rattle.plans.proofs.Winning.{marks_complete}
use Rattle.plans.proofs.plan_marks_complete.Goals as goal

pub returns : goal.returns
returns c = marks_complete
