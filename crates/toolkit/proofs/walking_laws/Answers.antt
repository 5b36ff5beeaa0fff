use Rattle.toolkit.proofs.Laws.{walking}
use Rattle.toolkit.proofs.walking_laws.Goals as goal

pub returns : goal.returns
returns c = walking
