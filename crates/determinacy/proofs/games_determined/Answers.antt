use Rattle.determinacy.proofs.Determined.{determined}
use Rattle.determinacy.proofs.games_determined.Goals as goal

pub returns : goal.returns
returns c = determined
