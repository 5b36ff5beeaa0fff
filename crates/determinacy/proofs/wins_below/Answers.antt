use Rattle.determinacy.proofs.Hold.{wins_below_lem}
use Rattle.determinacy.proofs.wins_below.Goals as goal

pub returns : goal.returns
returns c = wins_below_lem
