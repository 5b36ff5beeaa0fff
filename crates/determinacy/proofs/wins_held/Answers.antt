use Rattle.determinacy.proofs.Hold.{wins_held_lem}
use Rattle.determinacy.proofs.wins_held.Goals as goal

pub returns : goal.returns
returns c = wins_held_lem
