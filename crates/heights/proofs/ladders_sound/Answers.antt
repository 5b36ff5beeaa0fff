use Rattle.heights.proofs.Ladder.{closed_walks_even}
use Rattle.heights.proofs.ladders_sound.Goals as goal

pub returns : goal.returns
returns g c limit l laws height moves keeps v p ps walk = closed_walks_even laws height keeps walk
