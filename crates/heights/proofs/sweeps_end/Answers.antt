use Rattle.heights.proofs.Sweeping.{sweeps_end_lem}
use Rattle.heights.proofs.sweeps_end.Goals as goal

pub returns : goal.returns
returns c n r g cells some lawful low_top fits = sweeps_end_lem n r g some lawful low_top cells fits
