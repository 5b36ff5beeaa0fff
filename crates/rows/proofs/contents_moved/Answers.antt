use Rattle.rows.proofs.Moving.{contents_moved_lem}
use Rattle.rows.proofs.contents_moved.Goals as goal

pub returns : goal.returns
returns c = contents_moved_lem
