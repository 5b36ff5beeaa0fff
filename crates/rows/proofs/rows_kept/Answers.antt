use Rattle.rows.proofs.Moving.{rows_kept_lem}
use Rattle.rows.proofs.rows_kept.Goals as goal

pub returns : goal.returns
returns c = rows_kept_lem
