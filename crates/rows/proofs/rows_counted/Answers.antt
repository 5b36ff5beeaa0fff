use Rattle.rows.proofs.Numbering.{rows_counted_lem}
use Rattle.rows.proofs.rows_counted.Goals as goal

pub returns : goal.returns
returns c = rows_counted_lem
