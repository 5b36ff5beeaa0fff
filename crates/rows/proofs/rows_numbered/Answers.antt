use Rattle.rows.proofs.Numbering.{rows_numbered_lem}
use Rattle.rows.proofs.rows_numbered.Goals as goal

pub returns : goal.returns
returns c = rows_numbered_lem
