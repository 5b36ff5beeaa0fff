use Rattle.rows.proofs.Numbering.{rows_listed_lem}
use Rattle.rows.proofs.rows_listed.Goals as goal

pub returns : goal.returns
returns c = rows_listed_lem
