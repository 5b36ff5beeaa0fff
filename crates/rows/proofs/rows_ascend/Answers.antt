use Rattle.rows.proofs.Numbering.{rows_ascend_lem}
use Rattle.rows.proofs.rows_ascend.Goals as goal

pub returns : goal.returns
returns c = rows_ascend_lem
