use Rattle.rows.specs.Views.{contents_of}
use Rattle.registers.proofs.Rows.{number_updated}
use Rattle.registers.proofs.tables.updated_number.Goals as goal

pub returns : goal.returns
returns c = λ top is low.
    number_updated (contents_of c.args.row) (contents_of c.update.result) c.args.p top _ c.update.ensures is low c.number.ensures
