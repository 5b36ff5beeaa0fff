use Rattle.std.proofs.Common.{sym}
use Rattle.rows.specs.Views.{contents_of}
use Rattle.registers.proofs.Rows.{step_made}
use Rattle.registers.proofs.tables.step.Goals as goal

pub returns : goal.returns
returns c = λ top is.
    let told = c.in_ok-next.ensures in
    step_made (contents_of c.args.row) (contents_of c.in_ok-next.next) c.args.j top _ _ c.if-j-eq0.false (sym told.register) told.row told.priority is c.number-2.ensures
