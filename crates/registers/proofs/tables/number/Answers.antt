use Rattle.std.proofs.Common.{arith}
use Rattle.std.proofs.lemmas.List.{length-take-le}
use Rattle.rows.specs.Views.{contents_of}
use Rattle.registers.proofs.Rows.{number_small}
use Rattle.registers.proofs.tables.number.Goals as goal

pub overflow_cast-result : goal.overflow_cast-result
overflow_cast-result c =
    let row = c.args.row in
    let long = length-take-le row.registers row.contents (omega arith) in
    let told = c.number.ensures.value 10 c.number.ensures.row in
    let small = number_small (contents_of row) (omega arith) c.number.ensures.row in
    omega arith
