use Rattle.std.proofs.Common.{arith}
use Rattle.registers.proofs.Replies.{some_rows}
use Rattle.registers.proofs.registers.Layer.spot.Goals as goal

pub nonzero_div-place : goal.nonzero_div-place
nonzero_div-place c = let h = some_rows c.args.self.now in omega arith

pub nonzero_rem-row : goal.nonzero_rem-row
nonzero_rem-row c = let h = some_rows c.args.self.now in omega arith
