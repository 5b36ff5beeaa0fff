use Rattle.std.proofs.Common.{arith}
use Rattle.registers.proofs.Replies.{some_rows, mover_there}
use Rattle.registers.proofs.answers.LayerArena.mover.Goals as goal

pub nonzero_div-x : goal.nonzero_div-x
nonzero_div-x c = let h = some_rows c.args.self.now in omega arith

pub returns-then-x-size : goal.returns-then-x-size
returns-then-x-size c =
    mover_there c.args.self.now c.args.x c.len.result c.mover.result (omega arith) c.mover.ensures (omega arith)
