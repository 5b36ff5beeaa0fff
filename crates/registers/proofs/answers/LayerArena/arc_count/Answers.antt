use Rattle.std.proofs.Common.{Some, ap, ◌∙◌}
use Rattle.registers.proofs.Replies.{reply_absent, count_at_position, count_at_arc}
use Rattle.registers.proofs.answers.LayerArena.arc_count.Goals as goal

pub returns-in_err-v : goal.returns-in_err-v
returns-in_err-v c = reply_absent c.args.self.now c.args.x _ _ c.from_residual.ensures c.in_err-v.ensures

pub returns-in-AtPosition : goal.returns-in-AtPosition
returns-in-AtPosition c =
    let (inside, at, row) = rw c.in-AtPosition.is at c.in_ok-v.ensures in
    count_at_position c.args.self.now c.args.x c.in-AtPosition.v c.in-AtPosition.row inside at row _ _ c.deref.ensures.0

pub returns-in-AtArc : goal.returns-in-AtArc
returns-in-AtArc c =
    let (inside, at, row) = rw c.in-AtArc.is at c.in_ok-v.ensures in
    ap Some c.step_count.ensures ∙ count_at_arc c.args.self.now c.args.x c.in-AtArc.e c.in-AtArc.row inside at row
