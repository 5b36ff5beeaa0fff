use Rattle.std.proofs.Common.{Some, ap, ◌∙◌, arith}
use Rattle.std.proofs.lemmas.Nat.{mod_below}
use Rattle.registers.specs.Views.{row_total}
use Rattle.registers.proofs.Replies.{some_rows, reply_absent, number_inside, arc_at_position, no_arc_at_position, arc_at_arc}
use Rattle.registers.proofs.answers.LayerArena.arc.Goals as goal

pub returns-in_err-v : goal.returns-in_err-v
returns-in_err-v c = reply_absent c.args.self.now c.args.x _ _ c.from_residual.ensures c.in_err-v.ensures

pub returns-in_err-e-in-AtPosition : goal.returns-in_err-e-in-AtPosition
returns-in_err-e-in-AtPosition c =
    let (inside, at, row) = rw c.in-AtPosition.is at c.in_ok-v.ensures in
    no_arc_at_position c.args.self.now c.args.x c.in-AtPosition.v c.in-AtPosition.row inside at row c.args.i _ c.from_residual-in_err-e-in-AtPosition.ensures c.in_err-e-in-AtPosition.ensures

pub entering-requires : goal.entering-requires
entering-requires c =
    let s = c.args.self.now in
    let (inside, at, row) = rw c.in-AtPosition.is at c.in_ok-v.ensures in
    let there = number_inside s c.args.x c.in-AtPosition.v c.in-AtPosition.row inside at row c.args.i c.in_ok-e-in-AtPosition.e c.in_ok-e-in-AtPosition.ensures in
    let below = mod_below c.args.x (row_total s) (some_rows s) in
    record {
      arc = there.2;
      row = omega arith;
    }

pub returns-in_ok-e-in-AtPosition : goal.returns-in_ok-e-in-AtPosition
returns-in_ok-e-in-AtPosition c =
    let (inside, at, row) = rw c.in-AtPosition.is at c.in_ok-v.ensures in
    ap Some c.entering.ensures ∙
    arc_at_position c.args.self.now c.args.x c.in-AtPosition.v c.in-AtPosition.row inside at row c.args.i c.in_ok-e-in-AtPosition.e c.in_ok-e-in-AtPosition.ensures

pub returns-in-AtArc : goal.returns-in-AtArc
returns-in-AtArc c =
    let (inside, at, row) = rw c.in-AtArc.is at c.in_ok-v.ensures in
    arc_at_arc c.args.self.now c.args.x c.in-AtArc.e c.in-AtArc.row inside at row c.args.i _ c.leaving.ensures
