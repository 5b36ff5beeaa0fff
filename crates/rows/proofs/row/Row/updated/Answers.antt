use Rattle.std.proofs.Common.{arith}
use Rattle.rows.proofs.Held.{updated_held}
use Rattle.rows.proofs.row.Row.updated.Goals as goal

pub invariant_of-self-clause-ordered : goal.invariant_of-self-clause-ordered
invariant_of-self-clause-ordered c =
    let s = c.args.self in
    (updated_held s.registers c.args.p s.contents c.raised-self.result s.few (omega arith) s.ordered s.whole c.raised-self.ensures.whole c.raised-self.ensures.each).0

pub returns : goal.returns
returns c =
    let s = c.args.self in
    (updated_held s.registers c.args.p s.contents c.raised-self.result s.few (omega arith) s.ordered s.whole c.raised-self.ensures.whole c.raised-self.ensures.each).1
