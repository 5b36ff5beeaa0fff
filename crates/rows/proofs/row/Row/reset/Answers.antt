use Rattle.std.proofs.Common.{◌∙◌, arith}
use Rattle.rows.proofs.Held.{reset_held}
use Rattle.rows.proofs.row.Row.reset.Goals as goal

pub invariant_of-self-clause-whole : goal.invariant_of-self-clause-whole
invariant_of-self-clause-whole c =
    let s = c.args.self in
    (reset_held s.registers c.args.j c.in_ok-index.index s.contents c.take_out.new.contents (omega arith) s.ordered c.in_ok-index.ensures c.take_out.ensures).0 ∙ s.whole

pub invariant_of-self-clause-ordered : goal.invariant_of-self-clause-ordered
invariant_of-self-clause-ordered c =
    let s = c.args.self in
    (reset_held s.registers c.args.j c.in_ok-index.index s.contents c.take_out.new.contents (omega arith) s.ordered c.in_ok-index.ensures c.take_out.ensures).1

pub returns : goal.returns
returns c =
    let s = c.args.self in
    (reset_held s.registers c.args.j c.in_ok-index.index s.contents c.take_out.new.contents (omega arith) s.ordered c.in_ok-index.ensures c.take_out.ensures).2
