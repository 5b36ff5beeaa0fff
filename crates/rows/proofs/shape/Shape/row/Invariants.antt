use Rattle.rows.proofs.Filling.{Filling}
use Rattle.rows.proofs.shape.Shape.row.Given as goal

abbrev pub invariant-loop-i : goal.invariant-loop-i
invariant-loop-i l = Filling l.self.registers l.self.top l.k l.content-items l.i l.top l.rest
