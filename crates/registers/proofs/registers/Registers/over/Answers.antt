use Rattle.std.proofs.Common.{ap, arith}
use Rattle.rows.specs.declared.shape.Shape.{Shape}
use Rattle.registers.proofs.Alike.{registers_stand}
use Rattle.registers.proofs.registers.Registers.over.Goals as goal

pub returns : goal.returns
returns g c =
    registers_stand c.args.r _ (g.A.Arena.game c.args.arena.now) c.in-Some.below (ap (λ (s : Shape). s.registers) c.new-moves.ensures) (omega arith) (omega arith) c.in-Some.ensures
