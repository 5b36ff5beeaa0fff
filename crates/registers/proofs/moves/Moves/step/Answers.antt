use Rattle.std.proofs.Common.{None, ◌∙◌, arith}
use Rattle.registers.proofs.Reading.{moves_found}
use Rattle.registers.proofs.moves.Moves.step.Goals as goal

pub returns-in_err-get : goal.returns-in_err-get
returns-in_err-get c =
    c.from_residual.ensures ∙ c.in_err-get.ensures.lookup.4 (omega arith) None ∙ (moves_found c.args.self.now c.args.k c.requires _ _ c.deref.ensures.0).steps c.args.j

pub returns : goal.returns
returns c =
    c.in_ok-get.ensures.lookup.4 (omega arith) None ∙ (moves_found c.args.self.now c.args.k c.requires _ _ c.deref.ensures.0).steps c.args.j
