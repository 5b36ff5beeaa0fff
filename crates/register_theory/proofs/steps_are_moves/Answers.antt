use Rattle.register_theory.proofs.Doubly.{steps_are_moves_lem, moves_are_steps}
use Rattle.register_theory.proofs.steps_are_moves.Goals as goal

pub returns : goal.returns
returns c = record { moves = λ g r. steps_are_moves_lem r g; steps = λ g r. moves_are_steps r g }
