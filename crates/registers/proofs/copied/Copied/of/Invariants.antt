use Rattle.std.proofs.Common.{◌≡◌, ◌≤◌, length}
use Rattle.registers.specs.Layer.{arcs_below}
use Rattle.registers.proofs.Taking.{positions_below}
use Rattle.registers.proofs.copied.Copied.of.Given as goal

abbrev pub invariant-loop-v : goal.invariant-loop-v
invariant-loop-v g l =
    (l.positions.items ≡ positions_below (g.A.Arena.game l.arena) l.v) × (l.arcs.items ≡ arcs_below (g.A.Arena.game l.arena) l.v) × (length l.arcs.items ≤ 64)
