use Rattle.std.proofs.Common.{◌≡◌, ◌-◌, ◌*◌}
use Rattle.toolkit.specs.Finite.{sum}
use Rattle.heights.specs.Climb.{lost}
use Rattle.heights.specs.Sweeps.{height_in}
use Rattle.heights.proofs.Running.{UnderWay}
use Rattle.heights.proofs.sweeps.Ascent.settle.Given as goal

abbrev pub invariant-loop-raises : goal.invariant-loop-raises
invariant-loop-raises g l =
    UnderWay l.self.scale.n l.self.scale.r (g.A.Arena.game l.self.arena.now) l.initial.self.cells.now l.self.cells.now l.total ×
    (l.self.cells.ghost_name ≡ l.initial.self.cells.ghost_name) ×
    (l.self.arena ≡ l.initial.self.arena) ×
    (l.self.scale ≡ l.initial.self.scale)

abbrev pub decreases-loop-raises : goal.decreases-loop-raises
decreases-loop-raises g l = (g.A.Arena.game l.self.arena.now).size * lost l.self.scale.n l.self.scale.r - sum (g.A.Arena.game l.self.arena.now).size (height_in l.self.cells.now)
