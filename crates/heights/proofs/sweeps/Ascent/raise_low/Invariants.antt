use Rattle.std.proofs.Common.{◌≡◌}
use Rattle.heights.specs.Sweeps.{swept_to, raises_to}
use Rattle.heights.proofs.sweeps.Ascent.raise_low.Given as goal

abbrev pub invariant-loop-v : goal.invariant-loop-v
invariant-loop-v g l =
    (l.self.cells.now ≡ swept_to l.self.scale.n l.self.scale.r (g.A.Arena.game l.self.arena.now) l.v l.initial.self.cells.now) ×
    (l.raises ≡ raises_to l.self.scale.n l.self.scale.r (g.A.Arena.game l.self.arena.now) l.v l.initial.self.cells.now) ×
    (l.self.cells.ghost_name ≡ l.initial.self.cells.ghost_name) ×
    (l.self.arena ≡ l.initial.self.arena) ×
    (l.self.scale ≡ l.initial.self.scale)
