use Rattle.std.proofs.Common.{refl, ap, ◌∙◌, arith}
use Rattle.heights.specs.Sweeps.{height_in}
use Rattle.heights.proofs.Due.{due_at_most}
use Rattle.heights.proofs.Running.{sweep_begins, sweep_lifts, raises_low}
use Rattle.heights.proofs.sweeps.Ascent.raise_low.Goals as goal
use Rattle.heights.proofs.sweeps.Ascent.raise_low.Goals.{then-lift, else-lift}

pub loop-v-init : goal.loop-v-init
loop-v-init g c =
    let s = c.args.self.now in
    let none = sweep_begins s.scale.n s.scale.r (g.A.Arena.game s.arena.now) s.cells.now in
    (none.0, none.1, refl, refl, refl)

pub lift-requires-clause-most : goal.lift-requires-clause-most
lift-requires-clause-most g c =
    let s = c.loop-v.self in
    let game = g.A.Arena.game s.arena.now in
    let same = ap (λ a. (g.A.Arena.game a.now).size) c.loop-v.invariant.3 in
    let wanted = due_at_most s.scale.n s.scale.r game s.scale.some (g.A.Arena.lawful s.arena.now) s.low (height_in s.cells.now) c.loop-v.v (omega arith) in
    omega arith

pub overflow_add-raises : goal.overflow_add-raises
overflow_add-raises g c =
    let s = c.loop-v.self in
    let few = (g.A.Arena.lawful s.arena.now).few_positions in
    omega (arith, raises_low s.scale.n s.scale.r (g.A.Arena.game s.arena.now) c.loop-v.v c.loop-v.raises c.args.self.now.cells.now c.loop-v.invariant.1)

pub loop-v-preserved : goal.loop-v-preserved
loop-v-preserved g c =
    let s = c.loop-v.self in
    let game = g.A.Arena.game s.arena.now in
    let done = c.loop-v.invariant in
    let lifted = c.lift.ensures in
    let step = sweep_lifts s.scale.n s.scale.r game c.loop-v.v c.loop-v.raises c.due-wanted.result c.args.self.now.cells.now s.cells.now done.0 done.1 c.due-wanted.ensures lifted.low lifted.cells in
    elim c.if-lift.branch [
      | then-lift w ↦ rw (w.raises-is, lifted.same_arena, lifted.same_scale) (step.0, step.1 w.if-lift.true, lifted.same_cells ∙ done.2, done.3, done.4)
      | else-lift w ↦ rw (w.raises-is, lifted.same_arena, lifted.same_scale) (step.0, step.2 w.if-lift.false, lifted.same_cells ∙ done.2, done.3, done.4)
    ]
