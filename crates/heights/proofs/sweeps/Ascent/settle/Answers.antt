use Rattle.std.proofs.Common.{refl, ◌∙◌, arith}
use Rattle.heights.proofs.Running.{some_raises, no_raises, way_ends, way_goes_on, lack_falls, total_small}
use Rattle.heights.proofs.sweeps.Ascent.settle.Goals as goal

pub returns-clause-swept : goal.returns-clause-swept
returns-clause-swept g c =
    let s = c.loop-raises.self in
    let done = c.loop-raises.invariant in
    let swept = c.sweep.ensures in
    let none = no_raises c.sweep.result _ c.in_default.is swept.raises in
    rw (← done.2, ← done.3) (way_ends s.scale.n s.scale.r (g.A.Arena.game s.arena.now) done.0 swept.cells refl none)

pub overflow_add-total : goal.overflow_add-total
overflow_add-total g c =
    let s = c.loop-raises.self in
    let t = c.sweep.new.self in
    let swept = c.sweep.ensures in
    let raised = some_raises c.sweep.result c.in-Some.raises _ c.in-Some.is swept.raises swept.some in
    let way = way_goes_on s.scale.n s.scale.r (g.A.Arena.game s.arena.now) c.loop-raises.invariant.0 swept.cells raised.0 s.room raised.1 in
    let few = (g.A.Arena.lawful s.arena.now).few_positions in
    let small = total_small s.scale.n s.scale.r (g.A.Arena.game s.arena.now) way (rw (swept.same_arena, swept.same_scale) at t.bounded) few s.scale.low s.scale.few in
    omega arith

pub loop-raises-smaller : goal.loop-raises-smaller
loop-raises-smaller g c =
    let s = c.loop-raises.self in
    let t = c.sweep.new.self in
    let swept = c.sweep.ensures in
    let raised = some_raises c.sweep.result c.in-Some.raises _ c.in-Some.is swept.raises swept.some in
    rw (swept.same_arena, swept.same_scale) (lack_falls s.scale.n s.scale.r (g.A.Arena.game s.arena.now) c.loop-raises.invariant.0 swept.cells raised.0 s.room raised.1 (rw (swept.same_arena, swept.same_scale) at t.bounded))

pub loop-raises-preserved : goal.loop-raises-preserved
loop-raises-preserved g c =
    let s = c.loop-raises.self in
    let done = c.loop-raises.invariant in
    let swept = c.sweep.ensures in
    let raised = some_raises c.sweep.result c.in-Some.raises _ c.in-Some.is swept.raises swept.some in
    let way = way_goes_on s.scale.n s.scale.r (g.A.Arena.game s.arena.now) done.0 swept.cells raised.0 s.room raised.1 in
    (rw (swept.same_arena, swept.same_scale) way, swept.same_cells ∙ done.1, swept.same_arena ∙ done.2, swept.same_scale ∙ done.3)
