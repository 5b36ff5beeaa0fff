use Rattle.std.proofs.Common.{arith}
use Rattle.plans.specs.Bytes.{plan_of}
use Rattle.plans.proofs.Following.{walk_from_inside}
use Rattle.plans.proofs.Circles.{walk_from_closes, closes_from_walk}
use Rattle.plans.proofs.Lows.{found_alike}
use Rattle.plans.proofs.plan.FormedPlan.closed_walk_at.Goals as goal

pub returns : goal.returns
returns g c =
    let a = g.A.Arena.game c.args.self.now.arena.now in
    let s = plan_of a.size c.args.self.now.bytes.now in
    let laws = g.A.Arena.lawful c.args.self.now.arena.now in
    let few = c.requires.few in
    let low = c.moves_between.result in
    let peaks = c.moves_between-peaks.result in
    let reached = c.closed-reach.result in
    let lows = c.moves_between.ensures in
    let tops = c.moves_between-peaks.ensures in
    let closure = c.closed-reach.ensures in
    let q = c.args.priority in
    found_alike
    (λ v here. walk_from_closes a s laws few q low peaks reached lows tops closure v (let inside = here.0 in omega arith) here.1)
    (λ v walk. let inside = walk_from_inside a s walk.walk in (omega arith, closes_from_walk a s laws few q low peaks reached lows tops closure v walk))
    c.first_closed.result c.first_closed.ensures
