use Rattle.std.proofs.Common.{rules, arith}
use borrow.Author.Tests.{tests}
use Rattle.plans.specs.Bytes.{plan_of}
use Rattle.plans.specs.Marks.{StepsOut}
use Rattle.plans.proofs.Following.{move_from_inside}
use Rattle.plans.proofs.Lows.{found_alike}
use Rattle.plans.proofs.Searches.{found_first}
use Rattle.plans.proofs.plan.FormedPlan.first_out.Goals as goal

pub returns : goal.returns
returns g c =
    let a = g.A.Arena.game c.args.self.now.arena.now in
    let s = plan_of a.size c.args.self.now.bytes.now in
    let found = found_first c.size.result (StepsOut a s) _ _ c.find.result c.find.ensures.ran (λ x b q k. (search (rules, tests), search (rules, tests))) in
    found_alike (λ v here. here.1) (λ v out. let inside = move_from_inside a s out.move in (omega arith, out)) c.find.result found
