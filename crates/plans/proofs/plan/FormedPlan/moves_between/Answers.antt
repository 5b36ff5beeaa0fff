use Rattle.std.proofs.Common.{rules}
use borrow.Author.Tests.{tests}
use Rattle.plans.specs.Bytes.{plan_of}
use Rattle.plans.specs.Findings.{MovesBetween}
use Rattle.plans.specs.Relations.{related}
use Rattle.plans.proofs.Searches.{decides}
use Rattle.plans.proofs.plan.FormedPlan.moves_between.Goals as goal

pub returns : goal.returns
returns g c = λ u w hu hw.
    let a = g.A.Arena.game c.args.self.now.arena.now in
    let h = c.of.ensures u w hu hw in
    decides (related c.of.result u w) (MovesBetween a (plan_of a.size c.args.self.now.bytes.now) c.args.by.low c.args.by.high u w) (search (rules, tests))
