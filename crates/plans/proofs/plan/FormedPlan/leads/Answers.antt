use Rattle.std.proofs.Common.{rules}
use borrow.Author.Tests.{tests}
use Rattle.plans.specs.Bytes.{plan_of}
use Rattle.plans.proofs.Following.{tells_moves}
use Rattle.plans.proofs.plan.FormedPlan.leads.Goals as goal

pub returns-then-u-size : goal.returns-then-u-size
returns-then-u-size g c =
    let a = g.A.Arena.game c.args.self.now.arena.now in
    tells_moves a (plan_of a.size c.args.self.now.bytes.now) c.args.u c.args.by.low c.args.by.high c.args.w c.some_move.result c.some_move.ensures (λ x k. search (rules, tests)) (λ x k to low high. search (rules, tests))
