use Rattle.std.proofs.Common.{rules}
use borrow.Author.Tests.{tests}
use Rattle.plans.specs.Bytes.{plan_of}
use Rattle.plans.proofs.Following.{tells_steps_out}
use Rattle.plans.proofs.plan.FormedPlan.steps_out.Goals as goal

pub returns : goal.returns
returns g c =
    let a = g.A.Arena.game c.args.self.now.arena.now in
    tells_steps_out a (plan_of a.size c.args.self.now.bytes.now) c.args.v c.some_move.result c.some_move.ensures (λ x k. search (rules, tests)) (λ x k. search (rules, tests))
