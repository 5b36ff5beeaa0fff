use Rattle.std.proofs.Common.{◌≤◌, Some, arith}
use Rattle.plans.proofs.Winning.{judges_from_cases, passes_exactly}
use Rattle.plans.proofs.judging.judge.Goals as goal

pub returns : goal.returns
returns g c =
    let a = g.A.Arena.game c.args.arena.now in
    let few : a.size ≤ 16 = omega arith in
    let answers = judges_from_cases a c.args.bytes.now c.judged.result few c.judged.ensures in
    record { answers = answers; passes = passes_exactly a c.args.bytes.now (Some c.judged.result) answers }
