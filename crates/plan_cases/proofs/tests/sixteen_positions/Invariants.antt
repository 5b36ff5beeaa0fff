use Rattle.std.proofs.Common.{◌≡◌, length}
use Rattle.plan_cases.proofs.tests.sixteen_positions.Given as goal

abbrev pub invariant-loop-v : goal.invariant-loop-v
invariant-loop-v g l = length l.sheet ≡ 100
