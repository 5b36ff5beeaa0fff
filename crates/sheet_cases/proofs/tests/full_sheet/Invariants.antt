use Rattle.std.proofs.Common.{◌≡◌, length}
use Rattle.sheet_cases.proofs.tests.full_sheet.Given as goal

abbrev pub invariant-loop-v : goal.invariant-loop-v
invariant-loop-v g l = length l.sheet ≡ 244

abbrev pub invariant-loop-k : goal.invariant-loop-k
invariant-loop-k g l = length l.sheet ≡ 244
