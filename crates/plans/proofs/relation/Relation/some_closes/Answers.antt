use Rattle.std.proofs.Common.{rules}
use borrow.Author.Tests.{tests}
use Rattle.plans.specs.Relations.{ClosesFrom}
use Rattle.plans.proofs.Searches.{tells_some}
use Rattle.plans.proofs.relation.Relation.some_closes.Goals as goal

pub returns : goal.returns
returns c = tells_some 16 (ClosesFrom c.args.self.now c.args.peaks.now c.args.v) _ _ _ c.any.ensures.ran (λ x b q k. (search (rules, tests), search (rules, tests)))
