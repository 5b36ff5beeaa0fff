use Rattle.std.proofs.Common.{rules}
use borrow.Author.Tests.{tests}
use Rattle.plans.specs.Relations.{SomeCloses}
use Rattle.plans.proofs.Searches.{found_first}
use Rattle.plans.proofs.relation.Relation.first_closed.Goals as goal

pub returns : goal.returns
returns c = found_first c.args.n (SomeCloses c.args.self.now c.args.peaks.now) _ _ c.find.result c.find.ensures.ran (λ x b q k. (search (rules, tests), search (rules, tests)))
