use Rattle.std.proofs.Common.{◌≡◌, true, rules}
use borrow.Author.Tests.{tests}
use Rattle.plans.specs.Relations.{closes}
use Rattle.plans.proofs.Searches.{tells_some, tells_true}
use Rattle.plans.proofs.relation.Relation.closes_from.Goals as goal

pub returns : goal.returns
returns c =
    let test = closes c.args.self.now c.args.peaks.now c.args.v c.args.u in
    tells_some 16 (λ w. test w ≡ true) _ _ _ c.any.ensures.ran (λ x b q k. (search (rules, tests), tells_true b (test x) (search (rules, tests))))
