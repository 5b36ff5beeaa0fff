use Rattle.toolkit.specs.Reachability.{via}
use Rattle.plans.specs.Relations.{related, GivenBy}
use Rattle.plans.proofs.relation.Relation.closed.Given as goal

abbrev pub invariant-loop-k : goal.invariant-loop-k
invariant-loop-k l = GivenBy l.reached (via l.k (related l.self))
