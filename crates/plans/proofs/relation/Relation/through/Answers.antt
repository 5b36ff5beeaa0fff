use Rattle.std.proofs.Common.{rules}
use Rattle.plans.proofs.relation.Relation.through.Goals as goal

pub returns : goal.returns
returns c = λ u v hu hv. let h = c.of.ensures u v hu hv in search rules
