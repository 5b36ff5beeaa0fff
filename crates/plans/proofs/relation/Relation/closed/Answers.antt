use Rattle.std.proofs.Common.{◌≡◌, ap, ◌∙◌, add-one, arith}
use Rattle.std.proofs.lemmas.Bool.{lt-ltb}
use Rattle.toolkit.specs.Reachability.{via, reach}
use Rattle.plans.specs.Relations.{related}
use Rattle.plans.proofs.relation.Relation.closed.Goals as goal

pub loop-k-init : goal.loop-k-init
unfolding via
loop-k-init c = c.with_itself-reached.ensures

pub loop-k-preserved : goal.loop-k-preserved
unfolding via
loop-k-preserved c = λ u v hu hv.
    let k = c.loop-k.k in
    let round = c.through-reached.ensures u v hu hv in
    rw (add-one, ← c.loop-k.invariant u v hu hv, ← c.loop-k.invariant u k hu c.loop-k-test.true, ← c.loop-k.invariant k v c.loop-k-test.true hv) round

pub returns : goal.returns
unfolding reach
returns c = λ u v hu hv.
    let all : c.loop-k.k ≡ 16 = omega arith in
    let is = c.loop-k.invariant u v hu hv ∙ ap (λ k. via k (related c.args.self.now) u v) all in
    rw (lt-ltb u 16 hu, lt-ltb v 16 hv) is
