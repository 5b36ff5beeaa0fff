use Rattle.std.proofs.Common.{◌≡◌, ℕ, Option, Some, None, sym, ◌∙◌, subst, rules}
use borrow.Author.Tests.{tests}
use Rattle.std.proofs.lemmas.Iterator.{YieldsList-from_map}
use Rattle.std.proofs.lemmas.Iterator.Consumers.{YieldsList-at, fold_from_yields_List}
use Rattle.plans.specs.Bytes.{plan_of}
use Rattle.plans.specs.Findings.{LosingWalkAt, lower_of}
use Rattle.plans.specs.Marks.{Found, OnLosingWalk}
use Rattle.plans.proofs.Lows.{one_found, losing, losing_found, losing_in_turn}
use Rattle.plans.proofs.Searches.{YieldsList-from_range_inclusive}
use Rattle.plans.proofs.Winning.{losing_at}
use Rattle.plans.proofs.plan.FormedPlan.lowest_losing.Goals as goal

pub returns : goal.returns
returns g c =
    let a = g.A.Arena.game c.args.self.now.arena.now in
    let s = plan_of a.size c.args.self.now.bytes.now in
    let laws = g.A.Arena.lawful c.args.self.now.arena.now in
    let h : ℕ → Option ℕ = λ q. (losing_at a s laws q).0 in
    let exact : (q : ℕ) → Found (LosingWalkAt a s q) (h q) = λ q. (losing_at a s laws q).1 in
    let folded = fold_from_yields_List _ lower_of None c.fold.result c.fold.ensures.ran (YieldsList-from_map _ h (YieldsList-at c.map.ensures.source (YieldsList-from_range_inclusive a.top c.new.ensures.start (c.new.ensures.end ∙ c.top.ensures) c.new.ensures.exhausted)) c.map.ensures.closure (λ x r q k. (search (rules, tests), one_found (LosingWalkAt a s x) r (h x) (search (rules, tests)) (exact x)))) (λ x y b q k. search rules) in
    subst (Found (OnLosingWalk a s)) (sym (folded ∙ losing_in_turn h a.top)) (losing_found a s laws h exact)
