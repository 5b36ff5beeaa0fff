use Rattle.std.proofs.Common.{rules, refl}
use borrow.Author.Tests.{tests}
use Rattle.std.proofs.lemmas.Option.{MatchOption-at_some, MatchOption-at_none}
use Rattle.plans.specs.Bytes.{Headed, ChoiceFits, WellFormed}
use Rattle.plans.proofs.Searches.{lowest_without}
use Rattle.plans.proofs.plan.FormedPlan.read.Goals as goal

pub returns-in-Some : goal.returns-in-Some
returns-in-Some g c =
    let a = g.A.Arena.game c.args.arena.now in
    let h = lowest_without c.size-size.result (ChoiceFits a c.args.bytes.now) _ _ c.find.result c.find.ensures.ran (λ x b q k. (search (rules, tests), search (rules, tests))) in
    (search rules, rw c.size-size.ensures at (MatchOption-at_some _ _ c.in-Some.v c.in-Some.is h))

pub invariant_of-result : goal.invariant_of-result
invariant_of-result g c =
    let a = g.A.Arena.game c.args.arena.now in
    let h = lowest_without c.size-size.result (ChoiceFits a c.args.bytes.now) _ _ c.find.result c.find.ensures.ran (λ x b q k. (search (rules, tests), search (rules, tests))) in
    let each = rw c.size-size.ensures at (MatchOption-at_none _ _ c.in-None.is h) in
    let headed : Headed a.size c.args.bytes.now = search rules in
    let formed : WellFormed a c.args.bytes.now = record { headed = headed; each_choice = each } in
    record { whole = search rules; owner = search rules; formed = ∣ formed ∣₁ }

pub returns-in-None : goal.returns-in-None
returns-in-None g c =
    let a = g.A.Arena.game c.args.arena.now in
    let h = lowest_without c.size-size.result (ChoiceFits a c.args.bytes.now) _ _ c.find.result c.find.ensures.ran (λ x b q k. (search (rules, tests), search (rules, tests))) in
    let each = rw c.size-size.ensures at (MatchOption-at_none _ _ c.in-None.is h) in
    let headed : Headed a.size c.args.bytes.now = search rules in
    (record { headed = headed; each_choice = each }, refl, refl)
