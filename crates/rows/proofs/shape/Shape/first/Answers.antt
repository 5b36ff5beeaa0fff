use Rattle.std.proofs.Common.{rules, tests, ◌+◌, ◌-◌, ◌<◌, ◌≤◌}
use Rattle.std.proofs.lemmas.Iterator.{first_from_Range}
use Rattle.rows.specs.Choose.{choose}
use Rattle.rows.proofs.Filling.{down_inside, first_reached, first_passed}
use Rattle.rows.proofs.shape.Shape.first.Goals as goal

pub overflow_sub-result : goal.overflow_sub-result
overflow_sub-result c =
    let r = c.args.self.registers in
    let top = c.args.self.top in
    rw c.unwrap_or-passed_over.ensures (down_inside r c.args.k top c.find.result
    (first_from_Range _ _ _ _ (λ d. choose (top - d + r - 1) r ≤ c.args.k) (λ d. c.args.k < choose (top - d + r - 1) r) c.find.ensures.ran (λ x q k. search (rules, tests)) (λ x q k. search (rules, tests))))

pub returns-clause-reached : goal.returns-clause-reached
returns-clause-reached c =
    let r = c.args.self.registers in
    let top = c.args.self.top in
    rw c.unwrap_or-passed_over.ensures (first_reached r c.args.k top c.find.result c.args.self.some
    (first_from_Range _ _ _ _ (λ d. choose (top - d + r - 1) r ≤ c.args.k) (λ d. c.args.k < choose (top - d + r - 1) r) c.find.ensures.ran (λ x q k. search (rules, tests)) (λ x q k. search (rules, tests))))

pub returns-clause-passed : goal.returns-clause-passed
returns-clause-passed c =
    let r = c.args.self.registers in
    let top = c.args.self.top in
    rw c.unwrap_or-passed_over.ensures (first_passed r c.args.k top c.find.result c.requires
    (first_from_Range _ _ _ _ (λ d. choose (top - d + r - 1) r ≤ c.args.k) (λ d. c.args.k < choose (top - d + r - 1) r) c.find.ensures.ran (λ x q k. search (rules, tests)) (λ x q k. search (rules, tests))))
