use Rattle.std.proofs.Common.{rules, None, Some, arith}
use Rattle.std.proofs.lemmas.Iterator.{first_from_Range}
use Rattle.sheet.specs.Layout.{PositionFits}
use Rattle.sheet.proofs.layout.PlacedSheet.read.Goals as goal

pub invariant_of-result : goal.invariant_of-result
invariant_of-result c =
    let fits = PositionFits c.args.sheet.bytes.now in
    let each = first_from_Range (record { start = 0; end = c.positions.result }) c.find.new.self _ None (λ v. fits v → ⊥) fits c.in-None.ensures.ran (λ x q k. search rules) (λ x q k. search rules) in
    record { placed = record { headed = c.args.sheet.headed; each_position = λ v h. each v (omega arith) (omega arith) } }

pub returns-in-Some : goal.returns-in-Some
returns-in-Some c =
    let fits = PositionFits c.args.sheet.bytes.now in
    let found = first_from_Range (record { start = 0; end = c.positions.result }) c.find.new.self _ (Some c.in-Some.v) (λ v. fits v → ⊥) fits c.in-Some.ensures.ran (λ x q k. search rules) (λ x q k. search rules) in
    (c.args.sheet.headed, record { from_start = found.0; before_end = rw (← c.positions.ensures) found.1; lacks = found.2; below_have = found.3 })
