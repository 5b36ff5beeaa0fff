use Rattle.std.proofs.Common.{◌+◌, rules, None, Some, arith}
use Rattle.std.proofs.lemmas.Iterator.{first_from_Range}
use Rattle.sheet.specs.Layout.{RecordFits}
use Rattle.sheet.proofs.layout.RecordedSheet.read.Goals as goal

pub invariant_of-result : goal.invariant_of-result
invariant_of-result c =
    let fits = RecordFits c.args.placed.sheet.bytes.now in
    let each = first_from_Range (record { start = 1; end = c.records.result + 1 }) c.find.new.self _ None (λ k. fits k → ⊥) fits c.in-None.ensures.ran (λ x q k. search rules) (λ x q k. search rules) in
    record { recorded = record { placed = c.args.placed.placed; each_record = λ k low high. each k low (omega arith) } }

pub returns-in-Some : goal.returns-in-Some
returns-in-Some c =
    let fits = RecordFits c.args.placed.sheet.bytes.now in
    let found = first_from_Range (record { start = 1; end = c.records.result + 1 }) c.find.new.self _ (Some c.in-Some.k) (λ k. fits k → ⊥) fits c.in-Some.ensures.ran (λ x q k. search rules) (λ x q k. search rules) in
    (c.args.placed.placed, record { from_start = found.0; before_end = rw (← c.records.ensures) found.1; lacks = found.2; below_have = found.3 })
