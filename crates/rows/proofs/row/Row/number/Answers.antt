use Rattle.std.proofs.Common.{rules, tests, ◌+◌, ◌-◌, length, take, get_or, sym, refl, ◌∙◌, arith}
use Rattle.std.proofs.lemmas.Iterator.{YieldsList-from_range, YieldsList-from_map}
use Rattle.std.proofs.lemmas.Iterator.Adapters.{fits_from_length, at_most_from_yields_List, total_from_yields_List}
use Rattle.std.proofs.lemmas.List.FromFn.{length-range_with_len}
use Rattle.rows.specs.Choose.{choose}
use Rattle.rows.proofs.Numbering.{rows_numbered_lem}
use Rattle.rows.proofs.Held.{row_told, formula_held}
use Rattle.rows.proofs.row.Row.number.Goals as goal

pub sum-requires-clause-fits : goal.sum-requires-clause-fits
sum-requires-clause-fits c =
    let n = c.args.self.registers in
    fits_from_length _ _ 5 _ (at_most_from_yields_List (YieldsList-from_range 0 n n c.map.ensures.source (omega arith)) (omega (arith, length-range_with_len 0 n))) c.map.ensures.closure (omega arith) (λ x r q k. search (rules, tests))

pub returns-clause-row : goal.returns-clause-row
returns-clause-row c = row_told 10 (take c.args.self.registers c.args.self.contents) c.args.self.ordered

pub returns-clause-value : goal.returns-clause-value
returns-clause-value c = λ top row.
    let n = c.args.self.registers in
    let xs = c.args.self.contents in
    total_from_yields_List (λ a x. a + x) 0 c.sum.result c.sum.ensures.ran
    (YieldsList-from_map _ (λ i. choose (get_or xs i 0 + (n - i) - 1) (n - i)) (YieldsList-from_range 0 n n c.map.ensures.source (omega arith)) c.map.ensures.closure (λ x r q k. search rules)) ∙
    formula_held n xs (omega arith) ∙
    sym (rows_numbered_lem.2 (length (take n xs)) top (take n xs) row refl)
