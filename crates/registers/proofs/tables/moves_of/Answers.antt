use Rattle.std.proofs.Common.{◌≡◌, ◌≤◌, None, length, rules, inl, inr, ◌∙◌, sym, arith}
use Rattle.std.proofs.lemmas.Bool.{cases_lt}
use Rattle.std.proofs.lemmas.List.{get_or_past}
use Rattle.rows.specs.Registers.{updated}
use Rattle.rows.specs.Rows.{rows, place}
use Rattle.rows.proofs.Numbering.{rows_counted_lem}
use Rattle.rows.specs.Views.{contents_of}
use Rattle.registers.specs.Tables.{step_in}
use Rattle.registers.proofs.FromFn.{each_from_fn}
use Rattle.registers.proofs.Rows.{fits, long, updated_is, step_is, step_missing}
use Rattle.registers.proofs.tables.moves_of.Goals as goal

pub row-row-requires : goal.row-row-requires
row-row-requires c =
    let n = rows_counted_lem c.args.shape.registers c.args.shape.top in
    let h = c.requires.there in
    omega arith

pub returns : goal.returns
returns c =
    let s = c.args.shape in
    let row = contents_of c.row-row.result in
    let is = fits s c.requires.there row c.row-row.ensures in
    let counted = long s c.requires.there row c.row-row.ensures in
    record {
      ten = c.from_fn.ensures.items.long;
      updates = λ p h.
          each_from_fn _ _ (λ i y. i ≤ s.top → y ≡ place (updated i row) (rows (length row) s.top)) (λ i y q called. search (rules, is)) c.from_fn.result 10 p 0 c.from_fn.ensures.items (omega arith) h ∙
          updated_is s c.requires.there row c.row-row.ensures p;
      steps = λ j. elim (cases_lt j 6) [
        | inl low ↦ each_from_fn _ _ (λ i y. y ≡ step_in (rows (length row) s.top) row i) (λ i y q called. search (rules, is)) c.from_fn-2.result 6 j None c.from_fn-2.ensures.items low
        | inr past ↦
            let six = c.from_fn-2.ensures.items.long in
            get_or_past c.from_fn-2.result j None (omega arith) ∙ sym (step_missing (rows (length row) s.top) row j (omega arith))
      ] ∙ step_is s c.requires.there row c.row-row.ensures j;
    }
