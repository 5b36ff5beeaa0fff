-- What the row with a given number is, and the numbers of the rows that moves lead to.
use Rattle.std.proofs.Common.{◌≡◌, ◌≢◌, ℕ, zero, suc, ◌^◌, ◌<◌, ◌≤◌, true, leb, List, length, Some, None, sym, ap, ◌∙◌, rules, arith}
use Rattle.std.specs.List.{slice_get}
use Rattle.std.proofs.lemmas.Bool.{and_parts, and_right, leb-true, lt-leb, cond-true, cond-false}
use Rattle.std.proofs.lemmas.Option.{same_Some, slice_get_within}
use Rattle.rows.specs.Rows.{IsRow, rows, place}
use Rattle.rows.specs.Registers.{updated, reset, reset_priority}
use Rattle.rows.specs.Views.{has_register}
use Rattle.rows.proofs.Numbering.{rows_counted_lem, rows_numbered_lem}
use Rattle.rows.proofs.Moving.{rows_kept_lem}
use Rattle.rows.specs.declared.shape.Shape.{Shape}
use Rattle.registers.specs.Arcs.{few_choices, row_there, row_numbered}
use Rattle.registers.specs.Tables.{row_at, updated_at, step_in, step_at}

-- a row's number is small, whatever the top
pub number_small : (xs : List ℕ) → length xs ≤ 5 → IsRow 10 xs → place xs (rows (length xs) 10) < 2 ^ 16
number_small xs few is =
    let r : ℕ = length xs in
    let there = slice_get_within (rows r 10) (place xs (rows r 10)) xs (rows_numbered_lem.1 r 10 xs is (search rules)) in
    let counted = rows_counted_lem r 10 in
    let ways = few_choices r few in
    omega arith

-- the number of a row updated, and a step that resets a register
pub number_updated : (row next : List ℕ) (p top n : ℕ) → next ≡ updated p row → IsRow top row → p ≤ top →
    ((t : ℕ) → IsRow t next → n ≡ place next (rows (length next) t)) → n ≡ place (updated p row) (rows (length row) top)
number_updated row next p top n e is low told =
    let (kept, long) = rows_kept_lem.0 top p row is low in
    told top (rw e kept) ∙
    ap (λ ys. place ys (rows (length ys) top)) e ∙
    ap (λ m. place (updated p row) (rows m top)) long

pub step_made : (row next : List ℕ) (j top n q : ℕ) → j ≢ 0 → has_register j row ≡ true → next ≡ reset j row → q ≡ reset_priority j row → IsRow top row →
    ((t : ℕ) → IsRow t next → n ≡ place next (rows (length next) t)) →
    Some (record { row = n; priority = q }) ≡ step_in (rows (length row) top) row j
step_made row next zero top n q some has same priority is told = absurd (some (search rules))
step_made row next (suc j) top n q some has same priority is told =
    let (first, last) = and_parts (leb 1 (suc j)) (leb (suc j) (length row)) has in
    let (kept, long) = rows_kept_lem.1 top (suc j) row is (leb-true 1 (suc j) first) (leb-true (suc j) (length row) last) in
    let number : n ≡ place (reset (suc j) row) (rows (length row) top) =
    told top (rw same kept) ∙ ap (λ ys. place ys (rows (length ys) top)) same ∙ ap (λ m. place (reset (suc j) row) (rows m top)) long in
    ap (λ m. Some (record { row = m; priority = q })) number ∙
    ap (λ m. Some (record { row = place (reset (suc j) row) (rows (length row) top); priority = m })) priority ∙
    sym (cond-true (has_register (suc j) row) _ None has)

-- a row of no more than five registers has no step above
pub step_missing : (listed : List (List ℕ)) (row : List ℕ) (j : ℕ) → length row < j → step_in listed row j ≡ None
step_missing listed row zero h = absurd (omega arith)
step_missing listed row (suc j) h =
    cond-false (has_register (suc j) row) _ None (and_right (leb 1 (suc j)) (leb (suc j) (length row)) (lt-leb (suc j) (length row) h))

-- a row of a shape, by its number
module _ (s : Shape) {k : ℕ} (there : k < length (rows s.registers s.top)) (row : List ℕ) (found : slice_get (rows s.registers s.top) k ≡ Some row) where
  is_that : row ≡ row_at s.registers s.top k
  is_that = same_Some row (row_at s.registers s.top k) (sym found ∙ row_there s.registers s.top k there)

  pub fits : IsRow s.top row
  fits = rw is_that (row_numbered s.registers s.top k there).0

  pub long : length row ≡ s.registers
  long = ap length is_that ∙ (row_numbered s.registers s.top k there).1

  pub updated_is : (p : ℕ) → place (updated p row) (rows (length row) s.top) ≡ updated_at s.registers s.top k p
  updated_is p =
      ap (λ n. place (updated p row) (rows n s.top)) long ∙
      ap (λ ys. place (updated p ys) (rows s.registers s.top)) is_that

  pub step_is : (j : ℕ) → step_in (rows (length row) s.top) row j ≡ step_at s.registers s.top k j
  step_is j =
      ap (λ n. step_in (rows n s.top) row j) long ∙
      ap (λ ys. step_in (rows s.registers s.top) ys j) is_that
