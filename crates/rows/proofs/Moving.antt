-- What updates and resets keep, and what each register holds after them.
use Rattle.std.proofs.Common.{◌≡◌, ℕ, zero, suc, ◌+◌, ◌-◌, ◌<◌, ◌≤◌, max, cond, eqb, leb, List, [], ◌∷◌, ◌++◌, length, get_or, sym, ap, ◌∙◌, inl, inr, arith}
use Rattle.std.specs.List.{remove}
use Rattle.std.proofs.lemmas.List.{length-map, length_push, get_or-map, get_or_push, get_or_append_left}
use Rattle.std.proofs.lemmas.List.Edits.{length-remove, get_or-remove_below, get_or-remove_above}
use Rattle.std.proofs.lemmas.Bool.{cases_lt, cases_eq, cond-true, cond-false, le-leb, lt-leb, eq-eqb, ne_eqb}
use Rattle.rows.specs.Rows.{IsRow}
use Rattle.rows.specs.Registers.{content, updated, reset}
use Rattle.rows.specs.Theorems.{RowsKept, ContentsMoved}
use Rattle.rows.proofs.Numbering.{row_under}

pub updated_row : (t p : ℕ) (xs : List ℕ) → IsRow t xs → p ≤ t → IsRow t (updated p xs)
updated_row t p [] row h = tt
updated_row t p (x ∷ xs) row h =
    let l = row.0 in
    (omega arith, updated_row (max x p) p xs (row_under x (max x p) xs (omega arith) row.1) (omega arith))

pub length_updated : (p : ℕ) (xs : List ℕ) → length (updated p xs) ≡ length xs
length_updated p xs = length-map xs (λ c. max c p)

pub push_zero_row : (t : ℕ) (xs : List ℕ) → IsRow t xs → IsRow t (xs ++ 0 ∷ [])
push_zero_row t [] row = (omega arith, tt)
push_zero_row t (x ∷ xs) row = (row.0, push_zero_row x xs row.1)

removed_row : (t : ℕ) (xs : List ℕ) (i : ℕ) → IsRow t xs → i < length xs → IsRow t (remove xs i ++ 0 ∷ [])
removed_row t [] i row h = absurd (omega arith)
removed_row t (x ∷ xs) zero row h = push_zero_row t xs (row_under x t xs row.0 row.1)
removed_row t (x ∷ xs) (suc i) row h = (row.0, removed_row x xs i row.1 (omega arith))

pub reset_row : (t j : ℕ) (xs : List ℕ) → IsRow t xs → 1 ≤ j → j ≤ length xs → IsRow t (reset j xs)
reset_row t j xs row h k = removed_row t xs (length xs - j) row (omega arith)

pub length_reset : (j : ℕ) (xs : List ℕ) → 1 ≤ j → j ≤ length xs → length (reset j xs) ≡ length xs
length_reset j xs h k =
    let a = length_push (remove xs (length xs - j)) 0 in
    let b = length-remove xs (length xs - j) (omega arith) in
    omega arith

pub rows_kept_lem : RowsKept
rows_kept_lem = (
  λ t p xs row h. (updated_row t p xs row h, length_updated p xs),
  λ t j xs row h k. (reset_row t j xs row h k, length_reset j xs h k),
)

pub content_updated : (p i : ℕ) (xs : List ℕ) → 1 ≤ i → i ≤ length xs → content i (updated p xs) ≡ max (content i xs) p
content_updated p i xs h k =
    rw (length_updated p xs) (get_or-map (λ c. max c p) xs (length xs - i) 0 0 (omega arith))

module _ (j : ℕ) (xs : List ℕ) (some : 1 ≤ j) (there : j ≤ length xs) where
  shorter : length (remove xs (length xs - j)) + 1 ≡ length xs
  shorter = length-remove xs (length xs - j) (omega arith)

  pub reset_at_end : (k : ℕ) → k + 1 ≡ length xs → get_or (reset j xs) k 0 ≡ 0
  reset_at_end k e = let s = shorter in get_or_push (remove xs (length xs - j)) 0 0 k (omega arith)

  pub reset_moved_up : (k : ℕ) → length xs - j ≤ k → k + 1 < length xs → get_or (reset j xs) k 0 ≡ get_or xs (k + 1) 0
  reset_moved_up k h l =
      let s = shorter in
      get_or_append_left (remove xs (length xs - j)) (0 ∷ []) 0 k (omega arith) ∙
      get_or-remove_above xs (length xs - j) 0 k h (omega arith)

  pub reset_left_alone : (k : ℕ) → k < length xs - j → get_or (reset j xs) k 0 ≡ get_or xs k 0
  reset_left_alone k h =
      let s = shorter in
      get_or_append_left (remove xs (length xs - j)) (0 ∷ []) 0 k (omega arith) ∙
      get_or-remove_below xs (length xs - j) 0 k h (omega arith)

  -- what register i holds after the reset
  pub content_reset : (i : ℕ) → 1 ≤ i → i ≤ length xs → content i (reset j xs) ≡ cond (leb i j) (cond (eqb i 1) 0 (content (i - 1) xs)) (content i xs)
  content_reset i h l = rw (length_reset j xs some there) (elim (cases_lt j i) [
    | inl above ↦
        reset_left_alone (length xs - i) (omega arith) ∙ sym (cond-false (leb i j) _ (content i xs) (lt-leb i j above))
    | inr below ↦ elim (cases_eq i 1) [
      | inl one ↦
          reset_at_end (length xs - i) (omega arith) ∙
          sym (cond-true (leb i j) _ (content i xs) (le-leb i j below) ∙ cond-true (eqb i 1) 0 _ (eq-eqb i 1 one))
      | inr more ↦
          reset_moved_up (length xs - i) (omega arith) (omega arith) ∙
          ap (λ m. get_or xs m 0) (omega arith) ∙
          sym (cond-true (leb i j) _ (content i xs) (le-leb i j below) ∙ cond-false (eqb i 1) 0 _ (ne_eqb i 1 more))
    ]
  ])

pub contents_moved_lem : ContentsMoved
contents_moved_lem p i xs h l = (
  content_updated p i xs h l ∙ sym (cond-false (leb i 0) _ (max (content i xs) p) (lt-leb i 0 h)),
  λ j some there.
      let n = length_updated p xs in
      content_reset j (updated p xs) some (omega arith) i h (omega arith) ∙
      elim (cases_lt j i) [
        | inl above ↦
            cond-false (leb i j) _ (content i (updated p xs)) (lt-leb i j above) ∙
            content_updated p i xs h l ∙
            sym (cond-false (leb i j) _ (max (content i xs) p) (lt-leb i j above))
        | inr below ↦ cond-true (leb i j) _ _ (le-leb i j below) ∙ elim (cases_eq i 1) [
          | inl one ↦ cond-true (eqb i 1) 0 _ (eq-eqb i 1 one) ∙ sym (cond-true (eqb i 1) 0 _ (eq-eqb i 1 one))
          | inr more ↦
              cond-false (eqb i 1) 0 _ (ne_eqb i 1 more) ∙
              content_updated p (i - 1) xs (omega arith) (omega arith) ∙
              sym (cond-false (eqb i 1) 0 _ (ne_eqb i 1 more))
        ] ∙ sym (cond-true (leb i j) _ _ (le-leb i j below))
      ],
)
