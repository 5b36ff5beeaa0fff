-- The list of rows: what it has, that it ascends, how long it is, and where each row stands in it.
use Rattle.std.proofs.Common.{◌≡◌, ℕ, zero, suc, ◌+◌, ◌<◌, ◌≤◌, List, [], ◌∷◌, map, length, Some, sym, refl, ap, ◌∙◌, inl, inr, arith}
use mathlib.Core.HLevel.{×_prop}
use native.Mathlib.Bridge.{le_prop}
use Rattle.std.specs.List.{slice_get}
use Rattle.std.proofs.lemmas.List.{length-append, length-map}
use Rattle.std.proofs.lemmas.Bool.{cases_lt, cases_order}
use Rattle.std.proofs.lemmas.Option.{same_Some, slice_get_within}
use Rattle.game.specs.Dictionary.{Before}
use Rattle.rows.specs.Choose.{choose}
use Rattle.rows.specs.Rows.{IsRow, rows, place, formula}
use Rattle.rows.specs.Theorems.{RowsListed, RowsAscend, RowsCounted, RowsNumbered}
use Rattle.rows.proofs.Binomials.{choose_over, choose_all, choose_both}
use Rattle.rows.proofs.Members.{nth_left, nth_right, nth_joined, nth_map, nth_mapped, place_finds, before_not_itself, before_not_both}

pub row_is_prop : (t : ℕ) (xs : List ℕ) → IsProp (IsRow t xs)
row_is_prop t [] = λ a b. refl
row_is_prop t (x ∷ xs) = ×_prop le_prop (row_is_prop x xs)

pub row_under : (t u : ℕ) (xs : List ℕ) → t ≤ u → IsRow t xs → IsRow u xs
row_under t u [] h row = tt
row_under t u (x ∷ xs) h row = let l = row.0 in (omega arith, row.1)

pub rows_counted_lem : RowsCounted
rows_counted_lem zero t = refl
rows_counted_lem (suc r) zero =
    let e = length-map (rows r zero) (λ xs. zero ∷ xs) in
    let h = rows_counted_lem r zero in
    let a : choose (0 + r) r ≡ 1 = choose_both (0 + r) r r r (omega arith) refl ∙ choose_all r in
    let b : choose (0 + suc r) (suc r) ≡ 1 = choose_both (0 + suc r) (suc r) (suc r) (suc r) (omega arith) refl ∙ choose_all (suc r) in
    omega arith
rows_counted_lem (suc r) (suc t) =
    let e = length-append (rows (suc r) t) (map (λ xs. suc t ∷ xs) (rows r (suc t))) in
    let m = length-map (rows r (suc t)) (λ xs. suc t ∷ xs) in
    let l = rows_counted_lem (suc r) t in
    let h = rows_counted_lem r (suc t) in
    let a : choose (suc t + r) r ≡ choose (t + suc r) r = choose_both (suc t + r) (t + suc r) r r (omega arith) refl in
    let b : choose (suc t + suc r) (suc r) ≡ choose (suc (t + suc r)) (suc r) = choose_both (suc t + suc r) (suc (t + suc r)) (suc r) (suc r) (omega arith) refl in
    omega arith

-- what stands in the list is a row
pub listed_row : (r t k : ℕ) (xs : List ℕ) → slice_get (rows r t) k ≡ Some xs → IsRow t xs × (length xs ≡ r)
listed_row zero t zero xs e = rw (← same_Some [] xs e) (tt, refl)
listed_row zero t (suc k) xs e = absurd cc
listed_row (suc r) zero k xs e =
    let m = nth_mapped (λ xs. zero ∷ xs) (rows r zero) k xs e in
    let h = listed_row r zero k m.0 m.1 in
    rw m.2 ((omega arith, h.0), ap suc h.1)
listed_row (suc r) (suc t) k xs e = elim (nth_joined (rows (suc r) t) (map (λ xs. suc t ∷ xs) (rows r (suc t))) k xs e) [
  | inl l ↦ let h = listed_row (suc r) t k xs l in (row_under t (suc t) xs (omega arith) h.0, h.1)
  | inr j ↦
      let m = nth_mapped (λ xs. suc t ∷ xs) (rows r (suc t)) j.0 xs j.2 in
      let h = listed_row r (suc t) j.0 m.0 m.1 in
      rw m.2 ((omega arith, h.0), ap suc h.1)
]

row_before : (t : ℕ) (xs ys : List ℕ) → IsRow t xs → Before xs (suc t ∷ ys)
row_before t [] ys row = tt
row_before t (x ∷ xs) ys row = let l = row.0 in inl (omega arith)

pub rows_ascending : (r t i j : ℕ) (xs ys : List ℕ) → slice_get (rows r t) i ≡ Some xs → slice_get (rows r t) j ≡ Some ys → i < j → Before xs ys
rows_ascending zero t i zero xs ys e f h = absurd (omega arith)
rows_ascending zero t i (suc j) xs ys e f h = absurd cc
rows_ascending (suc r) zero i j xs ys e f h =
    let m = nth_mapped (λ xs. zero ∷ xs) (rows r zero) i xs e in
    let n = nth_mapped (λ xs. zero ∷ xs) (rows r zero) j ys f in
    rw (m.2, n.2) (inr (refl, rows_ascending r zero i j m.0 n.0 m.1 n.1 h))
rows_ascending (suc r) (suc t) i j xs ys e f h =
    elim (nth_joined (rows (suc r) t) (map (λ xs. suc t ∷ xs) (rows r (suc t))) i xs e) [
      | inl a ↦ elim (nth_joined (rows (suc r) t) (map (λ xs. suc t ∷ xs) (rows r (suc t))) j ys f) [
        | inl b ↦ rows_ascending (suc r) t i j xs ys a b h
        | inr b ↦
            let n = nth_mapped (λ xs. suc t ∷ xs) (rows r (suc t)) b.0 ys b.2 in
            rw n.2 (row_before t xs n.0 (listed_row (suc r) t i xs a).0)
      ]
      | inr a ↦ elim (nth_joined (rows (suc r) t) (map (λ xs. suc t ∷ xs) (rows r (suc t))) j ys f) [
        | inl b ↦ let l = slice_get_within (rows (suc r) t) j ys b in let g = a.1 in absurd (omega arith)
        | inr b ↦
            let m = nth_mapped (λ xs. suc t ∷ xs) (rows r (suc t)) a.0 xs a.2 in
            let n = nth_mapped (λ xs. suc t ∷ xs) (rows r (suc t)) b.0 ys b.2 in
            let g = a.1 in
            let k = b.1 in
            rw (m.2, n.2) (inr (refl, rows_ascending r (suc t) a.0 b.0 m.0 n.0 m.1 n.1 (omega arith)))
      ]
    ]

pub one_number : (r t i j : ℕ) (xs : List ℕ) → slice_get (rows r t) i ≡ Some xs → slice_get (rows r t) j ≡ Some xs → i ≡ j
one_number r t i j xs e f = elim (cases_order i j) [
  | inl h ↦ h
  | inr (inl h) ↦ absurd (before_not_itself xs (rows_ascending r t i j xs xs e f h))
  | inr (inr h) ↦ absurd (before_not_itself xs (rows_ascending r t j i xs xs f e h))
]

-- the rows that begin with c stand behind those that begin with less
after_smaller : (n c k : ℕ) (zs : List ℕ) → slice_get (rows n c) k ≡ Some zs → slice_get (rows (suc n) c) (choose (c + n) (suc n) + k) ≡ Some (c ∷ zs)
after_smaller n zero k zs e =
    let z : choose (0 + n) (suc n) ≡ 0 = choose_over (0 + n) (suc n) (omega arith) in
    let i : choose (0 + n) (suc n) + k ≡ k = omega arith in
    rw i (nth_map (λ xs. zero ∷ xs) (rows n zero) k zs e)
after_smaller n (suc c) k zs e =
    let l = rows_counted_lem (suc n) c in
    let a : choose (suc c + n) (suc n) ≡ choose (c + suc n) (suc n) = choose_both (suc c + n) (c + suc n) (suc n) (suc n) (omega arith) refl in
    nth_right (rows (suc n) c) (map (λ xs. suc c ∷ xs) (rows n (suc c))) k (choose (suc c + n) (suc n) + k) (omega arith) ∙
    nth_map (λ xs. suc c ∷ xs) (rows n (suc c)) k zs e

-- a larger top adds rows at the end only
under_larger_top : (n c t k : ℕ) (zs : List ℕ) → c ≤ t → slice_get (rows (suc n) c) k ≡ Some zs → slice_get (rows (suc n) t) k ≡ Some zs
under_larger_top n c zero k zs h e = let z : c ≡ 0 = omega arith in rw z at e
under_larger_top n c (suc t) k zs h e = elim (cases_lt t c) [
  | inl l ↦ let z : c ≡ suc t = omega arith in rw z at e
  | inr l ↦ nth_left (rows (suc n) t) (map (λ xs. suc t ∷ xs) (rows n (suc t))) k zs (under_larger_top n c t k zs l e)
]

-- a row stands in the list where the formula says
pub formula_finds : (t : ℕ) (xs : List ℕ) → IsRow t xs → slice_get (rows (length xs) t) (formula xs) ≡ Some xs
formula_finds t [] row = refl
formula_finds t (c ∷ cs) row =
    under_larger_top (length cs) c t (choose (c + length cs) (suc (length cs)) + formula cs) (c ∷ cs) row.0
    (after_smaller (length cs) c (formula cs) cs (formula_finds c cs row.1))

pub row_listed : (r t : ℕ) (xs : List ℕ) → IsRow t xs → length xs ≡ r → slice_get (rows r t) (formula xs) ≡ Some xs
row_listed r t xs row e = rw (← e) (formula_finds t xs row)

pub rows_listed_lem : RowsListed
rows_listed_lem r t xs = (λ m. listed_row r t m.0 xs m.1, λ h. (formula xs, row_listed r t xs h.0 h.1))

pub rows_ascend_lem : RowsAscend
rows_ascend_lem r t i j xs ys e f = (
  λ b. elim (cases_order i j) [
    | inl h ↦ absurd (before_not_itself ys (rw (same_Some xs ys (sym e ∙ ap (λ n. slice_get (rows r t) n) h ∙ f)) at b))
    | inr (inl h) ↦ h
    | inr (inr h) ↦ absurd (before_not_both xs ys b (rows_ascending r t j i ys xs f e h))
  ],
  rows_ascending r t i j xs ys e f,
)

pub place_is : (r t k : ℕ) (xs : List ℕ) → slice_get (rows r t) k ≡ Some xs → place xs (rows r t) ≡ k
place_is r t k xs e = one_number r t (place xs (rows r t)) k xs (place_finds (rows r t) xs k e).1 e

pub rows_numbered_lem : RowsNumbered
rows_numbered_lem = (
  place_is,
  λ r t xs row e. (place_finds (rows r t) xs (formula xs) (row_listed r t xs row e)).1,
  λ r t xs row e. place_is r t (formula xs) xs (row_listed r t xs row e),
)
