-- Rows as the code holds them: the first n entries of an array.
use Rattle.std.proofs.Common.{◌≡◌, ℕ, zero, suc, ◌+◌, ◌-◌, ◌<◌, ◌≤◌, max, cond, true, Some, None, leb, List, [], ◌∷◌, ◌++◌, map, length, get_or, take, drop, set, replicate, sym, refl, ap, add-zero, zero-add, subst, ◌∙◌, inl, inr, arith}
use mathlib.Core.Logic.{∥∥₁_elim}
use Rattle.std.proofs.lemmas.List.{length-take-le, length-set, length-drop, take-set, drop-set-lt, get_or-take, get_or-set_same, take_at, length-map, get_or-map, take-map, length-append}
use denote.Param.Members.{Mut, Called}
use Rattle.std.specs.Array.{MapsFrom, IsMapOf}
use Rattle.std.proofs.lemmas.Grind.{same_number_lists}
use borrow.Rule.Slice.PartMut.{put_mid}
use Rattle.std.specs.List.{remove, range_with_len, sum}
use Rattle.std.proofs.lemmas.List.Sums.{sum_by-cons}
use Rattle.std.proofs.lemmas.Slice.{put_mid-rotated}
use Rattle.std.proofs.lemmas.Bool.{cases_Bool, cond-true, cond-false, cases_eq, and_from, and_parts, le-leb, leb-true}
use Rattle.rows.specs.Choose.{choose}
use Rattle.rows.specs.Rows.{IsRow, formula}
use Rattle.rows.specs.Registers.{updated, reset}
use Rattle.rows.specs.Views.{some_registers, has_register}
use Rattle.rows.proofs.Binomials.{choose_both}
use Rattle.rows.proofs.Numbering.{row_is_prop}
use Rattle.rows.proofs.Moving.{updated_row, reset_row, length_reset}

pub row_told : (t : ℕ) (xs : List ℕ) → ∥ IsRow t xs ∥₁ → IsRow t xs
row_told t xs h = ∥∥₁_elim h (row_is_prop t xs) (λ row. row)

pub zeros_row : (t n : ℕ) → IsRow t (replicate n 0)
zeros_row t zero = tt
zeros_row t (suc n) = (omega arith, zeros_row 0 n)

pub registers_true : (r : ℕ) → 1 ≤ r → r ≤ 5 → some_registers r ≡ true
registers_true r h k = and_from (leb 1 r) (leb r 5) (le-leb 1 r h) (le-leb r 5 k)

-- an array whose entries are those of another, each raised to p
raised_all : (n p : ℕ) (xs ys : List ℕ) → length xs ≡ n → length ys ≡ n → ((i : ℕ) → i < n → get_or ys i 0 ≡ max (get_or xs i 0) p) → ys ≡ map (λ c. max c p) xs
raised_all n p xs ys whole long each =
    let l = length-map xs (λ c. max c p) in
    same_number_lists ys (map (λ c. max c p) xs) (omega arith) (λ k within. each k (omega arith) ∙ sym (get_or-map (λ c. max c p) xs k 0 0 (omega arith)))

-- so for the row after an update
pub updated_held : (n p : ℕ) (xs ys : List ℕ) → n ≤ 5 → p ≤ 10 → ∥ IsRow 10 (take n xs) ∥₁ → length xs ≡ 5 → length ys ≡ 5 → ((i : ℕ) → i < 5 → get_or ys i 0 ≡ max (get_or xs i 0) p) →
    ∥ IsRow 10 (take n ys) ∥₁ × (Some (take n ys) ≡ cond (leb p 10) (Some (updated p (take n xs))) None)
updated_held n p xs ys few low row whole long each =
    let new : take n ys ≡ updated p (take n xs) = rw (raised_all 5 p xs ys whole long each) (take-map (λ c. max c p) n xs) in (
      ∣ rw new (updated_row 10 p (take n xs) (row_told 10 (take n xs) row) low) ∣₁,
      ap Some new ∙ sym (cond-true (leb p 10) _ _ (le-leb p 10 low)),
    )

-- a place that is found is that of a register
pub place_found : (j n p : ℕ) (zs : List ℕ) → Some p ≡ cond (has_register j zs) (Some (n - j)) None →
    (has_register j zs ≡ true) × (1 ≤ j) × (j ≤ length zs) × (p ≡ n - j)
place_found j n p zs e = elim (cases_Bool (has_register j zs)) [
  | inl t ↦
      let parts = and_parts (leb 1 j) (leb j (length zs)) t in
      let same = e ∙ cond-true (has_register j zs) (Some (n - j)) None t in
      (t, leb-true 1 j parts.0, leb-true j (length zs) parts.1, cc)
  | inr f ↦ let none = e ∙ cond-false (has_register j zs) (Some (n - j)) None f in absurd cc
]

-- with 0 at place p, the entries from there on turned by one place
pub turned : (zs : List ℕ) (p : ℕ) (ys : List ℕ) → p < length zs →
    (let from : List ℕ = set zs p 0 in
    let k : ℕ = length from - p in
    ys ≡ drop 1 (take k (drop p from)) ++ take 1 (take k (drop p from)) → put_mid p k from ys ≡ remove zs p ++ 0 ∷ [])
turned zs p ys h e =
    let same = length-set zs p 0 in
    put_mid-rotated p (length (set zs p 0) - p) (set zs p 0) ys 0 (omega arith) (omega arith) e ∙
    rw (take-set zs p 0, drop-set-lt (suc p) zs p 0 (omega arith), get_or-set_same zs p 0 0 h) refl

-- what the reset leaves: an array as long, whose first n entries are a row, that of the reset
pub reset_held : (n j p : ℕ) (xs ys : List ℕ) → n ≤ length xs → ∥ IsRow 10 (take n xs) ∥₁ →
    (let zs : List ℕ = take n xs in
    let new : List ℕ = ys ++ drop n xs in
    Some p ≡ cond (has_register j zs) (Some (n - j)) None →
    ys ≡ remove zs p ++ 0 ∷ [] →
    (length new ≡ length xs) × ∥ IsRow 10 (take n new) ∥₁ × (Some (take n new) ≡ cond (has_register j zs) (Some (reset j zs)) None))
reset_held n j p xs ys fits row found e =
    let zs : List ℕ = take n xs in
    let at = place_found j n p zs found in
    let some = at.1 in
    let there = at.2 in
    let whole = length-take-le n xs fits in
    let place : p ≡ length zs - j = (let h = at.3 in omega arith) in
    let l = length_reset j zs some there in
    let new : ys ≡ reset j zs = rw (← place) e in
    let left : take n (ys ++ drop n xs) ≡ reset j zs = rw new (take_at (reset j zs) (drop n xs) n (omega arith)) in (
      rw new (omega (arith, length-append (reset j zs) (drop n xs), length-drop n xs)),
      ∣ rw left (reset_row 10 j zs (row_told 10 zs row) some there) ∣₁,
      ap Some left ∙ sym (cond-true (has_register j zs) _ _ at.0),
    )

-- the sum of what the contents add, from place k on, is the formula
shares : (f : ℕ → ℕ) (k : ℕ) (cs : List ℕ) →
    ((i : ℕ) → i < length cs → f (k + i) ≡ choose (get_or cs i 0 + (length cs - i) - 1) (length cs - i)) →
    sum (map f (range_with_len k (length cs))) ≡ formula cs
shares f k [] h = refl
shares f k (c ∷ cs) h =
    let n : ℕ = length cs in
    let rest = shares f (k + 1) cs (λ i l. ap f (omega arith) ∙ h (suc i) (omega arith) ∙ choose_both _ _ _ _ (omega arith) (omega arith)) in
    let first : f k ≡ choose (c + n) (suc n) =
    ap f (sym (add-zero k)) ∙ h 0 (omega arith) ∙ choose_both (c + (suc n - 0) - 1) (c + n) (suc n - 0) (suc n) (omega arith) (omega arith) in
    omega (arith, sum_by-cons (λ (x : ℕ). x) (f k) (map f (range_with_len (k + 1) n)))

pub formula_held : (n : ℕ) (xs : List ℕ) → n ≤ length xs →
    sum (map (λ i. choose (get_or xs i 0 + (n - i) - 1) (n - i)) (range_with_len 0 n)) ≡ formula (take n xs)
formula_held n xs fits =
    let f : ℕ → ℕ = λ i. choose (get_or xs i 0 + (n - i) - 1) (n - i) in
    let whole = length-take-le n xs fits in
    ap (λ m. sum (map f (range_with_len 0 m))) (sym whole) ∙
    shares f 0 (take n xs) (λ i l.
    let e = get_or-take n xs i 0 (omega arith) in
    ap f (zero-add i) ∙ choose_both _ _ _ _ (omega arith) (omega arith))
