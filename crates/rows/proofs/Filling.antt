-- From a number to its row: the contents are found one after the other, the largest first.
use Rattle.std.proofs.Common.{◌≡◌, ℕ, zero, suc, ◌+◌, ◌-◌, ◌<◌, ◌≤◌, List, [], ◌∷◌, length, get_or, set, replicate, Option, Some, None, MatchOption, unwrap_or, sym, refl, ap, ◌∙◌, add-one, arith}
use Rattle.std.specs.List.{slice_get}
use Rattle.std.proofs.lemmas.List.{length-set, length-replicate, get_or-set_other}
use Rattle.rows.specs.Choose.{choose}
use Rattle.rows.specs.Rows.{IsRow, rows, formula}
use Rattle.rows.proofs.Binomials.{choose_over, choose_both}
use Rattle.rows.proofs.Numbering.{row_listed}
use Rattle.rows.proofs.Held.{zeros_row}

-- What is found from the top down: the first content with which no more than k rows begin with less, so many below the top, or 0.
abbrev pub FoundDown : ℕ → ℕ → ℕ → Option ℕ → Type 0
FoundDown r k top o = MatchOption o ((d : ℕ) → 0 ≤ d → d < top → k < choose (top - d + r - 1) r)
    (λ n. (0 ≤ n) × (n < top) × (choose (top - n + r - 1) r ≤ k) × ((d : ℕ) → 0 ≤ d → d < n → k < choose (top - d + r - 1) r))

pub first_reached : (r k top : ℕ) (o : Option ℕ) → 1 ≤ r → FoundDown r k top o → choose (top - unwrap_or o top + r - 1) r ≤ k
first_reached r k top None some h = let z = choose_over (top - top + r - 1) r (omega arith) in omega arith
first_reached r k top (Some n) some h = h.2

pub down_inside : (r k top : ℕ) (o : Option ℕ) → FoundDown r k top o → unwrap_or o top ≤ top
down_inside r k top None h = omega arith
down_inside r k top (Some n) h = let l = h.1 in omega arith

-- more than k rows begin with it or with less: so it is where nothing was passed over, and where the last content passed over says so
passed_by : (r k top n : ℕ) → n ≤ top → k < choose (top + r) r → ((d : ℕ) → d < n → k < choose (top - d + r - 1) r) → k < choose (top - n + r) r
passed_by r k top zero low inside h = let e = choose_both (top - 0 + r) (top + r) r r (omega arith) refl in omega arith
passed_by r k top (suc n) low inside h =
    let l = h n (omega arith) in
    let e = choose_both (top - suc n + r) (top - n + r - 1) r r (omega arith) refl in
    omega arith

pub first_passed : (r k top : ℕ) (o : Option ℕ) → k < choose (top + r) r → FoundDown r k top o → k < choose (top - unwrap_or o top + r) r
first_passed r k top None inside h = passed_by r k top top (omega arith) inside (λ d l. h d (omega arith) l)
first_passed r k top (Some n) inside h = let l = h.1 in passed_by r k top n (omega arith) inside (λ d m. h.3 d (omega arith) m)

-- what stands before place i: the top before the first place
abbrev pub bound : ℕ → List ℕ → ℕ → ℕ
bound t zs zero = t
bound t [] (suc i) = t
bound t (z ∷ zs) (suc i) = bound z zs i

bound_set : (t : ℕ) (zs : List ℕ) (i c : ℕ) → i < length zs → bound t (set zs i c) (suc i) ≡ c
bound_set t [] i c h = absurd (omega arith)
bound_set t (z ∷ zs) zero c h = refl
bound_set t (z ∷ zs) (suc i) c h = bound_set z zs i c (omega arith)

all_zero_row : (t : ℕ) (zs : List ℕ) → ((m : ℕ) → get_or zs m 0 ≡ 0) → IsRow t zs
all_zero_row t [] h = tt
all_zero_row t (z ∷ zs) h = let e = h 0 in (omega arith, all_zero_row z zs (λ m. h (suc m)))

row_set : (t : ℕ) (zs : List ℕ) (i c : ℕ) → IsRow t zs → i < length zs → ((m : ℕ) → i ≤ m → get_or zs m 0 ≡ 0) → c ≤ bound t zs i → IsRow t (set zs i c)
row_set t [] i c row h ahead low = absurd (omega arith)
row_set t (z ∷ zs) zero c row h ahead low = (low, all_zero_row c zs (λ m. ahead (suc m) (omega arith)))
row_set t (z ∷ zs) (suc i) c row h ahead low = (row.0, row_set z zs i c row.1 (omega arith) (λ m l. ahead (suc m) (omega arith)) low)

formula_set : (zs : List ℕ) (i m c : ℕ) → length zs ≡ i + suc m → get_or zs i 0 ≡ 0 → formula (set zs i c) ≡ choose (c + m) (suc m) + formula zs
formula_set [] i m c e z = absurd (omega arith)
formula_set (x ∷ zs) zero m c e z =
    let n : length zs ≡ m = omega arith in
    let a : choose (x + length zs) (suc (length zs)) ≡ 0 = choose_over (x + length zs) (suc (length zs)) (omega arith) in
    let b : choose (c + length zs) (suc (length zs)) ≡ choose (c + m) (suc m) =
    choose_both (c + length zs) (c + m) (suc (length zs)) (suc m) (omega arith) (omega arith) in
    omega arith
formula_set (x ∷ zs) (suc i) m c e z =
    let h = formula_set zs i m c (omega arith) z in
    let n = length-set zs i c in
    let a : choose (x + length (set zs i c)) (suc (length (set zs i c))) ≡ choose (x + length zs) (suc (length zs)) =
    choose_both (x + length (set zs i c)) (x + length zs) (suc (length (set zs i c))) (suc (length zs)) (omega arith) (omega arith) in
    omega arith

formula_zeros : (n : ℕ) → formula (replicate n 0) ≡ 0
formula_zeros zero = refl
formula_zeros (suc n) =
    let h = formula_zeros n in
    let k : ℕ = length {A = ℕ} (replicate n 0) in
    let a : choose (0 + k) (suc k) ≡ 0 = choose_over (0 + k) (suc k) (omega arith) in
    omega arith

-- i contents of row number k stand in zs, and the rest of the number is left for the others, which are 0 so far
pub record Filling (r top k : ℕ) (zs : List ℕ) (i limit rest : ℕ) : Type 0 where
  pub whole : length zs ≡ r
  pub row : IsRow top zs
  pub counted : formula zs + rest ≡ k
  pub inside : rest < choose (limit + (r - i)) (r - i)
  pub ahead : (m : ℕ) → i ≤ m → get_or zs m 0 ≡ 0
  pub last : limit ≡ bound top zs i
  pub under : limit ≤ top

get_d_zeros : (n m : ℕ) → get_or {A = ℕ} (replicate n 0) m 0 ≡ 0
get_d_zeros zero m = refl
get_d_zeros (suc n) zero = refl
get_d_zeros (suc n) (suc m) = get_d_zeros n m

pub filling_none : (r top k : ℕ) → k < choose (top + r) r → Filling r top k (replicate r 0) 0 top k
filling_none r top k h = record {
  whole = length-replicate {A = ℕ} r 0;
  row = zeros_row top r;
  counted = (let z = formula_zeros r in omega arith);
  inside = (let e = choose_both (top + (r - 0)) (top + r) (r - 0) r (omega arith) (omega arith) in omega arith);
  ahead = λ m l. get_d_zeros r m;
  last = refl;
  under = omega arith;
}

pub filling_more : (r top k : ℕ) (zs : List ℕ) (i limit rest c : ℕ) → i < r → Filling r top k zs i limit rest →
    c ≤ limit → choose (c + (r - i) - 1) (r - i) ≤ rest → rest < choose (c + (r - i)) (r - i) →
    Filling r top k (set zs i c) (i + 1) c (rest - choose (c + (r - i) - 1) (r - i))
filling_more r top k zs i limit rest c h w under reached passed =
    let m : ℕ = r - (i + 1) in
    let whole = w.whole in
    let counted = w.counted in
    let last = w.last in
    let taken : choose (c + (r - i) - 1) (r - i) ≡ choose (c + m) (suc m) =
    choose_both (c + (r - i) - 1) (c + m) (r - i) (suc m) (omega arith) (omega arith) in
    let pascal : choose (c + (r - i)) (r - i) ≡ choose (suc (c + m)) (suc m) =
    choose_both (c + (r - i)) (suc (c + m)) (r - i) (suc m) (omega arith) (omega arith) in
    let more = formula_set zs i m c (omega arith) (w.ahead i (omega arith)) in
    record {
      whole = length-set zs i c ∙ whole;
      row = row_set top zs i c w.row (omega arith) w.ahead (omega arith);
      counted = omega arith;
      inside = omega arith;
      ahead = λ n l. get_or-set_other zs i n c 0 (omega arith) ∙ w.ahead n (omega arith);
      last = sym (ap (λ n. bound top (set zs i c) n) (add-one i) ∙ bound_set top zs i c (omega arith));
      under = (let u = w.under in omega arith);
    }

pub filling_all : (r top k : ℕ) (zs : List ℕ) (i limit rest : ℕ) → r ≤ i → Filling r top k zs i limit rest → slice_get (rows r top) k ≡ Some zs
filling_all r top k zs i limit rest h w =
    let z : choose (limit + (r - i)) (r - i) ≡ choose (limit + (r - i)) 0 = choose_both (limit + (r - i)) (limit + (r - i)) (r - i) 0 refl (omega arith) in
    let inside = w.inside in
    let counted = w.counted in
    let e : formula zs ≡ k = omega arith in
    rw e at (row_listed r top zs w.row w.whole)
