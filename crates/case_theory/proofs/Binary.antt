-- The logarithm by which the registers needed are counted.
use Rattle.std.proofs.Common.{ℕ, zero, suc, ◌^◌, ◌<◌, ◌≤◌, ltb, inl, inr, pow-suc, add-one, arith, pow_mono}
use Rattle.std.proofs.lemmas.Bool.{cases_lt, cond-true, cond-false, lt-ltb, le-ltb}
use Rattle.case_rules.specs.Binary.{log2, grown, Log2Law, binary_digits}

-- one step: from k with 2^k ≤ n < 2^(k+1) to that of n + 1
grown_lawful : (k n : ℕ) → 2 ^ k ≤ n → n < 2 ^ suc k → (2 ^ grown k (suc n) ≤ suc n) × (suc n < 2 ^ suc (grown k (suc n)))
grown_lawful k n low high = elim (cases_lt (suc n) (2 ^ suc k)) [
  | inl l ↦ rw (cond-true (ltb (suc n) (2 ^ suc k)) k (suc k) (lt-ltb (suc n) (2 ^ suc k) l)) (omega arith, l)
  | inr l ↦
      let p = pow-suc 2 k in
      let q = pow-suc 2 (suc k) in
      rw (cond-false (ltb (suc n) (2 ^ suc k)) k (suc k) (le-ltb (suc n) (2 ^ suc k) l)) (omega arith, omega arith)
]

log2_step : (n : ℕ) → (2 ^ log2 (suc n) ≤ suc n) × (suc n < 2 ^ suc (log2 (suc n)))
unfolding log2
log2_step zero = (omega arith, omega arith)
log2_step (suc n) = let (low, high) = log2_step n in grown_lawful (log2 (suc n)) (suc n) low high

pub log2_law : (n : ℕ) → Log2Law n
log2_law zero h = absurd (omega arith)
log2_law (suc n) h = rw add-one (log2_step n)

-- a number is below the power of two with as many zeros as it has digits, and no lower power will do
pub digits_above : (n : ℕ) → n < 2 ^ binary_digits n
digits_above zero = omega arith
digits_above (suc n) = (log2_law (suc n) (omega arith)).1

pub digits_few : (n k : ℕ) → n < 2 ^ k → binary_digits n ≤ k
digits_few zero k h = omega arith
digits_few (suc n) k h = elim (cases_lt k (binary_digits (suc n))) [
  | inr fine ↦ fine
  | inl more ↦
      let low = (log2_law (suc n) (omega arith)).0 in
      let p = pow_mono {i = k} {j = log2 (suc n)} (omega arith) in
      absurd (omega arith)
]

pub some_digits : (n : ℕ) → 1 ≤ n → 1 ≤ binary_digits n
some_digits zero h = absurd (omega arith)
some_digits (suc n) h = omega arith
