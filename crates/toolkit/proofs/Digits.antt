-- Numbers from digits in a base, and what division by a power of the base leaves.
use Rattle.std.proofs.Common.{◌≡◌, ℕ, zero, suc, ◌+◌, ◌-◌, ◌*◌, ◌/◌, ◌^◌, ◌<◌, ◌≤◌, sym, refl, ap, ◌∙◌, add-zero, add-suc, mul-le-mul_right, mul_assoc, suc-mul, mul_comm, add-mul, pow-suc, le-div_iff_mul-le, zero-mul, arith, pow-add}
use native.Mathlib.Nat.{pow-zero, mul-add-div_right, div-eq_of_lt}
use Rattle.toolkit.specs.Finite.{sum, digits}
use Rattle.toolkit.proofs.Counting.{sum_monotone}

pub digits_none : (n : ℕ) (d : ℕ → ℕ) → digits n 0 d ≡ 0
unfolding digits sum
digits_none n d = refl

-- one more digit on top
pub digits_more : (n k : ℕ) (d : ℕ → ℕ) → digits n (suc k) d ≡ d k * n ^ k + digits n k d
unfolding digits sum
digits_more n k d = refl

-- the digits are below the base: the number is below its power
pub digits_below : (n k : ℕ) (d : ℕ → ℕ) → ((i : ℕ) → i < k → d i < n) → digits n k d < n ^ k
digits_below n zero d low = rw (digits_none n d, pow-zero n) (omega arith)
digits_below n (suc k) d low =
    let top : suc (d k) * n ^ k ≤ n * n ^ k = mul-le-mul_right (n ^ k) (low k (omega arith)) in
    grind (arith, digits_more, digits_below n k d (λ i l. low i (omega arith)), suc-mul, pow-suc)

-- the digits from j on, and those below j
pub digits_split : (n j m : ℕ) (d : ℕ → ℕ) → digits n (j + m) d ≡ digits n m (λ i. d (j + i)) * n ^ j + digits n j d
digits_split n j zero d = grind (arith, digits_none, add-zero j, zero-mul)
digits_split n j (suc m) d = rw add-suc (grind (arith, digits_split n j m d, digits_more, pow-add, add-mul, mul_assoc, mul_comm))

-- division by n ^ j drops the digits below j
pub digits_quotient : (n j m : ℕ) (d : ℕ → ℕ) → ((i : ℕ) → i < j → d i < n) → digits n (j + m) d / n ^ j ≡ digits n m (λ i. d (j + i))
digits_quotient n j m d low =
    let small = digits_below n j d low in
    let pos : 0 < n ^ j = omega arith in
    let split = ap (λ x. x / n ^ j) (digits_split n j m d) ∙ mul-add-div_right pos (digits n m (λ i. d (j + i))) (digits n j d) in
    let rest = div-eq_of_lt small in
    omega arith

pub digits_monotone : (n k : ℕ) (d e : ℕ → ℕ) → ((i : ℕ) → i < k → d i ≤ e i) → digits n k d ≤ digits n k e
unfolding digits
digits_monotone n k d e h = sum_monotone k (λ j. d j * n ^ j) (λ j. e j * n ^ j) (λ i l. mul-le-mul_right (n ^ i) (h i l))

-- the lowest digit lower by c at least, and no other higher
digits_lower : (n m c : ℕ) (d e : ℕ → ℕ) → d 0 + c ≤ e 0 → ((i : ℕ) → 0 < i → i < suc m → d i ≤ e i) → digits n (suc m) d + c ≤ digits n (suc m) e
digits_lower n zero c d e lowest more = grind (arith, digits_more, digits_none, pow-zero)
digits_lower n (suc m) c d e lowest more =
    grind (arith, digits_more, digits_lower n m c d e lowest (λ i h l. more i h (omega arith)), mul-le-mul_right (n ^ suc m) (more (suc m) (omega arith) (omega arith)))

-- Two numbers of k digits: no digit above j of the first is higher, and its digit j is lower by c at least.
module _ (n k j c : ℕ) (d e : ℕ → ℕ) (low : (i : ℕ) → i < k → (d i < n) × (e i < n)) (inside : j < k) (above : (i : ℕ) → j < i → i < k → d i ≤ e i) (here : d j + c ≤ e j) where
  -- then so is what division by n ^ j leaves
  pub quotient_falls : digits n k d / n ^ j + c ≤ digits n k e / n ^ j
  quotient_falls =
      let m = k - suc j in
      let split : j + suc m ≡ k = omega arith in
      let a = ap (λ x. digits n x d / n ^ j) (sym split) ∙ digits_quotient n j (suc m) d (λ i l. (low i (omega arith)).0) in
      let b = ap (λ x. digits n x e / n ^ j) (sym split) ∙ digits_quotient n j (suc m) e (λ i l. (low i (omega arith)).1) in
      let lowest : d (j + 0) + c ≤ e (j + 0) = rw add-zero here in
      let falls = digits_lower n m c (λ i. d (j + i)) (λ i. e (j + i)) lowest (λ i h l. above (j + i) (omega arith) (omega arith)) in
      omega arith

  -- so the first, its digits below j dropped and digit j raised by c, is at most the second
  pub lifted_at_most : (digits n k d / n ^ j + c) * n ^ j ≤ digits n k e
  lifted_at_most =
      let small = digits_below n j d (λ i l. (low i (omega arith)).0) in
      let pos : 0 < n ^ j = omega arith in
      (le-div_iff_mul-le pos).0 quotient_falls
