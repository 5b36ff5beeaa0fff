-- How many binary digits a number has, and numbers that have the same digits.
use Rattle.std.proofs.Common.{◌≡◌, ℕ, zero, suc, ◌+◌, ◌*◌, ◌^◌, ◌<◌, ◌≤◌, cond, ltb, refl, ap, ◌∙◌, inl, inr, mul-le-mul_right, suc-mul, pow-suc, arith}
use native.Mathlib.Nat.{pow-le-pow_right}
use Rattle.std.proofs.lemmas.Bool.{cases_lt, cases_eq, cases_order, cond-true, cond-false, lt-ltb, le-ltb}
use Rattle.toolkit.specs.Finite.{digits}
use Rattle.toolkit.proofs.Digits.{digits_more, digits_below}

pub bits : ℕ → ℕ
bits zero = 0
bits (suc m) = cond (ltb (suc m) (2 ^ bits m)) (bits m) (suc (bits m))

bits_laws : (m : ℕ) → (m < 2 ^ bits m) × (1 ≤ m → 2 ^ bits m ≤ 2 * m)
unfolding bits
bits_laws zero = (omega arith, λ h. absurd (omega arith))
bits_laws (suc m) =
    let h = bits_laws m in
    let low = h.0 in
    let b = bits m in
    elim (cases_lt (suc m) (2 ^ b)) [
      | inl fits ↦
          let e : 2 ^ bits (suc m) ≡ 2 ^ b = ap (λ x. 2 ^ x) (cond-true (ltb (suc m) (2 ^ b)) b (suc b) (lt-ltb (suc m) (2 ^ b) fits)) in
          elim (cases_eq m 0) [
            | inl none ↦ let z : 2 ^ b ≡ 1 = ap (λ x. 2 ^ bits x) none in absurd (omega arith)
            | inr some ↦ let l = h.1 (omega arith) in (omega arith, λ l. omega arith)
          ]
      | inr full ↦
          let e : 2 ^ bits (suc m) ≡ 2 ^ suc b = ap (λ x. 2 ^ x) (cond-false (ltb (suc m) (2 ^ b)) b (suc b) (le-ltb (suc m) (2 ^ b) full)) in
          let twice = pow-suc 2 b in
          (omega arith, λ l. omega arith)
    ]

pub bits_above : (m : ℕ) → m < 2 ^ bits m
bits_above m = (bits_laws m).0

pub bits_within : (m : ℕ) → 1 ≤ m → 2 ^ bits m ≤ 2 * m
bits_within m = (bits_laws m).1

bits_none : bits 0 ≡ 0
unfolding bits
bits_none = refl

pub bits_at_most : (m r : ℕ) → m < 2 ^ r → bits m ≤ r
bits_at_most m r h = elim (cases_lt r (bits m)) [
  | inr fits ↦ fits
  | inl over ↦ elim (cases_eq m 0) [
    | inl none ↦ let z : bits m ≡ 0 = ap bits none ∙ bits_none in absurd (omega arith)
    | inr some ↦
        let l = bits_within m (omega arith) in
        let two : 0 < 2 = omega arith in
        let grow = pow-le-pow_right two over in
        let twice = pow-suc 2 r in
        absurd (omega arith)
  ]
]

pub bits_monotone : (a b : ℕ) → a ≤ b → bits a ≤ bits b
bits_monotone a b h = let l = bits_above b in bits_at_most a (bits b) (omega arith)

pub bits_positive : (m : ℕ) → 1 ≤ m → 1 ≤ bits m
bits_positive m h = elim (cases_eq (bits m) 0) [
  | inl none ↦ let l = bits_above m in let e : 2 ^ bits m ≡ 1 = ap (λ x. 2 ^ x) none in absurd (omega arith)
  | inr some ↦ omega arith
]

pub bits_one : (m : ℕ) → bits m ≡ 1 → m ≤ 1
bits_one m e = let l = bits_above m in let f : 2 ^ bits m ≡ 2 = ap (λ x. 2 ^ x) e in omega arith

-- two parts of a whole do not both have as many digits as the whole
pub one_large_part : (a b c : ℕ) → 1 ≤ a → 1 ≤ b → a + b ≤ c → bits a ≡ bits c → bits b ≡ bits c → ⊥
one_large_part a b c some_a some_b fits e f =
    let x = bits_within a some_a in
    let y = bits_within b some_b in
    let z = bits_above c in
    let e' = ap (λ m. 2 ^ m) e in
    let f' = ap (λ m. 2 ^ m) f in
    omega arith

-- numbers with the same value have the same digits
pub digits_same : (n k : ℕ) (d e : ℕ → ℕ) → ((i : ℕ) → i < k → (d i < n) × (e i < n)) → digits n k d ≡ digits n k e → (i : ℕ) → i < k → d i ≡ e i
digits_same n zero d e low same i h = absurd (omega arith)
digits_same n (suc k) d e low same i h = elim (cases_eq i k) [
  | inl last ↦ rw last top
  | inr apart ↦ digits_same n k d e (λ i l. low i (omega arith)) rest i (omega arith)
]
  where
    a : digits n (suc k) d ≡ d k * n ^ k + digits n k d
    a = digits_more n k d

    b : digits n (suc k) e ≡ e k * n ^ k + digits n k e
    b = digits_more n k e

    under_d : digits n k d < n ^ k
    under_d = digits_below n k d (λ i l. (low i (omega arith)).0)

    under_e : digits n k e < n ^ k
    under_e = digits_below n k e (λ i l. (low i (omega arith)).1)

    top : d k ≡ e k
    top = elim (cases_order (d k) (e k)) [
      | inl equal ↦ equal
      | inr (inl less) ↦ let l = mul-le-mul_right (n ^ k) less in let s = suc-mul (d k) (n ^ k) in absurd (omega (arith, a, b, under_d, under_e))
      | inr (inr more) ↦ let l = mul-le-mul_right (n ^ k) more in let s = suc-mul (e k) (n ^ k) in absurd (omega (arith, a, b, under_d, under_e))
    ]

    rest : digits n k d ≡ digits n k e
    rest = let e = ap (λ x. x * n ^ k) top in omega (arith, a, b)
