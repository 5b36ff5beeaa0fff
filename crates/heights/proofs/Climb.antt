-- The climb by its quotient, and the laws that follow.
use Rattle.std.proofs.Common.{◌≡◌, ℕ, ◌+◌, ◌-◌, ◌*◌, ◌/◌, ◌%◌, ◌^◌, ◌<◌, ◌≤◌, mul-le-mul_right, div-lt_iff_lt-mul, add-mul, div-add-mod', le-div_iff_mul-le, arith, lit<, pow-add}
use Rattle.std.proofs.Math.Nat.{one-le-pow}
use Rattle.std.proofs.lemmas.Bool.Decides.{nat_tests}
use native.Mathlib.Nat.{pow-le-pow_left, pow-le-pow_right, pow-zero, mod-one}
use Rattle.heights.specs.Climb.{lost, step_of, climb}
use Rattle.heights.specs.Theorems.{ClimbLaws}

-- powers of a base up to 16, up to the sixth, are small
pub power_small : (n k : ℕ) → n ≤ 16 → k ≤ 6 → n ^ k ≤ 2 ^ 24
power_small n k low few =
    let a = pow-le-pow_left low k in
    let b = pow-le-pow_right {n = 16} (lit< tt) few in
    omega arith

pub quotient_monotone : (q x y : ℕ) → 1 ≤ q → x ≤ y → x / q ≤ y / q
quotient_monotone q x y some h = grind (arith, le-div_iff_mul-le)

-- from a height below T: the quotient by the step, one higher if p is odd, times the step
pub climb_below : (n r x p : ℕ) → x < lost n r → climb n r x p ≡ (x / step_of n p + p % 2) * step_of n p
climb_below n r x p h = grind (arith, nat_tests, div-add-mod', add-mul)

pub climb_lost : (n r x p : ℕ) → lost n r ≤ x → climb n r x p ≡ lost n r
climb_lost n r x p h = grind (arith, nat_tests)

-- T is a multiple of each step
pub lost_multiple : (n r p : ℕ) → p / 2 ≤ r + 1 → lost n r ≡ n ^ (r + 1 - p / 2) * step_of n p
lost_multiple n r p h = grind (arith, pow-add n (r + 1 - p / 2) (p / 2))

module _ (n r p : ℕ) (some : 1 ≤ n) (fits : p / 2 ≤ r + 1) where
  pub climb_at_most : (x : ℕ) → climb n r x p ≤ lost n r
  climb_at_most x = grind (arith, climb_below n r x p, climb_lost n r x p, lost_multiple n r p, one-le-pow (p / 2) n, div-lt_iff_lt-mul, mul-le-mul_right)

  pub climb_monotone : (x y : ℕ) → x ≤ y → climb n r x p ≤ climb n r y p
  climb_monotone x y h =
      grind (arith, climb_at_most x, climb_below n r x p, climb_below n r y p, climb_lost n r y p, one-le-pow (p / 2) n, quotient_monotone (step_of n p) x y, mul-le-mul_right)

pub climb_by_zero : (n r x : ℕ) → x ≤ lost n r → climb n r x 0 ≡ x
climb_by_zero n r x h = grind (arith, nat_tests, pow-zero, mod-one)

pub climb_laws_lem : (n r : ℕ) → 1 ≤ n → ClimbLaws n r (r + 1)
climb_laws_lem n r some = record {
  monotone = λ x y p h l fits. climb_monotone n r p some fits x y h;
  at_most = λ x p fits. climb_at_most n r p some fits x;
  keeps_lost = λ p. climb_lost n r (lost n r) p (omega arith);
  by_zero = climb_by_zero n r;
}
