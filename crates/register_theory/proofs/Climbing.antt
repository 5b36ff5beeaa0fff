-- Heights that climb to a height that is not lost, and why a closed walk that keeps climbing has an even highest priority.
use Rattle.std.proofs.Common.{◌≡◌, ℕ, ◌+◌, ◌-◌, ◌*◌, ◌/◌, ◌%◌, ◌^◌, ◌<◌, ◌≤◌, List, ◌∷◌, sym, ap, ◌∙◌, mul-zero, pow-suc, pow-add, add-one, le-div_iff_mul-le, arith}
use native.Mathlib.Nat.{one-le-pow, div-div-eq-div-mul}
use Rattle.game.specs.Plans.{Walk, highest}
use Rattle.game.specs.Plans.Walk.{stay, step}
use Rattle.toolkit.proofs.Walks.{Peak, walk_peak, peak_low}
use Rattle.heights.specs.Climb.{lost, step_of, climb}
use Rattle.heights.proofs.Climb.{climb_below, climb_lost, quotient_monotone}

module _ (n r : ℕ) where
  pub base_positive : (x : ℕ) → x < lost n r → 1 ≤ n
  base_positive x h =
      let s = ap (λ k. n ^ k) (add-one r) ∙ pow-suc n r in
      grind (arith, mul-zero (n ^ r))

  -- where the climb from x by p comes to at most y, and y is not lost, nor is x
  pub climbed_from_kept : (x y p : ℕ) → climb n r x p ≤ y → y < lost n r → x < lost n r
  climbed_from_kept x y p high there = grind (arith, climb_lost)

  module _ (x y p : ℕ) (high : climb n r x p ≤ y) (there : y < lost n r) where
    positive : (k : ℕ) → 1 ≤ n ^ k
    positive k = one-le-pow k n (base_positive y there)

    -- what division by the step leaves is as much greater as the priority is odd
    pub falls_here : x / step_of n p + p % 2 ≤ y / step_of n p
    falls_here = (le-div_iff_mul-le (positive (p / 2))).1 (let e = climb_below n r x p (climbed_from_kept x y p high there) in omega arith)

    -- and no less for a greater priority
    pub not_rises : (top : ℕ) → p ≤ top → x / step_of n top ≤ y / step_of n top
    not_rises top h =
        let d = top / 2 - p / 2 in
        let q = step_of n p in
        let split : p / 2 + d ≡ top / 2 = omega arith in
        let e : step_of n top ≡ q * n ^ d = ap (λ k. n ^ k) (sym split) ∙ pow-add n (p / 2) d in
        let here = falls_here in
        let more = quotient_monotone (n ^ d) (x / q) (y / q) (positive d) (omega arith) in
        let a = ap (λ k. x / k) e ∙ sym (div-div-eq-div-mul x q (n ^ d)) in
        let b = ap (λ k. y / k) e ∙ sym (div-div-eq-div-mul y q (n ^ d)) in
        omega arith

-- Moves along which the heights climb: each climb comes to at most the height of where the move starts, which is not lost.
module _ (n r : ℕ) (h : ℕ → ℕ) {Move : ℕ → ℕ → ℕ → Type 0} (climbs : (a b p : ℕ) → Move a b p → (climb n r (h b) p ≤ h a) × (h a < lost n r)) where
  sinks : (top : ℕ) {u w : ℕ} {ps : List ℕ} → highest ps ≤ top → Walk Move u w ps → h w / step_of n top ≤ h u / step_of n top
  sinks top low stay = omega arith
  sinks top low (step {u = u} {v = v} {p = p} m walk) =
      let here = not_rises n r (h v) (h u) p (climbs u v p m).0 (climbs u v p m).1 top (omega arith) in
      let more = sinks top (omega arith) walk in
      omega arith

  -- a closed walk of such moves has an even highest priority, whatever the priorities
  pub climbing_even : {v p : ℕ} {ps : List ℕ} → Walk Move v v (p ∷ ps) → highest (p ∷ ps) % 2 ≡ 0
  climbing_even walk = at_peak (walk_peak walk)
    where
      at_peak : {v : ℕ} {ps : List ℕ} → Peak Move v v ps → highest ps % 2 ≡ 0
      at_peak peak =
          let top = peak.top in
          let low = peak_low peak in
          let before = sinks top low.0 peak.walk_before in
          let behind = sinks top low.1 peak.walk_behind in
          let m = climbs peak.from peak.to top peak.move in
          let here = falls_here n r (h peak.to) (h peak.from) top m.0 m.1 in
          rw (← peak.is_highest) (omega arith)
