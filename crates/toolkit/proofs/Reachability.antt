-- The test of reachability agrees with walks.
use Rattle.std.proofs.Common.{◌≡◌, ℕ, zero, suc, ◌<◌, ◌≤◌, Bool, true, eqb, ◌⊎◌, List, [], ◌∷◌, ◌++◌, inl, inr, arith}
use Rattle.std.proofs.lemmas.Bool.{eqb-true, or_cases}
use Rattle.std.proofs.lemmas.Bool.Decides.{nat_tests}
use Rattle.game.specs.Plans.{Walk}
use Rattle.game.specs.Plans.Walk.{stay, step}
use Rattle.toolkit.specs.Reachability.{via, reach, Joins, ReachExact}
use Rattle.toolkit.proofs.Walks.{walk_joined, walk_mapped, walk_related}

module _ (edge : ℕ → ℕ → Bool) where
  via_self : (k u : ℕ) → via k edge u u ≡ true
  unfolding via
  via_self zero u = grind (arith, nat_tests)
  via_self (suc k) u = grind (arith, via_self k u)

  via_step : (k u v : ℕ) → edge u v ≡ true → via k edge u v ≡ true
  unfolding via
  via_step zero u v e = grind (arith, nat_tests)
  via_step (suc k) u v e = grind (arith, via_step k u v)

  -- ways join at any position that may be inner
  via_joined : (k x u v : ℕ) → x < k → via k edge u x ≡ true → via k edge x v ≡ true → via k edge u v ≡ true
  unfolding via
  via_joined zero x u v h a b = absurd (omega arith)
  via_joined (suc k) x u v h a b = grind (arith, via_joined k x u v, via_joined k x u k, via_joined k x k v)

module _ (n : ℕ) (edge : ℕ → ℕ → Bool) where
  reach_parts : (u v : ℕ) → reach n edge u v ≡ true → (u < n) × (v < n) × (via n edge u v ≡ true)
  unfolding reach
  reach_parts u v e = grind (arith, nat_tests)

  reach_from : (u v : ℕ) → u < n → v < n → via n edge u v ≡ true → reach n edge u v ≡ true
  unfolding reach
  reach_from u v h l e = grind (arith, nat_tests)

  pub reach_inside : (u v : ℕ) → reach n edge u v ≡ true → (u < n) × (v < n)
  reach_inside u v e = let parts = reach_parts u v e in (parts.0, parts.1)

  pub reach_self : (u : ℕ) → u < n → reach n edge u u ≡ true
  reach_self u h = reach_from u u h h (via_self edge n u)

  pub reach_step : (u v : ℕ) → u < n → v < n → edge u v ≡ true → reach n edge u v ≡ true
  reach_step u v h l e = reach_from u v h l (via_step edge n u v e)

  pub reach_joined : (u x v : ℕ) → reach n edge u x ≡ true → reach n edge x v ≡ true → reach n edge u v ≡ true
  reach_joined u x v a b =
      let one = reach_parts u x a in
      let two = reach_parts x v b in
      reach_from u v one.0 two.1 (via_joined edge n x u v one.1 one.2 two.2)

  via_cases : (k u v : ℕ) → via (suc k) edge u v ≡ true → (via k edge u v ≡ true) ⊎ ((via k edge u k ≡ true) × (via k edge k v ≡ true))
  unfolding via
  via_cases k u v e = grind arith

  via_walk : (k u v : ℕ) → k ≤ n → u < n → v < n → via k edge u v ≡ true → (ps : List ℕ) × Walk (Joins n edge) u v ps
  unfolding via
  via_walk zero u v h a b e = elim (or_cases (eqb u v) (edge u v) e) [
    | inl same ↦ ([], rw (eqb-true u v same) stay)
    | inr there ↦ (0 ∷ [], step (a, b, there) stay)
  ]
  via_walk (suc k) u v h a b e = elim (via_cases k u v e) [
    | inl less ↦ via_walk k u v (omega arith) a b less
    | inr parts ↦
        let one = via_walk k u k (omega arith) a (omega arith) parts.0 in
        let two = via_walk k k v (omega arith) (omega arith) b parts.1 in
        (one.0 ++ two.0, walk_joined one.1 two.1)
  ]

  pub walk_from_reach : (u v : ℕ) → reach n edge u v ≡ true → (ps : List ℕ) × Walk (Joins n edge) u v ps
  walk_from_reach u v e = let parts = reach_parts u v e in via_walk n u v (omega arith) parts.0 parts.1 parts.2

  pub reach_from_walk : {u v : ℕ} {ps : List ℕ} → u < n → Walk (Joins n edge) u v ps → reach n edge u v ≡ true
  reach_from_walk {u} h stay = reach_self u h
  reach_from_walk {v = w} h (step {u = u} {v = v} m walk) = reach_joined u v w (reach_step u v m.0 m.1 m.2) (reach_from_walk m.1 walk)

  pub reach_exact_lem : (u v : ℕ) → ReachExact n edge u v
  reach_exact_lem u v = (λ e. ((reach_inside u v e).0, walk_from_reach u v e), λ found. reach_from_walk found.0 found.1.1)

  module _ {Move : ℕ → ℕ → ℕ → Type 0} where
    -- where each step is a move, what is reached is reached by a walk of moves
    pub moves_from_reach : ((a b : ℕ) → a < n → b < n → edge a b ≡ true → (p : ℕ) × Move a b p) → (u v : ℕ) → reach n edge u v ≡ true → (ps : List ℕ) × Walk Move u v ps
    moves_from_reach found u v e =
        let walk = walk_related (λ p q. Unit {0}) (λ a b p (m : Joins n edge a b p). let here = found a b m.0 m.1 m.2 in (here.0, tt, here.1)) (walk_from_reach u v e).1 in
        (walk.0, walk.1)

    -- and where each move is a step, the other way
    pub reach_from_moves : ((a b p : ℕ) → Move a b p → (a < n) × (b < n) × (edge a b ≡ true)) → {u v : ℕ} {ps : List ℕ} → u < n → Walk Move u v ps → reach n edge u v ≡ true
    reach_from_moves is_step h walk = reach_from_walk h (walk_mapped is_step walk)

-- more steps reach more
pub reach_monotone : (n : ℕ) (edge wider : ℕ → ℕ → Bool) → ((a b : ℕ) → edge a b ≡ true → wider a b ≡ true) → (u v : ℕ) → reach n edge u v ≡ true → reach n wider u v ≡ true
reach_monotone n edge wider h u v e =
    reach_from_walk n wider (reach_inside n edge u v e).0 (walk_mapped (λ a b p m. (m.0, m.1, h a b m.2)) (walk_from_reach n edge u v e).1)
