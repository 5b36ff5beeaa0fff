-- Reachability in a finite relation.
use Rattle.std.specs.Prelude.{◌≡◌, ℕ, zero, suc, ◌<◌, Bool, true, ◌&&◌, ◌||◌, ◌↔◌, List, ◌==◌, nat_lt}
use Rattle.game.specs.Plans.{Walk}

-- From u to v by steps of the relation whose inner positions are below k: with k itself inner too, or not.
unfoldable pub via : ℕ → (ℕ → ℕ → Bool) → ℕ → ℕ → Bool
via zero edge u v = u == v || edge u v
via (suc k) edge u v = via k edge u v || (via k edge u k && via k edge k v)

-- From u to v, both below n, by any number of steps between positions below n.
unfoldable pub reach : ℕ → (ℕ → ℕ → Bool) → ℕ → ℕ → Bool
reach n edge u v = nat_lt u n && (nat_lt v n && via n edge u v)

-- A step of the relation between positions below n, as a move of any priority.
abbrev pub Joins : ℕ → (ℕ → ℕ → Bool) → ℕ → ℕ → ℕ → Type 0
Joins n edge u v p = (u < n) × (v < n) × (edge u v ≡ true)

-- The test says yes exactly if there is a walk.
abbrev pub ReachExact : ℕ → (ℕ → ℕ → Bool) → ℕ → ℕ → Type 0
ReachExact n edge u v = (reach n edge u v ≡ true) ↔ ((u < n) × ((ps : List ℕ) × Walk (Joins n edge) u v ps))
