-- Walks by numbered arcs of one kind, with what is known of the arcs said of the walks.
use Rattle.std.proofs.Common.{◌≡◌, ℕ, ◌<◌, ◌≤◌, Bool, true, false, ◌⊎◌, List, ◌∷◌, sym, ◌∙◌, inl, inr, arith}
use Rattle.toolkit.proofs.Walks.{walk_mapped, closed_walk_sides, no_closed_walk, walk_meets, highest_at_most}
use Rattle.game.specs.Game.{Game}
use Rattle.game.specs.Plans.{Walk, highest}
use Rattle.game.specs.Plans.Walk.{step}
use Rattle.determinacy.proofs.Subgames.{to, priority}

-- a move by an arc of one kind
abbrev pub By : Game → (ℕ → ℕ → Type 0) → ℕ → ℕ → ℕ → Type 0
By g Kind u w p = (k : ℕ) × Kind u k × (to g u k ≡ w) × (priority g u k ≡ p)

module _ (g : Game) {Kind : ℕ → ℕ → Type 0} where
  pub first_arc_lem : {u w p : ℕ} {ps : List ℕ} → Walk (By g Kind) u w (p ∷ ps) → (k : ℕ) × Kind u k
  first_arc_lem (step m walk) = (m.0, m.1)

  pub arcs_mapped : {Other : ℕ → ℕ → Type 0} {u w : ℕ} {ps : List ℕ} → ((v k : ℕ) → Kind v k → Other v k) → Walk (By g Kind) u w ps → Walk (By g Other) u w ps
  arcs_mapped f walk = walk_mapped (λ u w p m. (m.0, f u m.0 m.1, m.2, m.3)) walk

  pub arcs_low : (b : ℕ) {u w : ℕ} {ps : List ℕ} → ((v k : ℕ) → Kind v k → priority g v k ≤ b) → Walk (By g Kind) u w ps → highest ps ≤ b
  arcs_low b low walk = highest_at_most b (λ u w p m. let h = low u m.0 m.1 in let e = m.3 in omega arith) walk

  pub arcs_meet : {Other : ℕ → ℕ → Type 0} (e : ℕ) {u w : ℕ} {ps : List ℕ} → ((v k : ℕ) → Kind v k → (priority g v k ≡ e) ⊎ Other v k) → Walk (By g Kind) u w ps → (e ≤ highest ps) ⊎ Walk (By g Other) u w ps
  arcs_meet e f walk = walk_meets e (λ u w p m. elim (f u m.0 m.1) [ inl same ↦ inl (sym m.3 ∙ same) | inr o ↦ inr (m.0, o, m.2, m.3) ]) walk

  pub arcs_fall : (rank : ℕ → ℕ) → ((v k : ℕ) → Kind v k → rank (to g v k) < rank v) → {v p : ℕ} {ps : List ℕ} → Walk (By g Kind) v v (p ∷ ps) → ⊥
  arcs_fall rank falls walk = no_closed_walk rank (λ u w p m. rw m.2 at (falls u m.0 m.1)) walk

  -- a closed walk lies wholly on one side of a set that the arcs do not leave
  pub arcs_sides : (set : ℕ → Bool) → ((v k : ℕ) → Kind v k → set v ≡ true → set (to g v k) ≡ true) → {v : ℕ} {ps : List ℕ} → Walk (By g Kind) v v ps → Walk (By g (λ u k. Kind u k × (set u ≡ true) × (set (to g u k) ≡ true))) v v ps ⊎ Walk (By g (λ u k. Kind u k × (set u ≡ false) × (set (to g u k) ≡ false))) v v ps
  arcs_sides set kept walk = elim (closed_walk_sides set (λ u w p m inside. rw m.2 at (kept u m.0 m.1 inside)) walk) [
    | inl inside ↦ inl (walk_mapped (λ u w p m. (m.0.0, (m.0.1, m.1, rw m.0.2 m.2), m.0.2, m.0.3)) inside)
    | inr outside ↦ inr (walk_mapped (λ u w p m. (m.0.0, (m.0.1, m.1, rw m.0.2 m.2), m.0.2, m.0.3)) outside)
  ]
