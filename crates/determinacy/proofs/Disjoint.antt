-- No position is claimed by winning plans of both players.
use Rattle.std.proofs.Common.{◌≡◌, ℕ, ◌<◌, true, length, sym, refl, ap, ◌∙◌, inl, inr}
use Rattle.std.proofs.lemmas.Bool.{cases_Bool}
use Rattle.toolkit.proofs.Walks.{walk_mapped, some_closed_walk}
use Rattle.game.specs.declared.Player.{Player}
use Rattle.game.specs.Game.{Game, rival, parity}
use Rattle.game.specs.Plans.{Plan, Follows, Wins}
use Rattle.determinacy.specs.Statements.{Disjoint, same}
use Rattle.determinacy.proofs.Players.{cases_player, not_both, parities_differ, same_true, same_from}
use Rattle.determinacy.proofs.Subgames.{arc, arc_known, to, priority, merged, merged_inside, merged_outside}

module _ (g : Game) (player : Player) (s t : Plan) (s_wins : Wins g s) (t_wins : Wins g t) (s_is : s.player ≡ player) (t_is : t.player ≡ rival player) where
  abbrev Claimed : ℕ → Type 0
  Claimed u = (s.claims u ≡ true) × (t.claims u ≡ true)

  -- a move that follows both plans
  abbrev Both : ℕ → ℕ → ℕ → Type 0
  Both u w p = Follows g s u w p × Follows g t u w p

  -- the choice of the one of the two whose player moves
  number : ℕ → ℕ
  number = merged (λ u. same (g.mover u) player) s.choice t.choice

  number_mine : (u : ℕ) → g.mover u ≡ player → number u ≡ s.choice u
  unfolding number
  number_mine u mine = merged_inside (λ u. same (g.mover u) player) s.choice t.choice u (same_from (g.mover u) player mine)

  number_theirs : (u : ℕ) → g.mover u ≡ rival player → number u ≡ t.choice u
  unfolding number
  number_theirs u theirs = merged_outside (λ u. same (g.mover u) player) s.choice t.choice u (elim (cases_Bool (same (g.mover u) player)) [
    | inl e ↦ absurd (not_both (g.mover u) player (same_true (g.mover u) player e) theirs)
    | inr e ↦ e
  ])

  number_is_arc : (u : ℕ) → Claimed u → number u < length (g.arcs u)
  number_is_arc u (a, b) = elim (cases_player (g.mover u) player) [
    | inl mine ↦ rw (number_mine u mine) (s_wins.choice_is_arc u a (mine ∙ sym s_is))
    | inr theirs ↦ rw (number_theirs u theirs) (t_wins.choice_is_arc u b (theirs ∙ sym t_is))
  ]

  follow : (r : Plan) (u : ℕ) → r.claims u ≡ true → (g.mover u ≡ r.player → number u ≡ r.choice u) → u < g.size → number u < length (g.arcs u) → Follows g r u (to g u (number u)) (priority g u (number u))
  unfolding to priority
  follow r u claimed chosen h l = record {
    number = number u;
    arc = arc g u (number u);
    claimed = claimed;
    is_arc = arc_known g u (number u) h l;
    chosen = chosen;
    leads = refl;
    costs = refl;
  }

  both : (u : ℕ) → Claimed u → Both u (to g u (number u)) (priority g u (number u))
  both u (a, b) =
      let h = s_wins.claims_exist u a in
      let l = number_is_arc u (a, b) in
      (follow s u a (λ m. number_mine u (m ∙ s_is)) h l, follow t u b (λ m. number_theirs u (m ∙ t_is)) h l)

  never_both : (v : ℕ) → Claimed v → ⊥
  never_both v claimed =
      let found = some_closed_walk {Move = Both} {In = Claimed} (λ u. to g u (number u)) goes g.size (λ u c. s_wins.claims_exist u c.0) v claimed in
      let u = found.0 in
      let p = found.1 in
      let ps = found.2 in
      let mine = s_wins.closed_walks u p ps (walk_mapped (λ a b q m. m.0) found.3) in
      let theirs = t_wins.closed_walks u p ps (walk_mapped (λ a b q m. m.1) found.3) in
      parities_differ player (sym (ap parity s_is) ∙ sym mine ∙ theirs ∙ ap parity t_is)
    where
      goes : (u : ℕ) → Claimed u → (p : ℕ) × Both u (to g u (number u)) p × Claimed (to g u (number u))
      goes u claimed =
          let moves = both u claimed in
          let w = to g u (number u) in
          let p = priority g u (number u) in
          (p, moves, (s_wins.stays_claimed u w p moves.0, t_wins.stays_claimed u w p moves.1))

-- whatever the game, lawful or not
pub disjoint : (g : Game) (player : Player) → Disjoint g player (rival player)
disjoint g player v (s, s_wins, s_is, s_claims) (t, t_wins, t_is, t_claims) = never_both g player s t s_wins t_wins s_is t_is v (s_claims, t_claims)
