-- The swapped game: the same moves, one priority higher, with the players exchanged.
use Rattle.std.proofs.Common.{◌≡◌, ℕ, ◌+◌, ◌%◌, ◌<◌, Bool, ltb, ◌∷◌, Some, sym, refl, ap, ◌∙◌}
use Rattle.std.specs.Option.{option_map}
use Rattle.std.proofs.lemmas.List.{length-map}
use Rattle.std.proofs.lemmas.Bool.{lt-ltb, cond-true}
use Rattle.toolkit.proofs.Walks.{walk_related_more, highest_raised, each_flipped}
use Rattle.game.specs.declared.Player.{Player}
use Rattle.game.specs.declared.Arc.{Arc}
use Rattle.game.specs.Game.{Game, rival, arc_at}
use Rattle.game.specs.Layers.{swapped, raised}
use Rattle.game.specs.Plans.{Follows, Wins, highest}
use Rattle.game.proofs.Layers.{swapped_arc, swapped_arc_reply}
use Rattle.determinacy.specs.Layers.{plan, Exchanged}
use Rattle.determinacy.proofs.Players.{rival_rival, parity_raised, parity_lowered}

module _ (g : Game) (low : g.top < 250) where
  pub swapped_size : (swapped g).size ≡ g.size
  swapped_size = cond-true (ltb g.top 250) g.size 0 (lt-ltb g.top 250 low)

  pub arc_raised : (v i : ℕ) (a : Arc) → arc_at g v i ≡ Some a → arc_at (swapped g) v i ≡ Some (raised a)
  arc_raised v i a e = swapped_arc_reply g low v i ∙ ap (option_map raised) e

  module _ (player : Player) (claims : ℕ → Bool) (choice : ℕ → ℕ) where
    back_rival : (q : Player) → rival q ≡ rival player → q ≡ player
    back_rival q e = sym (rival_rival q) ∙ ap rival e ∙ rival_rival player

    raise : (u w p : ℕ) → Follows g (plan player claims choice) u w p → (q : ℕ) × (q ≡ p + 1) × Follows (swapped g) (plan (rival player) claims choice) u w q
    raise u w p m = (
      p + 1,
      refl,
      record {
        number = m.number;
        arc = raised m.arc;
        claimed = m.claimed;
        is_arc = arc_raised u m.number m.arc m.is_arc;
        chosen = λ mine. m.chosen (back_rival (g.mover u) mine);
        leads = m.leads;
        costs = ap (λ x. x + 1) m.costs;
      },
    )

    lower : (u w q : ℕ) → Follows (swapped g) (plan (rival player) claims choice) u w q → (p : ℕ) × (q ≡ p + 1) × Follows g (plan player claims choice) u w p
    lower u w q m =
        let below = swapped_arc g u m.number m.arc m.is_arc in (
          below.0.priority,
          sym m.costs ∙ ap (λ a. a.priority) below.2,
          record {
            number = m.number;
            arc = below.0;
            claimed = m.claimed;
            is_arc = below.1;
            chosen = λ mine. m.chosen (ap rival mine);
            leads = sym (ap (λ a. a.target) below.2) ∙ m.leads;
            costs = refl;
          },
        )

    swap_wins : Wins g (plan player claims choice) → Wins (swapped g) (plan (rival player) claims choice)
    swap_wins wins = record {
      choice_is_arc = λ v claimed mine. rw length-map (wins.choice_is_arc v claimed (back_rival (g.mover v) mine));
      claims_exist = λ v claimed. rw swapped_size (wins.claims_exist v claimed);
      stays_claimed = λ u w q m. let below = lower u w q m in wins.stays_claimed u w below.0 below.2;
      closed_walks = λ v q qs walk.
          let below = walk_related_more (λ a b. a ≡ b + 1) lower walk in
          let p = below.0 in
          let ps = below.1 in
          let e = highest_raised p q ps qs (each_flipped (λ a b. a ≡ b + 1) (q ∷ qs) (p ∷ ps) below.3) in
          ap (λ x. x % 2) e ∙ parity_raised player (highest (p ∷ ps)) (wins.closed_walks v p ps below.2);
    }

    swap_back : Wins (swapped g) (plan (rival player) claims choice) → Wins g (plan player claims choice)
    swap_back wins = record {
      choice_is_arc = λ v claimed mine. rw length-map at (wins.choice_is_arc v claimed (ap rival mine));
      claims_exist = λ v claimed. rw swapped_size at (wins.claims_exist v claimed);
      stays_claimed = λ u w p m. let above = raise u w p m in wins.stays_claimed u w above.0 above.2;
      closed_walks = λ v p ps walk.
          let above = walk_related_more (λ a b. b ≡ a + 1) raise walk in
          let q = above.0 in
          let qs = above.1 in
          let e = highest_raised p q ps qs above.3 in
          parity_lowered player (highest (p ∷ ps)) (ap (λ x. x % 2) (sym e) ∙ wins.closed_walks v q qs above.2);
    }

pub exchanged : (g : Game) (player : Player) → g.top < 250 → Exchanged g player (rival player)
exchanged g player low claims choice = (swap_wins g low player claims choice, swap_back g low player claims choice)
