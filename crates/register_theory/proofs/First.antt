-- The first plan: holding an arc asks whether some winning plan has it, and choices made in turn give the first plan.
use Rattle.std.proofs.Common.{◌≡◌, ℕ, zero, suc, ◌<◌, ◌≤◌, true, ltb, ◌⊎◌, ◌↔◌, List, Option, sym, refl, ap, ◌∙◌, subst, inl, inr, arith}
use Rattle.std.proofs.lemmas.Bool.{cases_Bool, cases_eq, both_ways, cond-true, lt-ltb}
use Rattle.game.specs.declared.Player.{Player}
use Rattle.game.specs.declared.Player.TheVariants.{Even, Odd}
use Rattle.game.specs.Game.{Game, Lawful, parity}
use Rattle.game.specs.Layers.{swapped, held}
use Rattle.game.specs.Plans.{Plan, Follows, Wins, Winnable}
use Rattle.game.proofs.Layers.{held_lawful, swapped_lawful}
use Rattle.toolkit.proofs.Search.{seek_least}
use Rattle.toolkit.proofs.Walks.{walk_mapped}
use Rattle.determinacy.specs.Statements.{WinsRegion}
use Rattle.determinacy.specs.Layers.{OwnEntries, renumbered, numbered_back}
use Rattle.determinacy.proofs.Players.{cases_player, not_both}
use Rattle.determinacy.proofs.Regions.{region_won_lem}
use Rattle.determinacy.proofs.Hold.{gives_nothing, wins_held_lem, wins_below_lem}
use Rattle.register_theory.specs.First.{solved_for, KeptFor, Solvable, KeepsAll, SomePlanAgrees, Own, SameBelow, FirstPlan}
use Rattle.register_theory.proofs.Sound.{kept_is_won_lem, kept_swapped_is_won_lem, winnable_above}
use Rattle.register_theory.proofs.Complete.{won_is_kept_lem}
use Rattle.register_theory.proofs.Groups.{swapped_small}

-- the game that is solved for a player has the positions of the game
pub solved_size : (g : Game) (player : Player) → g.top < 250 → (solved_for player g).size ≡ g.size
solved_size g Even low = refl
solved_size g Odd low = cond-true (ltb g.top 250) g.size 0 (lt-ltb g.top 250 low)

-- where the verdicts are exact, the player can win what is kept for the player
pub kept_for_exact : (r : ℕ) (g : Game) (player : Player) → Lawful g → Solvable r g player → (v : ℕ) → v < g.size → Winnable g player v ↔ KeptFor r g player v
kept_for_exact r g Even lawful solvable v h = (
  won_is_kept_lem r g lawful solvable.layer_stands solvable.small v,
  λ kept. (kept_is_won_lem r g lawful solvable.layer_stands v h kept).winnable,
)
kept_for_exact r g Odd lawful solvable v h = (
  λ won. won_is_kept_lem r (swapped g) (swapped_lawful g lawful) solvable.layer_stands (swapped_small r g solvable.swaps solvable.small) v (winnable_above g solvable.swaps v won),
  λ kept. (kept_swapped_is_won_lem r g lawful solvable.swaps solvable.layer_stands v h kept).winnable,
)

module _ (entries : List (Option ℕ)) (g : Game) (player : Player) (lawful : Lawful g) (own : OwnEntries entries g player) where
  -- a plan that agrees with the entries wins on the held game
  pub winnable_held : SomePlanAgrees entries g player → (v : ℕ) → Winnable g player v → Winnable (held entries g) player v
  winnable_held (s, region, agrees) v won =
      (renumbered entries g s, wins_held_lem g entries s region.wins agrees, region.is_players, (region.claims_region v).1 won)

  -- and if all can be won there, the plan that wins it all there is one on the game
  pub plan_agrees : ((v : ℕ) → Winnable g player v → Winnable (held entries g) player v) → SomePlanAgrees entries g player
  plan_agrees all =
      let (t, region) = region_won_lem (held entries g) player (held_lawful entries g lawful) in
      let own_t : OwnEntries entries g t.player = subst (λ (q : Player). OwnEntries entries g q) (sym region.is_players) own in
      let below = wins_below_lem g entries t own_t region.wins in (
        numbered_back entries g t,
        record {
          wins = below.0;
          is_players = region.is_players;
          claims_region = λ v. (λ claimed. gives_nothing g entries player own v ((region.claims_region v).0 claimed), λ won. (region.claims_region v).1 (all v won));
        },
        below.1,
      )

  pub keeps_all_exact : (r : ℕ) → Solvable r (held entries g) player → KeepsAll r entries g player ↔ SomePlanAgrees entries g player
  keeps_all_exact r solvable = (
    λ keeps. plan_agrees (λ v won. (exact v won).1 (keeps v won)),
    λ agrees v won. (exact v won).0 (winnable_held agrees v won),
  )
    where
      exact : (v : ℕ) → Winnable g player v → Winnable (held entries g) player v ↔ KeptFor r (held entries g) player v
      exact v won = kept_for_exact r (held entries g) player (held_lawful entries g lawful) solvable v (won.1.claims_exist v won.3)

-- The plan's choices were made one after the other: each is one that some plan which wins the region has after the choices before it, and the
-- smallest of these.
pub record ChosenInTurn (g : Game) (player : Player) (s : Plan) : Type 0 where
  pub is_players : s.player ≡ player
  pub claims_region : (v : ℕ) → (s.claims v ≡ true) ↔ Winnable g player v
  pub possible : (v : ℕ) → Own g s v → (t : Plan) × WinsRegion g player t × SameBelow g s t (suc v)
  pub smallest : (v : ℕ) → Own g s v → (t : Plan) → WinsRegion g player t → SameBelow g s t v → s.choice v ≤ t.choice v

-- plans with the same claims and the same choices win alike
module _ (g : Game) (s t : Plan) (player : s.player ≡ t.player) (claims : (v : ℕ) → s.claims v ≡ true → t.claims v ≡ true) (back : (v : ℕ) → t.claims v ≡ true → s.claims v ≡ true) (same : SameBelow g s t g.size) (wins : Wins g t) where
  alike_move : (v w p : ℕ) → Follows g s v w p → Follows g t v w p
  alike_move v w p m = record {
    number = m.number;
    arc = m.arc;
    claimed = claims v m.claimed;
    is_arc = m.is_arc;
    chosen = λ mine. m.chosen (mine ∙ sym player) ∙ sym (same v (wins.claims_exist v (claims v m.claimed)) (m.claimed, mine ∙ sym player));
    leads = m.leads;
    costs = m.costs;
  }

  pub alike_wins : Wins g s
  alike_wins = record {
    choice_is_arc = λ v claimed mine. rw (← same v (wins.claims_exist v (claims v claimed)) (claimed, mine)) (wins.choice_is_arc v (claims v claimed) (mine ∙ player));
    claims_exist = λ v claimed. wins.claims_exist v (claims v claimed);
    stays_claimed = λ v w p m. back w (wins.stays_claimed v w p (alike_move v w p m));
    closed_walks = λ v p ps walk. wins.closed_walks v p ps (walk_mapped alike_move walk) ∙ sym (ap parity player);
  }

module _ (g : Game) (player : Player) (lawful : Lawful g) (s : Plan) (turn : ChosenInTurn g player s) where
  -- some plan that wins the region has the choices below any position
  goes_on : (m : ℕ) → (t : Plan) × WinsRegion g player t × SameBelow g s t m
  goes_on zero = let (t, region) = region_won_lem g player lawful in (t, region, λ u h own. absurd (omega arith))
  goes_on (suc m) = elim (cases_Bool (s.claims m)) [
    | inl claimed ↦ elim (cases_player (g.mover m) s.player) [
      | inl mine ↦ turn.possible m (claimed, mine)
      | inr theirs ↦ let (t, region, same) = goes_on m in (t, region, wider t same (λ own. not_both (g.mover m) s.player own.1 theirs))
    ]
    | inr out ↦ let (t, region, same) = goes_on m in (t, region, wider t same (λ own. both_ways (s.claims m) out own.0))
  ]
    where
      wider : (t : Plan) → SameBelow g s t m → (Own g s m → ⊥) → SameBelow g s t (suc m)
      wider t same none u h own = elim (cases_eq u m) [ inl e ↦ absurd (none (subst (λ x. Own g s x) e own)) | inr apart ↦ same u (omega arith) own ]

  turn_wins : WinsRegion g player s
  turn_wins =
      let (t, region, same) = goes_on g.size in
      record {
        wins = alike_wins g s t (turn.is_players ∙ sym region.is_players) (λ v c. (region.claims_region v).1 ((turn.claims_region v).0 c)) (λ v c. (turn.claims_region v).1 ((region.claims_region v).0 c)) same region.wins;
        is_players = turn.is_players;
        claims_region = turn.claims_region;
      }

  pub turn_first : FirstPlan g player s
  turn_first = record {
    wins_region = turn_wins;
    before_others = λ t region. elim (seek_least {P = λ u. Own g s u × (t.choice u ≡ s.choice u → ⊥)} {Q = λ u. Own g s u → t.choice u ≡ s.choice u} g.size (λ u h. look t u)) [
      | inr same ↦ inl (λ u h own. same u h own)
      | inl found ↦
          let v = found.0 in
          let below = λ (u : ℕ) (h : u < v) (own : Own g s u). found.3 u h own in
          let least = turn.smallest v found.2.0 t region below in
          let apart = found.2.1 in
          inr (record { place = v; own = found.2.0; same_below = below; smaller = omega arith })
    ];
  }
    where
      look : (t : Plan) (u : ℕ) → (Own g s u × (t.choice u ≡ s.choice u → ⊥)) ⊎ (Own g s u → t.choice u ≡ s.choice u)
      look t u = elim (cases_eq (t.choice u) (s.choice u)) [
        | inl same ↦ inr (λ own. same)
        | inr apart ↦ elim (cases_Bool (s.claims u)) [
          | inr out ↦ inr (λ own. absurd (both_ways (s.claims u) out own.0))
          | inl claimed ↦ elim (cases_player (g.mover u) s.player) [
            | inl mine ↦ inl ((claimed, mine), apart)
            | inr theirs ↦ inr (λ own. absurd (not_both (g.mover u) s.player own.1 theirs))
          ]
        ]
      ]
