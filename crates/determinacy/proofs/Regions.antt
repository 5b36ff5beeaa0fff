-- What follows from the split of the whole game.
use Rattle.std.proofs.Common.{◌≡◌, ℕ, ◌<◌, true, ltb, ◌⊎◌, refl, inl, inr}
use Rattle.std.proofs.lemmas.Bool.{lt-ltb, and_from}
use Rattle.game.specs.declared.Player.{Player}
use Rattle.game.specs.declared.Player.TheVariants.{Even, Odd}
use Rattle.game.specs.Game.{Game, Lawful, rival}
use Rattle.game.specs.Plans.{Plan, Wins, Winnable, Belongs}
use Rattle.determinacy.specs.Statements.{same, share, EachBelongs, RivalsExclude, WinsRegion}
use Rattle.determinacy.proofs.Players.{cases_player, same_from}
use Rattle.determinacy.proofs.Determined.{determined}
use Rattle.determinacy.proofs.Disjoint.{disjoint}

-- what a winning plan of the player claims belongs to the player
pub belongs_from : (g : Game) (player : Player) (v : ℕ) → Winnable g player v → Belongs g player v
belongs_from g player v mine = record { winnable = mine; not_rivals = disjoint g player v mine }

module _ (g : Game) (lawful : Lawful g) where
  owner : ℕ → Player
  owner = (determined g lawful).0

  choice : ℕ → ℕ
  choice = (determined g lawful).1

  share_wins : (player : Player) → Wins g (share g owner choice player)
  unfolding owner choice
  share_wins = (determined g lawful).2

  owned_winnable : (player : Player) (v : ℕ) → v < g.size → owner v ≡ player → Winnable g player v
  owned_winnable player v h mine =
      (share g owner choice player, share_wins player, refl, and_from (ltb v g.size) (same (owner v) player) (lt-ltb v g.size h) (same_from (owner v) player mine))

  -- one of the two players can win
  pub winnable_or_rivals : (player : Player) (v : ℕ) → v < g.size → Winnable g player v ⊎ Winnable g (rival player) v
  winnable_or_rivals player v h = elim (cases_player (owner v) player) [
    | inl mine ↦ inl (owned_winnable player v h mine)
    | inr theirs ↦ inr (owned_winnable (rival player) v h theirs)
  ]

  winnable_claimed : (player : Player) (v : ℕ) → Winnable g player v → (share g owner choice player).claims v ≡ true
  winnable_claimed player v mine =
      let h = mine.1.claims_exist v mine.3 in
      elim (cases_player (owner v) player) [
        | inl e ↦ and_from (ltb v g.size) (same (owner v) player) (lt-ltb v g.size h) (same_from (owner v) player e)
        | inr e ↦ absurd (disjoint g player v mine (owned_winnable (rival player) v h e))
      ]

pub each_belongs : (g : Game) → Lawful g → EachBelongs g
each_belongs g lawful v h = elim (winnable_or_rivals g lawful Even v h) [
  | inl even ↦ inl (belongs_from g Even v even)
  | inr odd ↦ inr (belongs_from g Odd v odd)
]

pub rivals_exclude_lem : (g : Game) → Lawful g → RivalsExclude g
rivals_exclude_lem g lawful player v h = (
  disjoint g player v,
  λ none. elim (winnable_or_rivals g lawful player v h) [ inl mine ↦ mine | inr theirs ↦ absurd (none theirs) ],
)

pub region_won_lem : (g : Game) (player : Player) → Lawful g → (s : Plan) × WinsRegion g player s
region_won_lem g player lawful = (
  share g (owner g lawful) (choice g lawful) player,
  record {
    wins = share_wins g lawful player;
    is_players = refl;
    claims_region = λ v. (
      λ claimed. (share g (owner g lawful) (choice g lawful) player, share_wins g lawful player, refl, claimed),
      winnable_claimed g lawful player v,
    );
  },
)
