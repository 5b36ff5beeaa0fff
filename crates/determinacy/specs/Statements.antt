-- What is shown of every lawful game.
use Rattle.std.specs.Prelude.{◌≡◌, ℕ, ◌<◌, Bool, true, false, ◌&&◌, ◌⊎◌, ◌↔◌, nat_lt}
use Rattle.game.specs.declared.Player.{Player}
use Rattle.game.specs.declared.Player.TheVariants.{Even, Odd}
use Rattle.game.specs.Game.{Game, rival}
use Rattle.game.specs.Plans.{Plan, Wins, Winnable, Belongs}

-- No position is claimed by a winning plan of the one player and by a winning plan of the other.
abbrev pub Disjoint : Game → Player → Player → Type 0
Disjoint g one other = (v : ℕ) → Winnable g one v → Winnable g other v → ⊥

abbrev pub same : Player → Player → Bool
same Even Even = true
same Even Odd = false
same Odd Even = false
same Odd Odd = true

-- Where owner divides the positions between the players, the plan of one of them: it claims exactly what is its own.
abbrev pub share : Game → (ℕ → Player) → (ℕ → ℕ) → Player → Plan
share g owner choice player = record { player = player; claims = λ v. nat_lt v g.size && same (owner v) player; choice = choice }

-- The positions can be divided between the players so that each player has one winning plan that claims exactly its own.
abbrev pub Determined : Game → Type 0
Determined g = (owner : ℕ → Player) × (choice : ℕ → ℕ) × ((player : Player) → Wins g (share g owner choice player))

-- Each position belongs to one of the players.
abbrev pub EachBelongs : Game → Type 0
EachBelongs g = (v : ℕ) → v < g.size → Belongs g Even v ⊎ Belongs g Odd v

-- A player can win from a position exactly if the rival cannot.
abbrev pub RivalsExclude : Game → Type 0
RivalsExclude g = (player : Player) (v : ℕ) → v < g.size → Winnable g player v ↔ (Winnable g (rival player) v → ⊥)

-- A winning plan of the player that claims exactly the player's region: every position that some winning plan of the player claims.
pub record WinsRegion (g : Game) (player : Player) (s : Plan) : Type 0 where
  pub wins : Wins g s
  pub is_players : s.player ≡ player
  pub claims_region : (v : ℕ) → (s.claims v ≡ true) ↔ Winnable g player v
