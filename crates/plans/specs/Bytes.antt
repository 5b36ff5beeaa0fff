-- The bytes of a plan: its player (0 Even, 1 Odd), the number of positions, and one byte for each position.
use Rattle.std.specs.Prelude.{◌≡◌, ℕ, ◌+◌, ◌<◌, ◌≤◌, cond, not, ◌&&◌, ◌⊎◌, List, length, ◌==◌, nat_lt, slice_index}
use Rattle.game.specs.declared.Player.{Player}
use Rattle.game.specs.declared.Player.TheVariants.{Even, Odd}
use Rattle.game.specs.Game.{Game, rival}
use Rattle.game.specs.Plans.{Plan}

abbrev pub byte : List ℕ → ℕ → ℕ
byte bytes i = slice_index bytes i

abbrev pub player_of : List ℕ → Player
player_of bytes = cond (byte bytes 0 == 0) Even Odd

-- The byte of position v: 255 is unclaimed, 254 is claimed with the other player moving, else it is the number of the chosen arc.
abbrev pub choice_byte : List ℕ → ℕ → ℕ
choice_byte bytes v = byte bytes (v + 2)

-- The plan, for n positions, that the bytes stand for.
abbrev pub plan_of : ℕ → List ℕ → Plan
plan_of n bytes = record {
  player = player_of bytes;
  claims = λ v. nat_lt v n && not (choice_byte bytes v == 255);
  choice = λ v. choice_byte bytes v;
}

-- The first two bytes are as they should be, and there are just as many bytes as there should.
pub record Headed (n : ℕ) (bytes : List ℕ) : Type 0 where
  pub whole : length bytes ≡ n + 2
  pub player : byte bytes 0 ≤ 1
  pub positions : byte bytes 1 ≡ n

-- The byte of a position fits: where the plan's player moves it is 255 or the number of an arc, where the other moves 254 or 255.
pub record ChoiceFits (g : Game) (bytes : List ℕ) (v : ℕ) : Type 0 where
  pub own : g.mover v ≡ player_of bytes → (choice_byte bytes v ≡ 255) ⊎ (choice_byte bytes v < length (g.arcs v))
  pub other : g.mover v ≡ rival (player_of bytes) → (choice_byte bytes v ≡ 254) ⊎ (choice_byte bytes v ≡ 255)

-- The bytes are a plan for the game.
pub record WellFormed (g : Game) (bytes : List ℕ) : Type 0 where
  pub headed : Headed g.size bytes
  pub each_choice : (v : ℕ) → v < g.size → ChoiceFits g bytes v
