-- The players as bytes and as words.
use Rattle.std.specs.Prelude.{◌≡◌, ℕ, ◌<◌, List, Result, MatchResult, codes}
use Rattle.game.specs.declared.Player.{Player}
use Rattle.game.specs.declared.Player.TheVariants.{Even, Odd}
use Rattle.game.specs.declared.NoPlayer.{NoPlayer}
use Rattle.game.specs.Game.{parity}

-- The byte of a player, in sheets and in plans: the parity of the priorities that it wins by.
abbrev pub byte_of : Player → ℕ
byte_of = parity

-- The result is the player with this byte, or an error with a byte that is neither player's.
abbrev pub Decodes : ℕ → Result Player NoPlayer → Type 0
Decodes byte r = MatchResult r (λ player. byte_of player ≡ byte) (λ e. (e.0 ≡ byte) × (1 < byte))

-- The word that a program prints for a player.
abbrev pub word_of : Player → List ℕ
word_of Even = codes "even"
word_of Odd = codes "odd"
