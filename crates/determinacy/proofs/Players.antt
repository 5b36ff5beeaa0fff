-- The two players.
use Rattle.std.proofs.Common.{◌≡◌, ℕ, ◌+◌, ◌%◌, true, ◌⊎◌, inl, inr, arith}
use Rattle.std.proofs.lemmas.Bool.{cases_eq}
use Rattle.game.specs.declared.Player.{Player}
use Rattle.game.specs.declared.Player.TheVariants.{Even, Odd}
use Rattle.game.specs.Game.{rival, parity}
use Rattle.determinacy.specs.Statements.{same}

pub rival_rival : (p : Player) → rival (rival p) ≡ p
rival_rival p = grind arith

pub parities_differ : (p : Player) → parity p ≡ parity (rival p) → ⊥
parities_differ p e = grind arith

-- a player is this one or the rival, and not both
pub cases_player : (q p : Player) → (q ≡ p) ⊎ (q ≡ rival p)
cases_player q p = grind arith

pub not_both : (q p : Player) → q ≡ p → q ≡ rival p → ⊥
not_both q p e r = grind arith

pub same_true : (q p : Player) → same q p ≡ true → q ≡ p
same_true q p e = grind arith

pub same_from : (q p : Player) → q ≡ p → same q p ≡ true
same_from q p e = grind arith

-- each number has the parity of one of the players
pub player_of_lem : (e : ℕ) → (p : Player) × (e % 2 ≡ parity p)
player_of_lem e = elim (cases_eq (e % 2) 0) [ inl even ↦ (Even, even) | inr odd ↦ (Odd, omega arith) ]

-- one more turns the parity
pub parity_raised : (p : Player) (x : ℕ) → x % 2 ≡ parity p → (x + 1) % 2 ≡ parity (rival p)
parity_raised p x e = grind arith

pub parity_lowered : (p : Player) (x : ℕ) → (x + 1) % 2 ≡ parity (rival p) → x % 2 ≡ parity p
parity_lowered p x e = grind arith
