-- What holds of climbs, of ladders and of the sweeps.
use Rattle.std.specs.Prelude.{◌≡◌, ℕ, ◌+◌, ◌*◌, ◌/◌, ◌%◌, ◌≤◌, Bool, List, ◌∷◌, drop}
use Rattle.game.specs.Game.{Game, Lawful}
use Rattle.game.specs.Plans.{Walk, highest}
use Rattle.toolkit.specs.Laws.{Passing}
use Rattle.heights.specs.Climb.{lost, climb}
use Rattle.heights.specs.Heights.{LeastClosed}
use Rattle.heights.specs.Sweeps.{height_in, zeroed, Swept, Takes}
use Rattle.heights.specs.Ladder.{Ladder, Keeps}

-- A climb by a step of at most n^k is monotone and at most T; any climb keeps T, and one by priority 0 changes nothing.
pub record ClimbLaws (n r k : ℕ) : Type 0 where
  pub monotone : (x y p : ℕ) → x ≤ y → y ≤ lost n r → p / 2 ≤ k → climb n r x p ≤ climb n r y p
  pub at_most : (x p : ℕ) → p / 2 ≤ k → climb n r x p ≤ lost n r
  pub keeps_lost : (p : ℕ) → climb n r (lost n r) p ≡ lost n r
  pub by_zero : (x : ℕ) → x ≤ lost n r → climb n r x 0 ≡ x

-- Whatever the moves: if heights on the ladder keep each of them, every closed walk of them has an even highest priority.
abbrev pub Sound : {Value : Type 0} → ℕ → Ladder Value → Type 0
Sound {Value} limit l =
    (height : ℕ → Value) (moves : ℕ → ℕ → ℕ → Bool) →
    ((v w p : ℕ) → Passing moves v w p → Keeps limit l (height v) (height w) p) →
    (v p : ℕ) (ps : List ℕ) → Walk (Passing moves) v v (p ∷ ps) → highest (p ∷ ps) % 2 ≡ 0

-- From all zeros the sweeps come to an end, in the least closed heights, after at most T raises for each position. Other cells stay.
pub record SweepsEnd (n r : ℕ) (g : Game) (cells : List ℕ) : Type 0 where
  pub ends : (last : List ℕ) × (raises : ℕ) × Swept n r g (zeroed g.size cells) last raises
  pub least : (last : List ℕ) (raises : ℕ) → Swept n r g (zeroed g.size cells) last raises → LeastClosed n r g (height_in last)
  pub few_raises : (last : List ℕ) (raises : ℕ) → Swept n r g (zeroed g.size cells) last raises → raises ≤ g.size * lost n r
  pub others_stay : (last : List ℕ) (raises : ℕ) → Swept n r g (zeroed g.size cells) last raises → drop g.size last ≡ drop g.size cells

-- How many raises the sweeps from all zeros take: what lies behind the positions' cells does not matter, there is one such number and no
-- other, and it is at most T for each position.
pub record SweepsTake : Type 0 where
  pub any_cells : (n r : ℕ) (g : Game) (cells last : List ℕ) (raises : ℕ) → Lawful g → Swept n r g (zeroed g.size cells) last raises → Takes n r g raises
  pub one : (n r : ℕ) (g : Game) (a b : ℕ) → Takes n r g a → Takes n r g b → a ≡ b
  pub some : (n r : ℕ) (g : Game) → 1 ≤ n → Lawful g → g.top ≤ 2 * r + 1 → (raises : ℕ) × Takes n r g raises
  pub few : (n r : ℕ) (g : Game) (raises : ℕ) → 1 ≤ n → Lawful g → g.top ≤ 2 * r + 1 → Takes n r g raises → raises ≤ g.size * lost n r
