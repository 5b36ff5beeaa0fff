-- The limits of a case, and how many registers and cells a solve takes, all judged on the arena as opened.
use Rattle.std.specs.Prelude.{◌≡◌, ℕ, ◌+◌, ◌*◌, ◌≤◌, Bool, cond, ◌&&◌, ◌⊎◌, nat_le}
use Rattle.game.specs.Game.{Game}
use Rattle.rows.specs.Choose.{choose}
use Rattle.registers.specs.Layer.{arc_total}
use Rattle.case_rules.specs.Binary.{binary_digits}

-- At most 16 positions, top at most 8, and at most 64 arcs altogether.
abbrev pub within : Game → Bool
within g = nat_le g.size 16 && nat_le g.top 8 && nat_le (arc_total g) 64

-- How many registers are needed: as many as the number of positions has binary digits; outside the limits none.
abbrev pub needed : Game → ℕ
needed g = cond (within g) (binary_digits g.size) 0

-- How many cells r registers take.
abbrev pub cells_for : Game → ℕ → ℕ
cells_for g r = (g.size + arc_total g) * choose (g.top + 1 + r) r

-- So many registers are used: the most, of at most both wanted and needed, that are none or whose cells fit in the buffer.
abbrev pub Fitting : Game → ℕ → ℕ → ℕ → Type 0
Fitting g wanted room r = (r ≤ wanted) × (r ≤ needed g) × ((r ≡ 0) ⊎ (cells_for g r ≤ room))

pub record IsUsed (g : Game) (wanted room used : ℕ) : Type 0 where
  pub fitting : Fitting g wanted room used
  pub most : (r : ℕ) → Fitting g wanted room r → r ≤ used
