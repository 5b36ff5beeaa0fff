-- What the byte of a position says.
use Rattle.std.specs.Prelude.{ℕ, Bool, true, false, if◌then◌else◌, ◌==◌}
use Rattle.plans.specs.declared.choice.Choice.{Choice}
use Rattle.plans.specs.declared.choice.Choice.TheVariants.{Unclaimed, Claimed, Arc}

-- 255 is unclaimed, 254 is claimed with the other player moving, any other byte is the number of the chosen arc.
abbrev pub choice_of : ℕ → Choice
choice_of byte = if byte == 255 then Unclaimed else (if byte == 254 then Claimed else Arc byte)

-- Whether the plan's moves from the position may be by arc i.
abbrev pub allows : Choice → ℕ → Bool
allows Unclaimed i = false
allows Claimed i = true
allows (Arc chosen) i = i == chosen
