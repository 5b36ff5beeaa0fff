-- Why bytes are refused as a plan: the number and place of each fault, and when it is given. The faults are tested in this order,
-- positions ascending, so each is given only where none before it applies.
use Rattle.std.specs.Prelude.{◌≡◌, ℕ, ◌+◌, ◌<◌, ◌≤◌, List, length, ◌≢◌}
use Rattle.game.specs.Game.{Game}
use Rattle.game.specs.Lowest.{LowestWithout}
use Rattle.plans.specs.declared.fault.PlanFault.{PlanFault}
use Rattle.plans.specs.declared.fault.PlanFault.TheVariants.{Length, Owner, Size, Choice}
use Rattle.plans.specs.Bytes.{byte, Headed, ChoiceFits}

abbrev pub number_of : PlanFault → ℕ
number_of Length = 20
number_of Owner = 21
number_of Size = 22
number_of (Choice v) = 23

abbrev pub place_of : PlanFault → ℕ
place_of Length = 0
place_of Owner = 0
place_of Size = 0
place_of (Choice v) = v

-- When each fault is given.
abbrev pub Refuses : Game → List ℕ → PlanFault → Type 0
Refuses g bytes Length = length bytes ≡ g.size + 2 → ⊥
Refuses g bytes Owner = (length bytes ≡ g.size + 2) × (1 < byte bytes 0)
Refuses g bytes Size = (length bytes ≡ g.size + 2) × (byte bytes 0 ≤ 1) × (byte bytes 1 ≢ g.size)
Refuses g bytes (Choice v) = Headed g.size bytes × LowestWithout (ChoiceFits g bytes) 0 g.size v
