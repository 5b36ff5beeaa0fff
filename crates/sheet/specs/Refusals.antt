-- Why a sheet is refused: the number and place of each fault, and when it is given. The faults are tested in this order, positions
-- and records ascending, so each is given only where none before it applies.
use Rattle.std.specs.Prelude.{◌≡◌, ℕ, ◌+◌, ◌*◌, ◌<◌, ◌≤◌, ◌⊎◌, List, ◌++◌, length, ◌≢◌}
use Rattle.std.specs.List.{concat}
use Rattle.game.specs.Lowest.{LowestWithout}
use Rattle.sheet.specs.declared.fault.SheetFault.{SheetFault}
use Rattle.sheet.specs.declared.fault.SheetFault.TheVariants.{Short, Version, Large, Length, Position, Record, Repeated, Unused}
use Rattle.sheet.specs.Layout.{byte, positions, records, first_record, Opened, Sized, Headed, Placed, Recorded, PositionFits, RecordFits}
use Rattle.sheet.specs.Chains.{Leads, Chains, occurrences}

abbrev pub number_of : SheetFault → ℕ
number_of Short = 1
number_of Version = 2
number_of Large = 3
number_of Length = 4
number_of (Position v) = 5
number_of (Record k) = 6
number_of (Repeated k) = 7
number_of (Unused k) = 8

abbrev pub place_of : SheetFault → ℕ
place_of Short = 0
place_of Version = 0
place_of Large = 0
place_of Length = 0
place_of (Position v) = v
place_of (Record k) = k
place_of (Repeated k) = k
place_of (Unused k) = k

-- Going through the chains from position 0's on, and having come to no record twice, one comes to record k again: after the whole
-- chains of the positions before some position, and the begun chain of that one.
pub record ComesAgain (s : List ℕ) (k : ℕ) : Type 0 where
  pub position : ℕ
  pub before : List (List ℕ)
  pub begun : List ℕ
  pub position_there : position < positions s
  pub whole : Chains s position before
  pub leads : Leads s (first_record s position) begun k
  pub record_there : 1 ≤ k
  pub once : (j : ℕ) → 1 ≤ j → j ≤ records s → occurrences j (concat before ++ begun) ≤ 1
  pub again : occurrences k (concat before ++ begun) ≡ 1

-- Going through all chains one comes to no record twice, and to record k not at all, the lowest such record.
pub record NeverComes (s : List ℕ) (k : ℕ) : Type 0 where
  pub chains : List (List ℕ)
  pub whole : Chains s (positions s) chains
  pub once : (j : ℕ) → 1 ≤ j → j ≤ records s → occurrences j (concat chains) ≤ 1
  pub lowest : LowestWithout (λ j. occurrences j (concat chains) ≡ 1) 1 (records s + 1) k

-- When each fault is given.
abbrev pub Refuses : List ℕ → SheetFault → Type 0
Refuses s Short = length s < 4
Refuses s Version = (4 ≤ length s) × ((byte s 0 ≢ 1) ⊎ (byte s 3 ≢ 0))
Refuses s Large = Opened s × ((16 < positions s) ⊎ (48 < records s))
Refuses s Length = Sized s × (length s ≢ 4 + 6 * positions s + 3 * records s)
Refuses s (Position v) = Headed s × LowestWithout (PositionFits s) 0 (positions s) v
Refuses s (Record k) = Placed s × LowestWithout (RecordFits s) 1 (records s + 1) k
Refuses s (Repeated k) = Recorded s × ComesAgain s k
Refuses s (Unused k) = Recorded s × NeverComes s k
