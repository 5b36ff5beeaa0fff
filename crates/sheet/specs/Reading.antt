-- What the steps of reading keep.
use Rattle.std.specs.Prelude.{◌≡◌, ℕ, ◌+◌, ◌<◌, ◌≤◌, Bool, true, false, List, Option, IfSome, map, replicate, slice_index_or, unwrap_or}
use Rattle.std.specs.List.{concat}
use Rattle.game.specs.declared.Arc.{Arc}
use Rattle.table.specs.Sites.{Site}
use Rattle.sheet.specs.declared.fault.SheetFault.TheVariants.{Short, Version, Large, Length, Position, Record, Repeated, Unused}
use Rattle.sheet.specs.declared.fault.ReadFault.{ReadFault}
use Rattle.sheet.specs.declared.fault.ReadFault.TheVariants.{Refused, Memory}
use Rattle.sheet.specs.Layout.{first_record}
use Rattle.sheet.specs.Chains.{Leads, Chains, occurrences, arc_of, site_at, described}
use Rattle.sheet.specs.Refusals.{Refuses}

-- The number of a record, or 0 where there is none.
abbrev pub number : Option ℕ → ℕ
number found = unwrap_or found 0

-- A record, if there is one, is numbered from 1.
abbrev pub FromOne : Option ℕ → Type 0
FromOne found = IfSome found (λ k. 1 ≤ k)

abbrev pub bit : Bool → ℕ
bit true = 1
bit false = 0

-- Of 49 marks, one for each record number, those of the records ks have been added, none of which had one before.
pub record MarksAdded (old new : List Bool) (ks : List ℕ) : Type 0 where
  pub each : (k : ℕ) → k < 49 → bit (slice_index_or new k false) ≡ bit (slice_index_or old k false) + occurrences k ks

-- The chain that begins at record first was read to its end.
pub record ChainRead (s : List ℕ) (first : ℕ) (old new : List Bool) (arcs : List Arc) : Type 0 where
  pub chain : List ℕ
  pub ended : Leads s first chain 0
  pub marked : MarksAdded old new chain
  pub arcs_are : arcs ≡ map (arc_of s) chain

-- The chain that begins at record first came to record k, which had a mark.
pub record MarkedTwice (s : List ℕ) (first : ℕ) (old new : List Bool) (k : ℕ) : Type 0 where
  pub begun : List ℕ
  pub leads : Leads s first begun k
  pub record_there : 1 ≤ k
  pub marked : MarksAdded old new begun
  pub again : slice_index_or new k false ≡ true

-- Reading stopped at a record that comes a second time, or for want of memory.
abbrev pub Stopped : (ℕ → Type 0) → ReadFault → Type 0
Stopped Again Memory = Unit {0}
Stopped Again (Refused Short) = ⊥
Stopped Again (Refused Version) = ⊥
Stopped Again (Refused Large) = ⊥
Stopped Again (Refused Length) = ⊥
Stopped Again (Refused (Position v)) = ⊥
Stopped Again (Refused (Record k)) = ⊥
Stopped Again (Refused (Repeated k)) = Again k
Stopped Again (Refused (Unused k)) = ⊥

-- Position v was read, by its chain.
pub record PositionRead (s : List ℕ) (v : ℕ) (old new : List Bool) (site : Site) : Type 0 where
  pub chain : List ℕ
  pub ended : Leads s (first_record s v) chain 0
  pub marked : MarksAdded old new chain
  pub site_is : site ≡ site_at s v chain

-- The positions below v were read, by their chains, and the marks are those of all records reached.
pub record AllRead (s : List ℕ) (v : ℕ) (new : List Bool) (sites : List Site) : Type 0 where
  pub chains : List (List ℕ)
  pub whole : Chains s v chains
  pub marked : MarksAdded (replicate 49 false) new (concat chains)
  pub sites_are : sites ≡ described s 0 chains

-- Why no positions were read.
abbrev pub Unread : List ℕ → ReadFault → Type 0
Unread s (Refused fault) = Refuses s fault
Unread s Memory = Unit {0}
