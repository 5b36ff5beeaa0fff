-- The layout of a sheet: four bytes of header, n position records of six bytes, m arc records of three bytes.
use Rattle.std.specs.Prelude.{◌≡◌, ℕ, ◌+◌, ◌-◌, ◌*◌, ◌<◌, ◌≤◌, List, [], ◌∷◌, length, slice_index}

abbrev pub byte : List ℕ → ℕ → ℕ
byte s i = slice_index s i

-- Byte 1 is the number of positions, byte 2 the number of arc records.
abbrev pub positions : List ℕ → ℕ
positions s = byte s 1

abbrev pub records : List ℕ → ℕ
records s = byte s 2

-- Position v, from 0: the mover, the first arc record of its chain (0: none), and a name of four bytes.
abbrev pub mover_byte : List ℕ → ℕ → ℕ
mover_byte s v = byte s (4 + 6 * v)

abbrev pub first_record : List ℕ → ℕ → ℕ
first_record s v = byte s (4 + 6 * v + 1)

abbrev pub name_bytes : List ℕ → ℕ → List ℕ
name_bytes s v = byte s (4 + 6 * v + 2) ∷ byte s (4 + 6 * v + 3) ∷ byte s (4 + 6 * v + 4) ∷ byte s (4 + 6 * v + 5) ∷ []

-- Arc record k, from 1: a priority, a target, and the next record of the chain (0: it ends).
abbrev pub record_at : List ℕ → ℕ → ℕ
record_at s k = 4 + 6 * positions s + 3 * (k - 1)

abbrev pub priority_byte : List ℕ → ℕ → ℕ
priority_byte s k = byte s (record_at s k)

abbrev pub target_byte : List ℕ → ℕ → ℕ
target_byte s k = byte s (record_at s k + 1)

abbrev pub next_record : List ℕ → ℕ → ℕ
next_record s k = byte s (record_at s k + 2)

-- The header: at least four bytes, the two fixed ones, at most 16 positions and 48 records, and just the bytes that these take.
pub record Opened (s : List ℕ) : Type 0 where
  pub long : 4 ≤ length s
  pub version : byte s 0 ≡ 1
  pub reserved : byte s 3 ≡ 0

pub record Sized (s : List ℕ) : Type 0 where
  pub opened : Opened s
  pub few_positions : positions s ≤ 16
  pub few_records : records s ≤ 48

pub record Headed (s : List ℕ) : Type 0 where
  pub sized : Sized s
  pub whole : length s ≡ 4 + 6 * positions s + 3 * records s

-- The bytes of a name are visible characters: hex 21 to 7E.
abbrev pub AllVisible : List ℕ → Type 0
AllVisible bytes = (i : ℕ) → i < length bytes → (0x21 ≤ slice_index bytes i) × (slice_index bytes i ≤ 0x7E)

pub record PositionFits (s : List ℕ) (v : ℕ) : Type 0 where
  pub mover : mover_byte s v ≤ 1
  pub first : first_record s v ≤ records s
  pub name : AllVisible (name_bytes s v)

pub record RecordFits (s : List ℕ) (k : ℕ) : Type 0 where
  pub priority : priority_byte s k ≤ 7
  pub target : target_byte s k < positions s
  pub next : next_record s k ≤ records s

-- Header, positions and records are each as they should be; the chains are another matter.
pub record Placed (s : List ℕ) : Type 0 where
  pub headed : Headed s
  pub each_position : (v : ℕ) → v < positions s → PositionFits s v

pub record Recorded (s : List ℕ) : Type 0 where
  pub placed : Placed s
  pub each_record : (k : ℕ) → 1 ≤ k → k ≤ records s → RecordFits s k
