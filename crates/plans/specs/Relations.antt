-- Relations between positions below 16.
use Rattle.std.specs.Prelude.{◌≡◌, ℕ, ◌<◌, Bool, true, false, ◌&&◌, [], slice_index_or}
use Rattle.plans.specs.declared.relation.Relation.{Relation}

abbrev pub related : Relation → ℕ → ℕ → Bool
related r u v = slice_index_or (slice_index_or r.rows u []) v false

-- The relation is the one that a function of two positions gives.
abbrev pub GivenBy : Relation → (ℕ → ℕ → Bool) → Type 0
GivenBy r f = (u v : ℕ) → u < 16 → v < 16 → related r u v ≡ f u v

-- The move from u to w, one of the peaks, closes a walk through v: u is reached from v, and v from w.
abbrev pub closes : Relation → Relation → ℕ → ℕ → ℕ → Bool
closes reach peaks v u w = related peaks u w && (related reach v u && related reach w v)

-- Some peak from u closes such a walk; some peak from anywhere does.
abbrev pub ClosesFrom : Relation → Relation → ℕ → ℕ → Type 0
ClosesFrom reach peaks v u = (w : ℕ) × (w < 16) × (closes reach peaks v u w ≡ true)

abbrev pub SomeCloses : Relation → Relation → ℕ → Type 0
SomeCloses reach peaks v = (u : ℕ) × (u < 16) × ClosesFrom reach peaks v u
