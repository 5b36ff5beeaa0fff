-- The chains of a sheet, what it means that a sheet fits the layout, and the arena that a fitting sheet describes.
use Rattle.std.specs.Prelude.{◌≡◌, ℕ, suc, ◌<◌, ◌≤◌, cond, List, [], ◌∷◌, map, length, ◌==◌, count_by, slice_index_or}
use Rattle.std.specs.List.{concat}
use Rattle.game.specs.declared.Player.{Player}
use Rattle.game.specs.declared.Player.TheVariants.{Even, Odd}
use Rattle.game.specs.declared.Arc.{Arc}
use Rattle.table.specs.Sites.{Site}
use Rattle.sheet.specs.Layout.{positions, records, mover_byte, first_record, name_bytes, priority_byte, target_byte, next_record, Recorded}

-- From record e, by way of the records ks, each the next of the one before, one comes to record to. At 0 a chain ends.
pub data Leads (s : List ℕ) : ℕ → List ℕ → ℕ → Type 0 where
  here : {e : ℕ} → Leads s e [] e
  along : {k to : ℕ} {ks : List ℕ} → 1 ≤ k → Leads s (next_record s k) ks to → Leads s k (k ∷ ks) to

-- The chains of the positions below v, in order: each begins at its position's first record and ends.
pub record Chains (s : List ℕ) (v : ℕ) (chains : List (List ℕ)) : Type 0 where
  pub count : length chains ≡ v
  pub ended : (u : ℕ) → u < v → Leads s (first_record s u) (slice_index_or chains u []) 0

-- How often a record stands in a list.
abbrev pub occurrences : ℕ → List ℕ → ℕ
occurrences k ks = count_by (λ j. k == j) ks

-- A sheet fits the layout: its parts are as they should be, and going through the chains of all positions one comes to every
-- record exactly once.
pub record Fits (s : List ℕ) (chains : List (List ℕ)) : Type 0 where
  pub recorded : Recorded s
  pub chained : Chains s (positions s) chains
  pub each_once : (k : ℕ) → 1 ≤ k → k ≤ records s → occurrences k (concat chains) ≡ 1

-- What the bytes stand for.
abbrev pub mover_of : ℕ → Player
mover_of b = cond (b == 0) Even Odd

abbrev pub arc_of : List ℕ → ℕ → Arc
arc_of s k = record { target = target_byte s k; priority = priority_byte s k }

-- A position with an empty chain gets an arc to itself by which its mover loses: priority 1 where Even moves, 0 where Odd.
abbrev pub losing : Player → ℕ
losing Even = 1
losing Odd = 0

abbrev pub mended : ℕ → Player → List Arc → List Arc
mended v mover [] = record { target = v; priority = losing mover } ∷ []
mended v mover (a ∷ arcs) = a ∷ arcs

abbrev pub arcs_of : List ℕ → ℕ → List ℕ → List Arc
arcs_of s v ks = mended v (mover_of (mover_byte s v)) (map (arc_of s) ks)

abbrev pub site_at : List ℕ → ℕ → List ℕ → Site
site_at s v ks = record { mover = mover_of (mover_byte s v); name = record { bytes = name_bytes s v }; arcs = arcs_of s v ks }

-- The positions from v on, by their chains.
abbrev pub described : List ℕ → ℕ → List (List ℕ) → List Site
described s v [] = []
described s v (ks ∷ chains) = site_at s v ks ∷ described s (suc v) chains

-- The sheet fits, and these are the positions that it describes.
abbrev pub Describes : List ℕ → List Site → Type 0
Describes s sites = (chains : List (List ℕ)) × Fits s chains × (sites ≡ described s 0 chains)
