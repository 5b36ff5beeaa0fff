-- What the limits of a case say, and how large the layers are that a solve stands on.
use Rattle.std.proofs.Common.{◌≡◌, ℕ, ◌+◌, ◌^◌, ◌<◌, ◌≤◌, true, false, ◌&&◌, ltb, leb, List, length, Option, ap, ◌∙◌, inl, inr, arith}
use Rattle.std.proofs.lemmas.Nat.{mul-le}
use Rattle.std.proofs.lemmas.List.{length-map}
use Rattle.std.proofs.lemmas.Bool.{cases_Bool, cases_lt, and_parts, and_from, cond-true, cond-false, leb-true, le-leb, lt-ltb}
use Rattle.game.specs.declared.Player.{Player}
use Rattle.game.specs.declared.Player.TheVariants.{Even, Odd}
use Rattle.game.specs.Game.{Game}
use Rattle.game.specs.Layers.{raised, restricted, entry_at, held}
use Rattle.rows.specs.Choose.{choose}
use Rattle.rows.proofs.Numbering.{rows_counted_lem}
use Rattle.registers.specs.Arcs.{choose_grows}
use Rattle.registers.specs.Layer.{arc_total, row_count, stands, registers}
use Rattle.register_theory.specs.First.{solved_for, Solvable}
use Rattle.register_theory.proofs.Cells.{stands_layer}
use Rattle.register_theory.proofs.Groups.{few_small}
use Rattle.register_theory.proofs.First.{solved_size as same_size}
use Rattle.register_theory.proofs.Held.{restricted_fewer, fewer_arcs}
use Rattle.case_rules.specs.Binary.{binary_digits}
use Rattle.case_rules.specs.Limits.{within, needed, cells_for}
use Rattle.case_theory.proofs.Binary.{digits_above, digits_few, some_digits}

-- What the limits ask.
pub record Small (g : Game) : Type 0 where
  pub few : g.size ≤ 16
  pub low : g.top ≤ 8
  pub narrow : arc_total g ≤ 64

pub within_says : (g : Game) → within g ≡ true → Small g
within_says g e =
    let one = and_parts (leb g.size 16 && leb g.top 8) (leb (arc_total g) 64) e in
    let two = and_parts (leb g.size 16) (leb g.top 8) one.0 in
    record { few = leb-true g.size 16 two.0; low = leb-true g.top 8 two.1; narrow = leb-true (arc_total g) 64 one.1 }

-- the registers needed
pub needed_within : (g : Game) → within g ≡ true → needed g ≡ binary_digits g.size
needed_within g e = cond-true (within g) (binary_digits g.size) 0 e

pub needed_outside : (g : Game) → within g ≡ false → needed g ≡ 0
needed_outside g e = cond-false (within g) (binary_digits g.size) 0 e

pub needed_few : (g : Game) → needed g ≤ 5
needed_few g = elim (cases_Bool (within g)) [
  | inl e ↦ let few = (within_says g e).few in rw (needed_within g e) (digits_few g.size 5 (omega arith))
  | inr e ↦ rw (needed_outside g e) (omega arith)
]

pub needed_enough : (g : Game) → within g ≡ true → g.size < 2 ^ needed g
needed_enough g e = rw (needed_within g e) (digits_above g.size)

pub some_needed : (g : Game) → within g ≡ true → 1 ≤ g.size → 1 ≤ needed g
some_needed g e some = rw (needed_within g e) (some_digits g.size some)

-- registers are needed only within the limits, and where there is a position
pub needed_says : (g : Game) → 1 ≤ needed g → (within g ≡ true) × (1 ≤ g.size)
needed_says g some = elim (cases_Bool (within g)) [
  | inr e ↦ let none = needed_outside g e in absurd (omega arith)
  | inl e ↦ elim (cases_lt 0 g.size) [
    | inl there ↦ (e, there)
    | inr none ↦ let z : g.size ≡ 0 = omega arith in let same = needed_within g e ∙ ap binary_digits z in absurd (omega arith)
  ]
]

-- the game that is solved for a player, with arcs held: as many positions, a top at most one higher, and no more arcs
module _ (entries : List (Option ℕ)) (g : Game) (e : within g ≡ true) where
  swaps : g.top < 250
  swaps = let low = (within_says g e).low in omega arith

  pub solved_size : (player : Player) → (solved_for player (held entries g)).size ≡ g.size
  solved_size player = same_size (held entries g) player swaps

  solved_top : (player : Player) → (solved_for player (held entries g)).top ≤ g.top + 1
  solved_top Even = omega arith
  solved_top Odd = rw (cond-true (ltb g.top 250) (g.top + 1) 0 (lt-ltb g.top 250 swaps)) (omega arith)

  fewer_at : (player : Player) (v : ℕ) → length ((solved_for player (held entries g)).arcs v) ≤ length (g.arcs v)
  fewer_at Even v = restricted_fewer (entry_at entries v) (g.arcs v)
  fewer_at Odd v = rw (length-map (restricted (entry_at entries v) (g.arcs v)) raised) (restricted_fewer (entry_at entries v) (g.arcs v))

  solved_arcs : (player : Player) → arc_total (solved_for player (held entries g)) ≤ arc_total g
  solved_arcs player = rw (solved_size player) (fewer_arcs g (solved_for player (held entries g)) (fewer_at player) g.size)

  module _ (r : ℕ) (some : 1 ≤ r) (few : r ≤ 5) (player : Player) where
    layer_stands : stands r (solved_for player (held entries g)) ≡ true
    layer_stands =
        let h : Game = solved_for player (held entries g) in
        let limits = within_says g e in
        let size = solved_size player in
        let top = solved_top player in
        let arcs = solved_arcs player in
        and_from (leb 1 r && leb r 5) (leb h.size 16 && leb h.top 9 && leb (arc_total h) 64) (and_from (leb 1 r) (leb r 5) (le-leb 1 r some) (le-leb r 5 few))
        (and_from (leb h.size 16 && leb h.top 9) (leb (arc_total h) 64)
        (and_from (leb h.size 16) (leb h.top 9) (le-leb h.size 16 (omega arith)) (le-leb h.top 9 (omega arith)))
        (le-leb (arc_total h) 64 (omega arith)))

    layer_fits : (registers r (solved_for player (held entries g))).size ≤ cells_for g r
    layer_fits =
        let h : Game = solved_for player (held entries g) in
        let size = solved_size player in
        let top = solved_top player in
        let arcs = solved_arcs player in
        let rows_few : row_count r h ≤ choose (g.top + 1 + r) r = rw (rows_counted_lem r h.top) (choose_grows (h.top + r) (g.top + 1 + r) r (omega arith)) in
        rw (ap (λ (l : Game). l.size) (stands_layer r h layer_stands)) (mul-le (h.size + arc_total h) (row_count r h) (g.size + arc_total g) (choose (g.top + 1 + r) r) (omega arith) rows_few)

    -- the layer of r registers stands, and its positions are no more than the cells for r registers
    pub layer_small : (stands r (solved_for player (held entries g)) ≡ true) × ((registers r (solved_for player (held entries g))).size ≤ cells_for g r)
    layer_small = (layer_stands, layer_fits)

  -- with as many registers as are needed the verdicts are exact
  pub needed_solvable : 1 ≤ g.size → (player : Player) → Solvable (needed g) (held entries g) player
  needed_solvable some player = record {
    swaps = swaps;
    layer_stands = layer_stands (needed g) (some_needed g e some) (needed_few g) player;
    small = few_small (needed g) (held entries g) (needed_enough g e);
  }
