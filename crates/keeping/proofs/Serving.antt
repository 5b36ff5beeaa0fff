-- What serves the call, and from the least heights over the layer to what is kept.
use Rattle.std.proofs.Common.{◌≡◌, ℕ, ◌+◌, ◌*◌, ◌<◌, ◌≤◌, true, false, cond, leb, ltb, ◌&&◌, ◌↔◌, List, length, get_or, Some, None, sym, ap, ◌∙◌, subst, inl, inr, zero-mul, arith}
use Rattle.std.proofs.lemmas.Nat.{mul-add-lt}
use Rattle.std.proofs.lemmas.Bool.{cases_lt, cases_Bool, and_from, le-leb, cond-true, cond-false, ltb-true, lt-ltb}
use Rattle.std.proofs.lemmas.Option.{cond_some}
use Rattle.game.specs.Game.{Game}
use Rattle.heights.specs.Climb.{lost}
use Rattle.heights.specs.Replies.{Found}
use Rattle.heights.specs.Sweeps.{height_in}
use Rattle.rows.specs.Choose.{choose}
use Rattle.rows.specs.Views.{in_range}
use Rattle.rows.proofs.Numbering.{rows_counted_lem}
use Rattle.registers.specs.Layer.{arc_total, row_count, stands, layer, no_positions, registers}
use Rattle.registers.specs.Arcs.{some_row}
use Rattle.register_theory.proofs.More.{kept_by_least}
use Rattle.keeping.specs.declared.answer.Keeping.{Keeping}
use Rattle.keeping.specs.Keeping.{Served, Told}

module _ (r : ℕ) (g : Game) where
  where_it_stands : stands r g ≡ true → registers r g ≡ layer r g
  where_it_stands e = cond-true (stands r g) (layer r g) no_positions e

  -- a layer with positions stands, over positions
  positions_stand : 1 ≤ (registers r g).size → stands r g ≡ true
  positions_stand some = elim (cases_Bool (stands r g)) [
    | inl e ↦ e
    | inr e ↦ let none : 1 ≤ 0 = subst (λ (l : Game). 1 ≤ l.size) (cond-false (stands r g) (layer r g) no_positions e) some in absurd (omega arith)
  ]

  no_places : g.size ≡ 0 → (g.size + arc_total g) * row_count r g ≡ 0
  no_places none = rw none (zero-mul (row_count r g))

  positions_below : 1 ≤ (registers r g).size → 1 ≤ g.size
  positions_below some = elim (cases_lt 0 g.size) [
    | inl h ↦ h
    | inr h ↦
        let places : 1 ≤ (g.size + arc_total g) * row_count r g = subst (λ (l : Game). 1 ≤ l.size) (where_it_stands (positions_stand some)) some in
        let none = no_places (omega arith) in
        absurd (omega arith)
  ]

  zeros_in : stands r g ≡ true → (v : ℕ) → v < g.size → v * row_count r g < (registers r g).size
  zeros_in e v h =
      let some = some_row r g.top in
      let m = mul-add-lt v (row_count r g) 0 (g.size + arc_total g) (omega arith) some in
      subst (λ (l : Game). v * row_count r g < l.size) (sym (where_it_stands e)) (omega arith)

  pub not_served : (cells : List ℕ) (used : ℕ) → used ≡ (registers r g).size → false ≡ leb 1 used && leb used (length cells) → Served r g cells → ⊥
  not_served cells used e refused served =
      let there = zeros_in served.layer_stands 0 served.some_position in
      let enough = served.enough_cells in
      let yes = and_from (leb 1 used) (leb used (length cells)) (le-leb 1 used (omega arith)) (le-leb used (length cells) (omega arith)) in
      cc

  -- how many rows the call for their number tells, by the arena's top
  pub rows_told : (rows top : ℕ) → top ≡ g.top → Some rows ≡ cond (in_range r top) (Some (choose (top + r) r)) None → Some rows ≡ cond (in_range r g.top) (Some (choose (g.top + r) r)) None
  rows_told rows top e told = told ∙ ap (λ t. cond (in_range r t) (Some (choose (t + r) r)) None) e

  module _ (rows : ℕ) (told : Some rows ≡ cond (in_range r g.top) (Some (choose (g.top + r) r)) None) where
    counted : rows ≡ row_count r g
    counted = sym ((cond_some (in_range r g.top) (choose (g.top + r) r) rows (sym told)).1) ∙ sym (rows_counted_lem r g.top)

    -- the position v with the row of zeros is one of the layer's
    pub zeros_there : 1 ≤ (registers r g).size → (v : ℕ) → v < g.size → v * rows < (registers r g).size
    zeros_there some v h = rw counted (zeros_in (positions_stand some) v h)

    flag_tells : (n x : ℕ) → (ltb x n ≡ true) ↔ (x < n)
    flag_tells n x = (ltb-true x n, lt-ltb x n)

    pub keeping_tells : (before last : List ℕ) (k : Keeping) → 1 ≤ (registers r g).size → (registers r g).size ≤ length before →
        Found g.size r (registers r g) before last k.raises → ((v : ℕ) → v < g.size → get_or k.positions v false ≡ ltb (get_or last (v * rows) 0) (lost g.size r)) →
        Told r g before k
    keeping_tells before last k some enough found flags =
        let e = positions_stand some in
        let tells = kept_by_least r g e (height_in last) found.least in
        record {
          served = record { some_position = positions_below some; layer_stands = e; enough_cells = enough };
          flags = λ v h.
              let flag : get_or k.positions v false ≡ ltb (get_or last (v * row_count r g) 0) (lost g.size r) = rw (← counted) (flags v h) in (
                λ on. (tells v h).1 (ltb-true (get_or last (v * row_count r g) 0) (lost g.size r) (sym flag ∙ on)),
                λ kept. flag ∙ lt-ltb (get_or last (v * row_count r g) 0) (lost g.size r) ((tells v h).0 kept),
              );
          swept = (last, found);
        }
