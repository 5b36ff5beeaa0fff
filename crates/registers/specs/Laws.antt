-- The layer's game keeps the laws where the game below does.
use Rattle.std.specs.Prelude.{◌≡◌, ℕ, zero, suc, ◌+◌, ◌-◌, ◌*◌, ◌/◌, ◌%◌, ◌<◌, ◌≤◌, true, ◌&&◌, List, [], length, Some, nat_le, nat_lt, slice_index_or}
use Rattle.std.proofs.Common.{sym, ◌∙◌, inl, inr}
use native.Mathlib.Omega.{arith}
use Rattle.std.specs.List.{slice_get}
use Rattle.std.proofs.lemmas.Nat.{mul-le, mul-add-lt, div_below, mod_below}
use Rattle.std.proofs.lemmas.Option.{same_Some, slice_get-get_or, slice_get_within}
use Rattle.std.proofs.lemmas.Bool.{cases_lt, cases_Bool, and_parts, leb-true, cond-true, cond-false, lt-ltb, le-ltb}
use Rattle.game.specs.declared.Arc.{Arc}
use Rattle.game.specs.Game.{Game, Lawful, arc_at}
use Rattle.game.proofs.Arcs.{arc_there, arc_from}
use Rattle.game.proofs.Layers.{mapped_some}
use Rattle.rows.specs.Rows.{rows}
use Rattle.registers.specs.Layer.{arcs_below, first_arc, arc_total, row_count, row_number, updates, reset_arc, resets_to, choices, no_arc, layer_arcs, stands, layer, no_positions, registers}
use Rattle.registers.specs.Arcs.{few_rows, some_row, number_is, updated_number, reset_number, arc_number_lem, arc_below, update_arc, length_updates, updates_at, length_resets, resets_at}

-- what the layer takes for granted
pub record Standing (r : ℕ) (g : Game) : Type 0 where
  pub some : 1 ≤ r
  pub few : r ≤ 5
  pub small : g.size ≤ 16
  pub low : g.top ≤ 9
  pub narrow : arc_total g ≤ 64

pub standing : (r : ℕ) (g : Game) → stands r g ≡ true → Standing r g
standing r g e =
    let h = and_parts (nat_le 1 r && nat_le r 5) (nat_le g.size 16 && nat_le g.top 9 && nat_le (arc_total g) 64) e in
    let i = and_parts (nat_le 1 r) (nat_le r 5) h.0 in
    let k = and_parts (nat_le g.size 16 && nat_le g.top 9) (nat_le (arc_total g) 64) h.1 in
    let l = and_parts (nat_le g.size 16) (nat_le g.top 9) k.0 in
    record {
      some = leb-true 1 r i.0;
      few = leb-true r 5 i.1;
      small = leb-true g.size 16 l.0;
      low = leb-true g.top 9 l.1;
      narrow = leb-true (arc_total g) 64 k.1;
    }

module _ (r : ℕ) (g : Game) (laws : Lawful g) (stand : Standing r g) where
  -- a number of the layer, taken apart
  at_there : (x : ℕ) → x < (layer r g).size → x / row_count r g < g.size + arc_total g
  at_there x h = div_below x (row_count r g) (g.size + arc_total g) (some_row r g.top) h

  row_number_lem : (x : ℕ) → x % row_count r g < row_count r g
  row_number_lem x = mod_below x (row_count r g) (some_row r g.top)

  -- the arcs at a position of the game below, and at one of its arcs
  at_position : (at : ℕ) (row : List ℕ) → at < g.size → layer_arcs r g at row ≡ updates r g row (first_arc g at) (g.arcs at)
  at_position at row h = cond-true (nat_lt at g.size) _ _ (lt-ltb at g.size h)

  at_arc : (at : ℕ) (row : List ℕ) → g.size ≤ at → layer_arcs r g at row ≡ choices r g row (slice_index_or (arcs_below g g.size) (at - g.size) no_arc)
  at_arc at row h = cond-false (nat_lt at g.size) _ _ (le-ltb at g.size h)

  counted : (at : ℕ) (row : List ℕ) → (1 ≤ length (layer_arcs r g at row)) × (length (layer_arcs r g at row) ≤ 64)
  counted at row = elim (cases_lt at g.size) [
    | inl h ↦
        let n = length_updates r g row (first_arc g at) (g.arcs at) in
        let some = laws.some_arc at h in
        let few = laws.few_arcs at h in
        rw (at_position at row h) (omega arith)
    | inr h ↦
        let n = length_resets r g row (slice_index_or (arcs_below g g.size) (at - g.size) no_arc) r in
        let few = stand.few in
        rw (at_arc at row h) (omega arith)
  ]

  -- an arc that leads into the layer
  Inside : Arc → Type 0
  Inside a = (a.target < (g.size + arc_total g) * row_count r g) × (a.priority ≤ 2 * r + 1)

  place_inside : (at k : ℕ) → at < g.size + arc_total g → k < row_count r g → at * row_count r g + k < (g.size + arc_total g) * row_count r g
  place_inside at k h l = let m = mul-add-lt at (row_count r g) k (g.size + arc_total g) h l in omega arith

  update_inside : (at k i : ℕ) (a : Arc) → at < g.size → k < row_count r g → slice_get (updates r g (slice_index_or (rows r g.top) k []) (first_arc g at) (g.arcs at)) i ≡ Some a → Inside a
  unfolding Inside
  update_inside at k i a h l there =
      let row : List ℕ = slice_index_or (rows r g.top) k [] in
      let (b, below, same) = mapped_some (update_arc r g row (first_arc g at + i)) (slice_get (g.arcs at) i) a (sym (updates_at r g row (first_arc g at) (g.arcs at) i) ∙ there) in
      let n = arc_number_lem g at g.size i h (slice_get_within (g.arcs at) i b below) in
      let low = laws.priority_low at i b (arc_from g at i b h below) in
      let t = place_inside (g.size + (first_arc g at + i)) (row_number r g _) (omega arith) (updated_number r g.top k l b.priority low) in
      rw same (t, omega arith)

  choice_inside : (k j : ℕ) (b a : Arc) → b.target < g.size → k < row_count r g → slice_get (choices r g (slice_index_or (rows r g.top) k []) b) j ≡ Some a → Inside a
  unfolding Inside
  choice_inside k zero b a h l there =
      let t = place_inside b.target k (omega arith) l in
      rw (← same_Some _ a there) (rw (number_is r g.top k l) (t, omega arith))
  choice_inside k (suc j) b a h l there =
      let row : List ℕ = slice_index_or (rows r g.top) k [] in
      let n = slice_get_within (resets_to r g row b r) j a there in
      let m = length_resets r g row b r in
      let low : j < r = omega arith in
      let t = place_inside b.target (row_number r g _) (omega arith) (reset_number r g.top k l (suc j) (omega arith) low) in
      rw (← same_Some (reset_arc r g row b (suc j)) a (sym (resets_at r g row b r j low) ∙ there)) (t, omega arith)

  arc_inside : (x i : ℕ) (a : Arc) → arc_at (layer r g) x i ≡ Some a → Inside a
  arc_inside x i a e =
      let there = arc_there (layer r g) x i a e in
      let at : ℕ = x / row_count r g in
      let k : ℕ = x % row_count r g in
      let row : List ℕ = slice_index_or (rows r g.top) k [] in
      elim (cases_lt at g.size) [
        | inl h ↦ update_inside at k i a h (row_number_lem x) (rw (at_position at row h) at there.1)
        | inr h ↦
            let in_range = at_there x there.0 in
            let b : Arc = slice_index_or (arcs_below g g.size) (at - g.size) no_arc in
            let below = slice_get-get_or (arcs_below g g.size) (at - g.size) no_arc (omega arith) in
            let leads = arc_below g laws g.size (at - g.size) b (omega arith) below in
            choice_inside k i b a leads.0 (row_number_lem x) (rw (at_arc at row h) at there.1)
      ]

  pub layer_lawful : Lawful (layer r g)
  unfolding Inside
  layer_lawful = record {
    few_positions = (let small = stand.small in let narrow = stand.narrow in let m = mul-le (g.size + arc_total g) (row_count r g) 80 2002 (omega arith) (few_rows r g.top stand.few stand.low) in omega arith);
    low_top = (let few = stand.few in omega arith);
    some_arc = λ x h. (counted (x / row_count r g) (slice_index_or (rows r g.top) (x % row_count r g) [])).0;
    few_arcs = λ x h. (counted (x / row_count r g) (slice_index_or (rows r g.top) (x % row_count r g) [])).1;
    target_inside = λ x i a e. (arc_inside x i a e).0;
    priority_low = λ x i a e. (arc_inside x i a e).1;
  }

pub no_positions_lawful : Lawful no_positions
no_positions_lawful = record {
  few_positions = omega arith;
  low_top = omega arith;
  some_arc = λ v h. absurd (omega arith);
  few_arcs = λ v h. absurd (omega arith);
  target_inside = λ v i a e. (let h = (arc_there no_positions v i a e).0 in absurd (omega arith));
  priority_low = λ v i a e. (let h = (arc_there no_positions v i a e).0 in absurd (omega arith));
}

pub registers_lawful : (r : ℕ) (g : Game) → Lawful g → Lawful (registers r g)
registers_lawful r g laws = elim (cases_Bool (stands r g)) [
  | inl t ↦ rw (cond-true (stands r g) (layer r g) no_positions t) (layer_lawful r g laws (standing r g t))
  | inr f ↦ rw (cond-false (stands r g) (layer r g) no_positions f) no_positions_lawful
]
