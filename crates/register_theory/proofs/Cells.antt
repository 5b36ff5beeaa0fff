-- The positions of the register layer: which number each has, who moves there, and where its arcs lead.
use Rattle.std.proofs.Common.{◌≡◌, ℕ, zero, suc, ◌+◌, ◌-◌, ◌*◌, ◌/◌, ◌%◌, ◌<◌, ◌≤◌, true, cond, ltb, List, [], ◌∷◌, length, get_or, Some, sym, refl, ap, ◌∙◌, ap₂, inl, inr, mul-le-mul_right, mod-eq_of_lt, suc-mul, arith}
use native.Mathlib.Nat.{mul-add-div_right, mul-add-mod_self_right, div-eq_of_lt}
use Rattle.std.specs.List.{slice_get}
use Rattle.std.proofs.lemmas.List.{length_push}
use Rattle.std.proofs.lemmas.Option.{slice_get-get_or, slice_get_within, none-some, same_Some}
use Rattle.std.proofs.lemmas.Bool.{cases_eq, cond-true, cond-false, lt-ltb, le-ltb}
use Rattle.game.specs.declared.Player.TheVariants.{Even}
use Rattle.game.specs.declared.Arc.{Arc}
use Rattle.game.specs.Game.{Game, Lawful, arc_at}
use Rattle.rows.specs.Rows.{IsRow, rows}
use Rattle.rows.specs.Registers.{updated}
use Rattle.rows.proofs.Members.{nth_left, nth_right, nth_joined}
use Rattle.rows.proofs.Numbering.{rows_numbered_lem, listed_row, place_is}
use Rattle.rows.proofs.Moving.{updated_row, length_updated, reset_row, length_reset}
use Rattle.registers.specs.Layer.{arcs_below, first_arc, arc_total, stands, row_count, row_number, updates, reset_arc, resets_to, choices, no_arc, layer_arcs, layer, registers}
use Rattle.register_theory.specs.Doubling.{State, chosen, toll}

pub get_d_from_nth : {X : Type 0} (xs : List X) (i : ℕ) (x d : X) → slice_get xs i ≡ Some x → get_or xs i d ≡ x
get_d_from_nth xs i x d e = same_Some (get_or xs i d) x (sym (slice_get-get_or xs i d (slice_get_within xs i x e)) ∙ e)

-- the number of position at with a row
abbrev pub cell : ℕ → Game → ℕ → List ℕ → ℕ
cell r g at row = at * row_count r g + row_number r g row

pub stands_layer : (r : ℕ) (g : Game) → stands r g ≡ true → registers r g ≡ layer r g
stands_layer r g e = cond-true (stands r g) (layer r g) _ e

-- a choice leads from a row to a row
pub chosen_row : (r top j : ℕ) (row : List ℕ) → IsRow top row → length row ≡ r → j ≤ r → IsRow top (chosen j row) × (length (chosen j row) ≡ r)
chosen_row r top zero row is_row whole h = (is_row, whole)
chosen_row r top (suc j) row is_row whole h =
    (reset_row top (suc j) row is_row (omega arith) (omega arith), length_reset (suc j) row (omega arith) (omega arith) ∙ whole)

-- a double step from a state leads to a state
module _ (g : Game) (lawful : Lawful g) (r v : ℕ) (row : List ℕ) (state : State g r v row) (i : ℕ) (a : Arc) (is_arc : arc_at g v i ≡ Some a) where
  pub updated_state : IsRow g.top (updated a.priority row) × (length (updated a.priority row) ≡ r)
  updated_state = (updated_row g.top a.priority row state.1 (lawful.priority_low v i a is_arc), length_updated a.priority row ∙ state.2)

  pub chosen_state : (j : ℕ) → j ≤ r → State g r a.target (chosen j (updated a.priority row))
  chosen_state j h =
      let next = chosen_row r g.top j (updated a.priority row) updated_state.0 updated_state.1 h in
      (lawful.target_inside v i a is_arc, next.0, next.1)

module _ (r : ℕ) (g : Game) where
  -- where a row stands in the list of rows
  module _ (row : List ℕ) (is_row : IsRow g.top row) (whole : length row ≡ r) where
    row_at_number : slice_get (rows r g.top) (row_number r g row) ≡ Some row
    row_at_number = rows_numbered_lem.1 r g.top row is_row whole

    pub number_below : row_number r g row < row_count r g
    number_below = slice_get_within (rows r g.top) (row_number r g row) row row_at_number

    pub cell_at : (at : ℕ) → cell r g at row / row_count r g ≡ at
    cell_at at =
        let low = number_below in
        let pos : 0 < row_count r g = omega arith in
        let e = mul-add-div_right pos at (row_number r g row) in
        let z = div-eq_of_lt low in
        omega arith

    pub cell_row : (at : ℕ) → get_or (rows r g.top) (cell r g at row % row_count r g) [] ≡ row
    cell_row at =
        ap (λ k. get_or (rows r g.top) k []) (mul-add-mod_self_right at (row_count r g) (row_number r g row) ∙ mod-eq_of_lt number_below) ∙
        get_d_from_nth (rows r g.top) (row_number r g row) row [] row_at_number

    pub cell_arcs : (at : ℕ) → (layer r g).arcs (cell r g at row) ≡ layer_arcs r g at row
    cell_arcs at = ap₂ (λ a b. layer_arcs r g a b) (cell_at at) (cell_row at)

    pub cell_mover : (at : ℕ) → (layer r g).mover (cell r g at row) ≡ cond (ltb at g.size) (g.mover at) Even
    cell_mover at = ap (λ a. cond (ltb a g.size) (g.mover a) Even) (cell_at at)

    pub cell_inside : (at : ℕ) → at < g.size + arc_total g → cell r g at row < (layer r g).size
    cell_inside at h =
        let low = number_below in
        let more = mul-le-mul_right (row_count r g) h in
        let s = suc-mul at (row_count r g) in
        omega arith

  -- row number k is a row
  pub row_numbered : (k : ℕ) → k < row_count r g → IsRow g.top (get_or (rows r g.top) k []) × (length (get_or (rows r g.top) k []) ≡ r)
  row_numbered k h = listed_row r g.top k (get_or (rows r g.top) k []) (slice_get-get_or (rows r g.top) k [] h)

  pub number_of : (k : ℕ) → k < row_count r g → row_number r g (get_or (rows r g.top) k []) ≡ k
  number_of k h = place_is r g.top k (get_or (rows r g.top) k []) (slice_get-get_or (rows r g.top) k [] h)

  -- the arcs of a position (v, row)
  abbrev pub update_arc_lem : List ℕ → ℕ → Arc → Arc
  update_arc_lem row e a = record { target = (g.size + e) * row_count r g + row_number r g (updated a.priority row); priority = 0 }

  pub nth_updates : (row : List ℕ) (e : ℕ) (arcs : List Arc) (i m : ℕ) (a : Arc) → m ≡ e + i → slice_get arcs i ≡ Some a → slice_get (updates r g row e arcs) i ≡ Some (update_arc_lem row m a)
  nth_updates row e [] i m a at there = absurd (none-some a there)
  nth_updates row e (b ∷ arcs) zero m a at there =
      let same : m ≡ e = omega arith in
      ap₂ (λ x c. Some (update_arc_lem row x c)) (sym same) (same_Some b a there)
  nth_updates row e (b ∷ arcs) (suc i) m a at there = nth_updates row (suc e) arcs i m a (omega arith) there

  pub nth_updates_back : (row : List ℕ) (e : ℕ) (arcs : List Arc) (i : ℕ) (b : Arc) → slice_get (updates r g row e arcs) i ≡ Some b → (a : Arc) × (slice_get arcs i ≡ Some a) × (b ≡ update_arc_lem row (e + i) a)
  nth_updates_back row e [] i b there = absurd (none-some b there)
  nth_updates_back row e (a ∷ arcs) zero b there =
      let same : e + 0 ≡ e = omega arith in
      (a, refl, sym (same_Some (update_arc_lem row e a) b there) ∙ ap (λ x. update_arc_lem row x a) (sym same))
  nth_updates_back row e (a ∷ arcs) (suc i) b there =
      let found = nth_updates_back row (suc e) arcs i b there in
      let same : suc e + i ≡ e + suc i = omega arith in
      (found.0, found.1, found.2 ∙ ap (λ x. update_arc_lem row x found.0) same)

  -- the arcs of a position (e, row)
  abbrev pub choice_arc : List ℕ → Arc → ℕ → Arc
  choice_arc row a j = record { target = cell r g a.target (chosen j row); priority = toll j row }

  length_resets : (row : List ℕ) (a : Arc) (m : ℕ) → length (resets_to r g row a m) ≡ m
  length_resets row a zero = refl
  length_resets row a (suc m) =
      let e = length_push (resets_to r g row a m) (reset_arc r g row a (suc m)) in
      let h = length_resets row a m in
      omega arith

  nth_resets : (row : List ℕ) (a : Arc) (m j : ℕ) → j < m → slice_get (resets_to r g row a m) j ≡ Some (choice_arc row a (suc j))
  nth_resets row a zero j h = absurd (omega arith)
  nth_resets row a (suc m) j h = elim (cases_eq j m) [
    | inl e ↦
        let n = length_resets row a m in
        nth_right (resets_to r g row a m) (reset_arc r g row a (suc m) ∷ []) 0 j (omega arith) ∙ ap (λ x. Some (choice_arc row a (suc x))) (sym e)
    | inr apart ↦ nth_left (resets_to r g row a m) (reset_arc r g row a (suc m) ∷ []) j (choice_arc row a (suc j)) (nth_resets row a m j (omega arith))
  ]

  pub nth_choices : (row : List ℕ) (a : Arc) (j : ℕ) → j ≤ r → slice_get (choices r g row a) j ≡ Some (choice_arc row a j)
  nth_choices row a zero h = refl
  nth_choices row a (suc j) h = nth_resets row a r j (omega arith)

  pub nth_choices_back : (row : List ℕ) (a : Arc) (j : ℕ) (b : Arc) → slice_get (choices r g row a) j ≡ Some b → (j ≤ r) × (b ≡ choice_arc row a j)
  nth_choices_back row a j b there =
      let n = length_resets row a r in
      let l = slice_get_within (choices r g row a) j b there in
      let h : j ≤ r = omega arith in
      (h, same_Some b (choice_arc row a j) (sym there ∙ nth_choices row a j h))

  -- arc number i of v among all arcs
  pub arc_numbered : (m v i : ℕ) (a : Arc) → v < m → slice_get (g.arcs v) i ≡ Some a → slice_get (arcs_below g m) (first_arc g v + i) ≡ Some a
  arc_numbered zero v i a h there = absurd (omega arith)
  arc_numbered (suc m) v i a h there = elim (cases_eq v m) [
    | inl e ↦ nth_right (arcs_below g m) (g.arcs m) i (first_arc g v + i) (ap (λ x. first_arc g x + i) e) ∙ ap (λ x. slice_get (g.arcs x) i) (sym e) ∙ there
    | inr apart ↦ nth_left (arcs_below g m) (g.arcs m) (first_arc g v + i) a (arc_numbered m v i a (omega arith) there)
  ]

  -- each of all arcs is an arc of a position
  pub arc_found : (m e : ℕ) (a : Arc) → slice_get (arcs_below g m) e ≡ Some a → (v i : ℕ) × (v < m) × (slice_get (g.arcs v) i ≡ Some a)
  arc_found zero e a there = absurd (none-some a there)
  arc_found (suc m) e a there = elim (nth_joined (arcs_below g m) (g.arcs m) e a there) [
    | inl left ↦ let found = arc_found m e a left in (found.0, found.1, let l = found.2 in omega arith, found.3)
    | inr right ↦ (m, right.0, omega arith, right.2)
  ]

  pub arcs_at_position : (v : ℕ) (row : List ℕ) → v < g.size → layer_arcs r g v row ≡ updates r g row (first_arc g v) (g.arcs v)
  arcs_at_position v row h = cond-true (ltb v g.size) (updates r g row (first_arc g v) (g.arcs v)) _ (lt-ltb v g.size h)

  pub arcs_past_positions : (at : ℕ) (row : List ℕ) → g.size ≤ at → layer_arcs r g at row ≡ choices r g row (get_or (arcs_below g g.size) (at - g.size) no_arc)
  arcs_past_positions at row h = cond-false (ltb at g.size) _ (choices r g row (get_or (arcs_below g g.size) (at - g.size) no_arc)) (le-ltb at g.size h)

  module _ (v i : ℕ) (a : Arc) (h : v < g.size) (there : slice_get (g.arcs v) i ≡ Some a) where
    pub arcs_at_arc : (row : List ℕ) → layer_arcs r g (g.size + (first_arc g v + i)) row ≡ choices r g row a
    arcs_at_arc row =
        let e = first_arc g v + i in
        let back : g.size + e - g.size ≡ e = omega arith in
        arcs_past_positions (g.size + e) row (omega arith) ∙
        ap (λ b. choices r g row b) (ap (λ x. get_or (arcs_below g g.size) x no_arc) back ∙ get_d_from_nth (arcs_below g g.size) e a no_arc (arc_numbered g.size v i a h there))

    pub arc_inside : g.size + (first_arc g v + i) < g.size + arc_total g
    arc_inside = let l = slice_get_within (arcs_below g g.size) (first_arc g v + i) a (arc_numbered g.size v i a h there) in omega arith

  pub mover_at_position : (v : ℕ) → v < g.size → cond (ltb v g.size) (g.mover v) Even ≡ g.mover v
  mover_at_position v h = cond-true (ltb v g.size) (g.mover v) Even (lt-ltb v g.size h)

  pub mover_past_positions : (at : ℕ) → g.size ≤ at → cond (ltb at g.size) (g.mover at) Even ≡ Even
  mover_past_positions at h = cond-false (ltb at g.size) (g.mover at) Even (le-ltb at g.size h)
