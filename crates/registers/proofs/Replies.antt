-- What the layer replies, from what its parts answer.
use Rattle.std.proofs.Common.{◌≡◌, ℕ, zero, suc, ◌+◌, ◌-◌, ◌*◌, ◌/◌, ◌%◌, ◌<◌, ◌≤◌, cond, ltb, leb, List, [], length, get_or, Some, None, Option, sym, refl, ap, ◌∙◌, inl, inr, arith}
use Rattle.std.specs.Option.{option_map}
use Rattle.std.specs.List.{slice_get}
use Rattle.std.proofs.lemmas.List.{get_or_past}
use Rattle.std.proofs.lemmas.Nat.{div_below, le-div, mod_below}
use Rattle.std.proofs.lemmas.Option.{cond_some, none-some, slice_get_past}
use Rattle.std.proofs.lemmas.Bool.{cases_lt, and_from, and_right, le-leb, lt-leb, cond-true, cond-false, lt-ltb, le-ltb, ltb-true}
use Rattle.game.specs.declared.Player.{Player}
use Rattle.game.specs.declared.Player.TheVariants.{Even}
use Rattle.game.specs.declared.Arc.{Arc}
use Rattle.game.specs.Game.{Game, mover_at, arc_count_at, arc_at}
use Rattle.rows.specs.Rows.{rows, place}
use Rattle.rows.specs.Registers.{updated}
use Rattle.rows.specs.Views.{has_register}
use Rattle.registers.specs.declared.position.Position.{Position}
use Rattle.registers.specs.declared.registers.Layer.{Layer}
use Rattle.registers.specs.declared.row_moves.Step.{Step}
use Rattle.registers.specs.Layer.{arcs_below, first_arc, arc_total, row_count, updates, resets_to, choices, no_arc, layer_arcs}
use Rattle.registers.specs.Arcs.{some_row, row_numbered, update_arc, length_updates, updates_at, length_resets, resets_at}
use Rattle.registers.specs.Copies.{position_in, arc_number, last_inside, first_is, all_arcs, copied_count, copied_arc}
use Rattle.registers.specs.Tables.{step_in, step_at}
use Rattle.registers.proofs.Reading.{position_found}
use Rattle.registers.specs.Views.{below_of, layer_game, row_total, place_total, enter_arc, leave_arc}

module _ (s : Layer) where
  abbrev r : ℕ
  r = s.moves.shape.registers

  abbrev count : ℕ
  count = row_total s

  abbrev below : Game
  below = below_of s.below

  abbrev row : ℕ → List ℕ
  row k = get_or (rows r s.below.top) k []

  abbrev positions : List Position
  positions = s.below.positions.items

  abbrev size : ℕ
  size = length positions

  abbrev arcs : List Arc
  arcs = s.below.arcs.items

  abbrev first : ℕ → ℕ
  first v = (position_in positions arcs v).first

  abbrev arc_count : ℕ → ℕ
  arc_count v = (position_in positions arcs v).count

  -- the layer has as many rows and arcs as it should
  rows_are : row_count r below ≡ count
  rows_are = ap (λ t. length (rows r t)) (sym s.same) ∙ sym s.moves.counted

  arcs_are : arcs_below below size ≡ arcs
  arcs_are = all_arcs s.below.spans s.below.top

  pub some_rows : 0 < count
  some_rows = let e = s.moves.counted in let h = some_row r s.moves.shape.top in omega arith

  pub size_is : place_total s * count ≡ (layer_game s).size
  size_is = ap (λ n. (size + n) * count) (ap length (sym arcs_are)) ∙ ap (λ n. (size + arc_total below) * n) (sym rows_are)

  there : (x : ℕ) → x / count < place_total s → x < (layer_game s).size
  there x h = elim (cases_lt x (layer_game s).size) [
    | inl l ↦ l
    | inr l ↦ let e = size_is in let m = le-div (place_total s) x count some_rows (omega arith) in absurd (omega arith)
  ]

  absent : (x : ℕ) → place_total s ≤ x / count → (layer_game s).size ≤ x
  absent x h = elim (cases_lt x (layer_game s).size) [
    | inl l ↦ let e = size_is in let m = div_below x count (place_total s) some_rows (omega arith) in absurd (omega arith)
    | inr l ↦ l
  ]

  -- a reply at a position of the layer, and behind its positions
  reply_there : {X : Type 0} (x : ℕ) (o p : Option X) → x / count < place_total s → o ≡ p → o ≡ cond (ltb x (layer_game s).size) p None
  reply_there x o p h e = e ∙ sym (cond-true (ltb x (layer_game s).size) p None (lt-ltb x (layer_game s).size (there x h)))

  pub reply_absent : {X : Type 0} (x : ℕ) (o p : Option X) → o ≡ None → place_total s ≤ x / count → o ≡ cond (ltb x (layer_game s).size) p None
  reply_absent x o p e h = e ∙ sym (cond-false (ltb x (layer_game s).size) p None (le-ltb x (layer_game s).size (absent x h)))

  mover_is : (x : ℕ) → cond (ltb (x / count) size) (below.mover (x / count)) Even ≡ (layer_game s).mover x
  mover_is x = ap (λ n. cond (ltb (x / n) size) (below.mover (x / n)) Even) (sym rows_are)

  even_behind : (v : ℕ) → below.mover v ≡ cond (ltb v size) (below.mover v) Even
  even_behind v = elim (cases_lt v size) [
    | inl h ↦ sym (cond-true (ltb v size) (below.mover v) Even (lt-ltb v size h))
    | inr h ↦ ap (λ (p : Position). p.mover) (get_or_past positions v _ h) ∙ sym (cond-false (ltb v size) (below.mover v) Even (le-ltb v size h))
  ]

  pub mover_there : (x n : ℕ) (m : Player) → n ≡ count → m ≡ (position_in positions arcs (x / n)).mover → x < (layer_game s).size → Some m ≡ mover_at (layer_game s) x
  mover_there x n m e f h =
      ap Some (f ∙ ap (λ c. below.mover (x / c)) e ∙ even_behind (x / count) ∙ mover_is x) ∙
      sym (cond-true (ltb x (layer_game s).size) (Some ((layer_game s).mover x)) None (lt-ltb x (layer_game s).size h))

  -- the layer's arcs at a place with row k
  arcs_is : (x at k : ℕ) → at ≡ x / count → k ≡ x % count → layer_arcs r below at (row k) ≡ (layer_game s).arcs x
  arcs_is x at k e f =
      ap (λ m. layer_arcs r below m (row k)) e ∙
      ap (λ m. layer_arcs r below (x / count) (row m)) f ∙
      ap (λ n. layer_arcs r below (x / n) (row (x % n))) (sym rows_are)

  -- at a position below
  module _ (x v k : ℕ) (h : v < size) (e : v ≡ x / count) where
    arcs_at_position : k ≡ x % count → updates r below (row k) (first_arc below v) (below.arcs v) ≡ (layer_game s).arcs x
    arcs_at_position f = sym (cond-true (ltb v size) _ _ (lt-ltb v size h)) ∙ arcs_is x v k e f

    module _ (f : k ≡ x % count) where
      pub count_at_position : (xs : List Position) (d : Position) → xs ≡ positions → Some (get_or xs v d).count ≡ arc_count_at (layer_game s) x
      count_at_position xs d is =
          reply_there x (Some (get_or xs v d).count) (Some (length ((layer_game s).arcs x))) (omega arith)
          (ap Some
          (ap (λ (q : Position). q.count) (position_found positions xs arcs v d is h) ∙
          sym (copied_count s.below.spans s.below.top v h) ∙
          sym (length_updates r below (row k) (first_arc below v) (below.arcs v)) ∙
          ap length (arcs_at_position f)))

      pub number_inside : (i n : ℕ) → Some n ≡ arc_number positions arcs v i → (i < arc_count v) × (first v + i ≡ n) × (n < length arcs)
      number_inside i n g =
          let (b, same) = cond_some (ltb i (arc_count v)) (first v + i) n (sym g) in
          let l = ltb-true i (arc_count v) b in
          let m = last_inside s.below.spans v h in
          (l, same, omega arith)

      pub arc_at_position : (i n : ℕ) → Some n ≡ arc_number positions arcs v i → Some (enter_arc s n k) ≡ arc_at (layer_game s) x i
      arc_at_position i n g =
          let (l, same, _) = number_inside i n g in
          let a : Arc = get_or arcs n no_arc in
          let led : (t m : ℕ) → Arc = λ t m. record { target = (size + n) * m + place (updated a.priority (get_or (rows r t) k [])) (rows r t); priority = 0 } in
          let number : first_arc below v + i ≡ n = ap (λ m. m + i) (first_is s.below.spans s.below.top v (omega arith)) ∙ same in
          let found : slice_get (below.arcs v) i ≡ Some a = copied_arc s.below.spans s.below.top v i h l ∙ ap (λ m. Some (get_or arcs m no_arc)) same in
          reply_there x (Some (enter_arc s n k)) (slice_get ((layer_game s).arcs x) i) (omega arith)
          (ap (λ t. Some (led t count)) s.same ∙
          ap (λ m. Some (led s.below.top m)) (sym rows_are) ∙
          ap (option_map (update_arc r below (row k) n)) (sym found) ∙
          ap (λ m. option_map (update_arc r below (row k) m) (slice_get (below.arcs v) i)) (sym number) ∙
          sym (updates_at r below (row k) (first_arc below v) (below.arcs v) i) ∙
          ap (λ xs. slice_get xs i) (arcs_at_position f))

      pub no_arc_at_position : (i : ℕ) (o : Option Arc) → o ≡ None → None ≡ arc_number positions arcs v i → o ≡ arc_at (layer_game s) x i
      no_arc_at_position i o none g = elim (cases_lt i (arc_count v)) [
        | inl l ↦ absurd (none-some (first v + i) (g ∙ cond-true (ltb i (arc_count v)) _ None (lt-ltb i (arc_count v) l)))
        | inr l ↦
            let n = copied_count s.below.spans s.below.top v h in
            let m = length_updates r below (row k) (first_arc below v) (below.arcs v) in
            reply_there x o (slice_get ((layer_game s).arcs x) i) (omega arith)
            (none ∙
            sym (slice_get_past (updates r below (row k) (first_arc below v) (below.arcs v)) i (omega arith)) ∙
            ap (λ xs. slice_get xs i) (arcs_at_position f))
      ]

  -- at an arc below
  module _ (x n k : ℕ) (h : n < length arcs) (e : size + n ≡ x / count) where
    behind : size ≤ x / count
    behind = omega arith

    module _ (f : k ≡ x % count) where
      arcs_at_arc : choices r below (row k) (get_or arcs n no_arc) ≡ (layer_game s).arcs x
      arcs_at_arc =
          let number : n ≡ size + n - size = omega arith in
          ap (λ xs. choices r below (row k) (get_or xs n no_arc)) (sym arcs_are) ∙
          ap (λ m. choices r below (row k) (get_or (arcs_below below size) m no_arc)) number ∙
          sym (cond-false (ltb (size + n) size) _ _ (le-ltb (size + n) size (omega arith))) ∙
          arcs_is x (size + n) k e f

      pub count_at_arc : Some (r + 1) ≡ arc_count_at (layer_game s) x
      count_at_arc =
          let resets : List Arc = resets_to r below (row k) (get_or arcs n no_arc) r in
          let m = length_resets r below (row k) (get_or arcs n no_arc) r in
          let one_more : r + 1 ≡ suc (length resets) = omega arith in
          reply_there x (Some (r + 1)) (Some (length ((layer_game s).arcs x))) (omega arith)
          (ap Some (one_more ∙ ap length arcs_at_arc))

      -- where step j from the row leads
      abbrev led : Option Step → Option Arc
      led o = option_map (λ (step : Step). record { target = (get_or arcs n no_arc).target * row_count r below + step.row; priority = step.priority }) o

      in_row : k < length (rows r s.below.top)
      in_row = let m = mod_below x count some_rows in let c = rows_are in omega arith

      chosen : (j : ℕ) → led (step_in (rows r s.below.top) (row k) j) ≡ slice_get (choices r below (row k) (get_or arcs n no_arc)) j
      chosen zero = refl
      chosen (suc j) =
          let long = (row_numbered r s.below.top k in_row).1 in
          elim (cases_lt j r) [
            | inl low ↦
                let has = and_from (leb 1 (suc j)) (leb (suc j) (length (row k))) (le-leb 1 (suc j) (omega arith)) (le-leb (suc j) (length (row k)) (omega arith)) in
                ap led (cond-true (has_register (suc j) (row k)) _ None has) ∙
                sym (resets_at r below (row k) (get_or arcs n no_arc) r j low)
            | inr past ↦
                let m = length_resets r below (row k) (get_or arcs n no_arc) r in
                let none = and_right (leb 1 (suc j)) (leb (suc j) (length (row k))) (lt-leb (suc j) (length (row k)) (omega arith)) in
                ap led (cond-false (has_register (suc j) (row k)) _ None none) ∙
                sym (slice_get_past (resets_to r below (row k) (get_or arcs n no_arc) r) j (omega arith))
          ]

      pub arc_at_arc : (j : ℕ) (o : Option Arc) → o ≡ leave_arc s n k j → o ≡ arc_at (layer_game s) x j
      arc_at_arc j o is =
          let to : (t m : ℕ) → Option Arc = λ t m. option_map (λ (step : Step). record { target = (get_or arcs n no_arc).target * m + step.row; priority = step.priority }) (step_at r t k j) in
          reply_there x o (slice_get ((layer_game s).arcs x) j) (omega arith)
          (is ∙
          ap (λ t. to t count) s.same ∙
          ap (λ m. to s.below.top m) (sym rows_are) ∙
          chosen j ∙
          ap (λ xs. slice_get xs j) arcs_at_arc)
