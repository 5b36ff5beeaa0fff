-- Heights of states, closed under double steps: closed heights of the layer give them, and they give closed heights back.
use Rattle.std.proofs.Common.{◌≡◌, ℕ, ◌+◌, ◌-◌, ◌*◌, ◌/◌, ◌%◌, ◌<◌, ◌≤◌, true, cond, ltb, List, [], map, length, get_or, Some, sym, refl, ap, ◌∙◌, subst, ap₂, inl, inr, mod-lt, div-lt_iff_lt-mul, mul-zero, div-add-mod', arith}
use mathlib.Core.Path.{subst⁻¹}
use Rattle.std.specs.List.{slice_get}
use Rattle.std.proofs.lemmas.Option.{slice_get-get_or}
use Rattle.std.proofs.lemmas.Bool.{cases_eq, cases_lt, cond-true, cond-false, lt-ltb, le-ltb}
use Rattle.game.specs.declared.Player.{Player}
use Rattle.game.specs.declared.Player.TheVariants.{Even, Odd}
use Rattle.game.specs.declared.Arc.{Arc}
use Rattle.game.specs.Game.{Game, Lawful, arc_at}
use Rattle.game.proofs.Arcs.{arc_there, arc_from}
use Rattle.rows.specs.Rows.{IsRow, rows}
use Rattle.rows.specs.Registers.{updated}
use Rattle.heights.specs.Climb.{lost, climb}
use Rattle.heights.specs.Heights.{asked, due, due_for, least, Closed}
use Rattle.determinacy.proofs.Players.{cases_player}
use Rattle.registers.specs.Layer.{no_arc, arcs_below, first_arc, arc_total, stands, row_count, updates, choices, layer, registers}
use Rattle.register_theory.specs.Doubling.{State, chosen, toll, StepsAreMoves, MovesAreSteps}
use Rattle.heights.proofs.Climb.{climb_by_zero}
use Rattle.register_theory.proofs.Extremes.{least_within, least_at_most, least_attained, greatest_at_least, greatest_at_most}
use Rattle.register_theory.proofs.Cells.{cell, stands_layer, updated_state, chosen_state, chosen_row, cell_at, cell_row, row_numbered, number_of, arc_found, arcs_past_positions, cell_arcs, cell_mover, cell_inside, arcs_at_position, arcs_at_arc, arc_inside, mover_at_position, mover_past_positions, nth_updates, nth_updates_back, update_arc_lem, nth_choices, nth_choices_back, choice_arc}

-- Some choice after the arc climbs to at most the height of the state.
abbrev pub Affords : Game → ℕ → (ℕ → List ℕ → ℕ) → ℕ → List ℕ → Arc → Type 0
Affords g r h v row a =
    (j : ℕ) × (j ≤ r) × (climb g.size r (h a.target (chosen j (updated a.priority row))) (toll j (updated a.priority row)) ≤ h v row)

-- Heights of states such that at each state that is not lost Even has an arc and a choice, or for each arc of Odd's a choice, whose climb is
-- at most the height.
pub record Doubly (g : Game) (r : ℕ) (h : ℕ → List ℕ → ℕ) : Type 0 where
  pub bounded : (v : ℕ) (row : List ℕ) → State g r v row → h v row ≤ lost g.size r
  pub evens : (v : ℕ) (row : List ℕ) → State g r v row → h v row < lost g.size r → g.mover v ≡ Even → (i : ℕ) × (a : Arc) × (arc_at g v i ≡ Some a) × Affords g r h v row a
  pub odds : (v : ℕ) (row : List ℕ) → State g r v row → h v row < lost g.size r → g.mover v ≡ Odd → (i : ℕ) (a : Arc) → arc_at g v i ≡ Some a → Affords g r h v row a

-- what is due at a position, by its mover and arcs
due_is : (n r : ℕ) (L : Game) (h : ℕ → ℕ) (x : ℕ) (p : Player) (arcs : List Arc) → L.mover x ≡ p → L.arcs x ≡ arcs → due n r L h x ≡ due_for p (lost n r) (map (asked n r h) arcs)
due_is n r L h x p arcs e f = ap₂ (λ q xs. due_for q (lost n r) (map (asked n r h) xs)) e f

module _ (r : ℕ) (g : Game) (lawful : Lawful g) where
  abbrev n : ℕ
  n = g.size

  module _ (h : ℕ → ℕ) where
    due_at_position : (p : Player) (v : ℕ) (row : List ℕ) → State g r v row → g.mover v ≡ p → due n r (layer r g) h (cell r g v row) ≡ due_for p (lost n r) (map (asked n r h) (updates r g row (first_arc g v) (g.arcs v)))
    due_at_position p v row state e =
        due_is n r (layer r g) h (cell r g v row) p (updates r g row (first_arc g v) (g.arcs v))
        (cell_mover r g row state.1 state.2 v ∙ mover_at_position r g v state.0 ∙ e)
        (cell_arcs r g row state.1 state.2 v ∙ arcs_at_position r g v row state.0)

    -- at the arc position behind arc i of v, what is due is the least over the choices
    module _ (v : ℕ) (row : List ℕ) (state : State g r v row) (i : ℕ) (a : Arc) (is_arc : arc_at g v i ≡ Some a) where
      abbrev behind : ℕ
      behind = cell r g (n + (first_arc g v + i)) (updated a.priority row)

      there : slice_get (g.arcs v) i ≡ Some a
      there = (arc_there g v i a is_arc).1

      behind_inside : behind < (layer r g).size
      behind_inside =
          let u = updated_state g lawful r v row state i a is_arc in
          cell_inside r g (updated a.priority row) u.0 u.1 (n + (first_arc g v + i)) (arc_inside r g v i a state.0 there)

      due_behind : due n r (layer r g) h behind ≡ least (lost n r) (map (asked n r h) (choices r g (updated a.priority row) a))
      due_behind =
          let u = updated_state g lawful r v row state i a is_arc in
          let e = n + (first_arc g v + i) in
          due_is n r (layer r g) h behind Even (choices r g (updated a.priority row) a)
          (cell_mover r g (updated a.priority row) u.0 u.1 e ∙ mover_past_positions r g e (omega arith))
          (cell_arcs r g (updated a.priority row) u.0 u.1 e ∙ arcs_at_arc r g v i a state.0 there (updated a.priority row))

      -- where its height is not lost, some choice climbs to at most it
      affords_behind : due n r (layer r g) h behind ≤ h behind → h behind < lost n r → (b : ℕ) → h behind ≤ b →
          (j : ℕ) × (j ≤ r) × (climb n r (h (cell r g a.target (chosen j (updated a.priority row)))) (toll j (updated a.priority row)) ≤ b)
      affords_behind enough low b under =
          let e = due_behind in
          let found = least_attained (asked n r h) (lost n r) (choices r g (updated a.priority row) a) (omega arith) in
          let (h', same) = nth_choices_back r g (updated a.priority row) a found.0 found.1 found.2 in
          let at_most : asked n r h found.1 ≤ b = (let l = found.3 in omega arith) in
          (found.0, h', subst (λ (x : Arc). asked n r h x ≤ b) same at_most)

  -- closed heights of the layer, read at the states
  module _ (h : ℕ → ℕ) (closed : Closed n r (layer r g) h) where
    state_inside : (v : ℕ) (row : List ℕ) → State g r v row → cell r g v row < (layer r g).size
    state_inside v row state = let l = state.0 in cell_inside r g row state.1 state.2 v (omega arith)

    affords : (v : ℕ) (row : List ℕ) (state : State g r v row) → h (cell r g v row) < lost n r → (i : ℕ) (a : Arc) (is_arc : arc_at g v i ≡ Some a) →
        asked n r h (update_arc_lem r g row (first_arc g v + i) a) ≤ h (cell r g v row) → Affords g r (λ v row. h (cell r g v row)) v row a
    affords v row state low i a is_arc under =
        let x = behind h v row state i a is_arc in
        let inside = behind_inside h v row state i a is_arc in
        let e = climb_by_zero n r (h x) (closed.bounded x inside) in
        affords_behind h v row state i a is_arc (closed.enough x inside) (omega arith) (h (cell r g v row)) (omega arith)

    doubly_from_layer : Doubly g r (λ v row. h (cell r g v row))
    doubly_from_layer = record {
      bounded = λ v row state. closed.bounded (cell r g v row) (state_inside v row state);
      evens = λ v row state low mine.
          let e = due_at_position h Even v row state mine in
          let enough = closed.enough (cell r g v row) (state_inside v row state) in
          let found = least_attained (asked n r h) (lost n r) (updates r g row (first_arc g v) (g.arcs v)) (omega arith) in
          let (a, there, same) = nth_updates_back r g row (first_arc g v) (g.arcs v) found.0 found.1 found.2 in
          let is_arc = arc_from g v found.0 a state.0 there in
          let at_most : asked n r h found.1 ≤ h (cell r g v row) = (let l = found.3 in omega arith) in
          (found.0, a, is_arc, affords v row state low found.0 a is_arc (subst (λ (x : Arc). asked n r h x ≤ h (cell r g v row)) {y = update_arc_lem r g row (first_arc g v + found.0) a} same at_most));
      odds = λ v row state low theirs i a is_arc.
          let e = due_at_position h Odd v row state theirs in
          let enough = closed.enough (cell r g v row) (state_inside v row state) in
          let there = (arc_there g v i a is_arc).1 in
          let l = greatest_at_least (asked n r h) (updates r g row (first_arc g v) (g.arcs v)) i (update_arc_lem r g row (first_arc g v + i) a) (nth_updates r g row (first_arc g v) (g.arcs v) i (first_arc g v + i) a refl there) in
          affords v row state low i a is_arc (omega arith);
    }

  -- heights of states, carried over to the layer
  module _ (H : ℕ → List ℕ → ℕ) (doubly : Doubly g r H) where
    row_at : ℕ → List ℕ
    row_at x = get_or (rows r g.top) (x % row_count r g) []

    at_state : ℕ → ℕ
    at_state x = H (x / row_count r g) (row_at x)

    -- a state has its own height, an arc position the least climb over its choices
    height : ℕ → ℕ
    height x = cond (ltb (x / row_count r g) n) (at_state x) (least (lost n r) (map (asked n r at_state) ((layer r g).arcs x)))

    height_at_state : (x : ℕ) → x / row_count r g < n → height x ≡ at_state x
    unfolding height
    height_at_state x h = cond-true (ltb (x / row_count r g) n) (at_state x) _ (lt-ltb (x / row_count r g) n h)

    height_past_states : (x : ℕ) → n ≤ x / row_count r g → height x ≡ least (lost n r) (map (asked n r at_state) ((layer r g).arcs x))
    unfolding height
    height_past_states x h = cond-false (ltb (x / row_count r g) n) (at_state x) _ (le-ltb (x / row_count r g) n h)

    module _ (v : ℕ) (row : List ℕ) (is_row : IsRow g.top row) (whole : length row ≡ r) where
      at_state_cell : at_state (cell r g v row) ≡ H v row
      unfolding at_state row_at
      at_state_cell = ap₂ H (cell_at r g row is_row whole v) (cell_row r g row is_row whole v)

      height_cell : v < n → height (cell r g v row) ≡ H v row
      height_cell h = height_at_state (cell r g v row) (rw (cell_at r g row is_row whole v) h) ∙ at_state_cell

    module _ (v : ℕ) (row : List ℕ) (state : State g r v row) where
      module _ (i : ℕ) (a : Arc) (is_arc : arc_at g v i ≡ Some a) where
        height_behind : height (behind height v row state i a is_arc) ≡ least (lost n r) (map (asked n r at_state) (choices r g (updated a.priority row) a))
        height_behind =
            let u = updated_state g lawful r v row state i a is_arc in
            let row' = updated a.priority row in
            let e = n + (first_arc g v + i) in
            height_past_states (cell r g e row') (rw (cell_at r g row' u.0 u.1 e) (omega arith)) ∙
            ap (λ xs. least (lost n r) (map (asked n r at_state) xs)) (cell_arcs r g row' u.0 u.1 e ∙ arcs_at_arc r g v i a state.0 (arc_there g v i a is_arc).1 row')

        asked_first : asked n r height (update_arc_lem r g row (first_arc g v + i) a) ≡ height (behind height v row state i a is_arc)
        asked_first =
            let e = height_behind in
            let h = least_within (asked n r at_state) (lost n r) (choices r g (updated a.priority row) a) in
            climb_by_zero n r (height (behind height v row state i a is_arc)) (omega arith)

        -- where a choice is afforded, the arc asks for no more than the height
        asked_at_most : Affords g r H v row a → asked n r height (update_arc_lem r g row (first_arc g v + i) a) ≤ H v row
        asked_at_most (j, h, under) =
            let row' = updated a.priority row in
            let next = chosen_state g lawful r v row state i a is_arc j h in
            let e = height_behind in
            let f = asked_first in
            let l = least_at_most (asked n r at_state) (lost n r) (choices r g row' a) j (choice_arc r g row' a j) (nth_choices r g row' a j h) in
            let c = ap (λ x. climb n r x (toll j row')) (at_state_cell a.target (chosen j row') next.1 next.2) in
            omega arith

        -- and never for more than what is lost
        asked_within : asked n r height (update_arc_lem r g row (first_arc g v + i) a) ≤ lost n r
        asked_within =
            let e = height_behind in
            let f = asked_first in
            let h = least_within (asked n r at_state) (lost n r) (choices r g (updated a.priority row) a) in
            omega arith

      even_enough : g.mover v ≡ Even → due n r (layer r g) height (cell r g v row) ≤ H v row
      even_enough mine =
          let e = due_at_position height Even v row state mine in
          let arcs = updates r g row (first_arc g v) (g.arcs v) in
          elim (cases_lt (H v row) (lost n r)) [
            | inl low ↦
                let (i, a, is_arc, afforded) = doubly.evens v row state low mine in
                let l = least_at_most (asked n r height) (lost n r) arcs i (update_arc_lem r g row (first_arc g v + i) a) (nth_updates r g row (first_arc g v) (g.arcs v) i (first_arc g v + i) a refl (arc_there g v i a is_arc).1) in
                let h = asked_at_most i a is_arc afforded in
                omega arith
            | inr high ↦ let l = least_within (asked n r height) (lost n r) arcs in omega arith
          ]

      odd_asked : g.mover v ≡ Odd → (i : ℕ) (b : Arc) → slice_get (updates r g row (first_arc g v) (g.arcs v)) i ≡ Some b → asked n r height b ≤ H v row
      odd_asked theirs i b here =
          let (a, there, same) = nth_updates_back r g row (first_arc g v) (g.arcs v) i b here in
          let is_arc = arc_from g v i a state.0 there in
          subst⁻¹ (λ (x : Arc). asked n r height x ≤ H v row) same (elim (cases_lt (H v row) (lost n r)) [
            | inl low ↦ asked_at_most i a is_arc (doubly.odds v row state low theirs i a is_arc)
            | inr high ↦ let h = asked_within i a is_arc in omega arith
          ])

      odd_enough : g.mover v ≡ Odd → due n r (layer r g) height (cell r g v row) ≤ H v row
      odd_enough theirs =
          let e = due_at_position height Odd v row state theirs in
          let l = greatest_at_most (asked n r height) (H v row) (updates r g row (first_arc g v) (g.arcs v)) (odd_asked theirs) in
          omega arith

      state_enough : due n r (layer r g) height (cell r g v row) ≤ height (cell r g v row)
      state_enough = rw (height_cell v row state.1 state.2 state.0) (elim (cases_player (g.mover v) Even) [ inl mine ↦ even_enough mine | inr theirs ↦ odd_enough theirs ])

    -- a position of the layer, by its place and its row
    module _ (x : ℕ) (inside : x < (layer r g).size) where
      rows_there : 0 < row_count r g
      rows_there = elim (cases_eq (row_count r g) 0) [
        | inl e ↦ let z = ap (λ m. (n + arc_total g) * m) e ∙ mul-zero (n + arc_total g) in absurd (omega arith)
        | inr more ↦ omega arith
      ]

      row_there : IsRow g.top (row_at x) × (length (row_at x) ≡ r)
      unfolding row_at
      row_there = row_numbered r g (x % row_count r g) (mod-lt x rows_there)

      is_cell : cell r g (x / row_count r g) (row_at x) ≡ x
      unfolding row_at
      is_cell =
          let e = number_of r g (x % row_count r g) (mod-lt x rows_there) in
          let split = div-add-mod' x (row_count r g) in
          omega arith

      place_inside : x / row_count r g < n + arc_total g
      place_inside = (div-lt_iff_lt-mul rows_there).1 inside

      height_bounded : height x ≤ lost n r
      height_bounded = elim (cases_lt (x / row_count r g) n) [
        | inl h ↦ rw (← is_cell, height_cell (x / row_count r g) (row_at x) row_there.0 row_there.1 h) (doubly.bounded (x / row_count r g) (row_at x) (h, row_there.0, row_there.1))
        | inr h ↦ rw (height_past_states x h) (least_within (asked n r at_state) (lost n r) ((layer r g).arcs x))
      ]

      -- past the positions
      module _ (past : n ≤ x / row_count r g) where
        abbrev the_arc : Arc
        the_arc = get_or (arcs_below g n) (x / row_count r g - n) no_arc

        arcs_here : (layer r g).arcs x ≡ choices r g (row_at x) the_arc
        unfolding row_at
        arcs_here = arcs_past_positions r g (x / row_count r g) (row_at x) past

        target_low : the_arc.target < n
        target_low =
            let h = place_inside in
            let there = slice_get-get_or (arcs_below g n) (x / row_count r g - n) no_arc (omega arith) in
            let (v, i, l, arc) = arc_found r g n (x / row_count r g - n) the_arc there in
            lawful.target_inside v i the_arc (arc_from g v i the_arc l arc)

        -- a choice asks by the new heights what it asks by those of the states
        asked_same : (j : ℕ) (b : Arc) → slice_get ((layer r g).arcs x) j ≡ Some b → asked n r height b ≡ asked n r at_state b
        asked_same j b here =
            let (h, same) = nth_choices_back r g (row_at x) the_arc j b (rw arcs_here at here) in
            let next = chosen_row r g.top j (row_at x) row_there.0 row_there.1 h in
            subst⁻¹ (λ (c : Arc). asked n r height c ≡ asked n r at_state c) same
            (ap (λ y. climb n r y (toll j (row_at x))) (height_at_state (cell r g the_arc.target (chosen j (row_at x))) (rw (cell_at r g (chosen j (row_at x)) next.0 next.1 the_arc.target) target_low)))

        past_enough : due n r (layer r g) height x ≤ height x
        past_enough =
            let arcs = (layer r g).arcs x in
            let e = due_is n r (layer r g) height x Even arcs (mover_past_positions r g (x / row_count r g) past) refl in
            let f = height_past_states x past in
            elim (cases_lt (least (lost n r) (map (asked n r at_state) arcs)) (lost n r)) [
              | inl low ↦
                  let (j, b, here, attained) = least_attained (asked n r at_state) (lost n r) arcs low in
                  let l = least_at_most (asked n r height) (lost n r) arcs j b here in
                  let s = asked_same j b here in
                  omega arith
              | inr high ↦ let l = least_within (asked n r height) (lost n r) arcs in omega arith
            ]

      height_enough : due n r (layer r g) height x ≤ height x
      height_enough = elim (cases_lt (x / row_count r g) n) [
        | inl h ↦ subst (λ y. due n r (layer r g) height y ≤ height y) is_cell (state_enough (x / row_count r g) (row_at x) (h, row_there.0, row_there.1))
        | inr h ↦ past_enough h
      ]

    layer_closed : Closed n r (layer r g) height
    layer_closed = record { bounded = height_bounded; enough = height_enough }

abbrev arc_with : ℕ → ℕ → Arc
arc_with target priority = record { target = target; priority = priority }

module _ (r : ℕ) (g : Game) (lawful : Lawful g) (e : stands r g ≡ true) where
  pub doubly_from_closed : (h : ℕ → ℕ) → Closed g.size r (registers r g) h → Doubly g r (λ v row. h (cell r g v row))
  doubly_from_closed h closed = doubly_from_layer r g lawful h (subst (λ (L : Game). Closed g.size r L h) (stands_layer r g e) closed)

  pub closed_from_doubly : (H : ℕ → List ℕ → ℕ) → Doubly g r H → (h : ℕ → ℕ) × Closed g.size r (registers r g) h × ((v : ℕ) (row : List ℕ) → State g r v row → h (cell r g v row) ≡ H v row)
  closed_from_doubly H doubly = (
    height r g lawful H doubly,
    subst⁻¹ (λ (L : Game). Closed g.size r L (height r g lawful H doubly)) (stands_layer r g e) (layer_closed r g lawful H doubly),
    λ v row state. height_cell r g lawful H doubly v row state.1 state.2 state.0,
  )

  -- a double step is two moves of the layer
  pub steps_are_moves_lem : StepsAreMoves g r
  steps_are_moves_lem v w p q row next state m =
      let i = m.number in
      let a = m.arc in
      let is_arc = m.is_arc in
      let there = (arc_there g v i a is_arc).1 in
      let row' = updated a.priority row in
      let u = updated_state g lawful r v row state i a is_arc in
      let x = cell r g (g.size + (first_arc g v + i)) row' in
      let l = state.0 in
      let row_same : chosen m.choice row' ≡ next = ap (λ y. chosen m.choice (updated y row)) m.costs ∙ m.next_row in
      let price_same : toll m.choice row' ≡ q = ap (λ y. toll m.choice (updated y row)) m.costs ∙ m.price in
      let same : Some (choice_arc r g row' a m.choice) ≡ Some (arc_with (cell r g w next) q) = ap₂ (λ y z. Some (arc_with y z)) (ap₂ (λ y z. cell r g y z) m.leads row_same) price_same in
      subst⁻¹ (λ (L : Game). (x i j : ℕ) × (arc_at L (cell r g v row) i ≡ Some (arc_with x 0)) × (arc_at L x j ≡ Some (arc_with (cell r g w next) q))) (stands_layer r g e) (
        x,
        i,
        m.choice,
        arc_from (layer r g) (cell r g v row) i (arc_with x 0) (cell_inside r g row state.1 state.2 v (omega arith))
            (ap (λ xs. slice_get xs i) (cell_arcs r g row state.1 state.2 v ∙ arcs_at_position r g v row state.0) ∙ nth_updates r g row (first_arc g v) (g.arcs v) i (first_arc g v + i) a refl there),
        arc_from (layer r g) x m.choice (arc_with (cell r g w next) q) (cell_inside r g row' u.0 u.1 (g.size + (first_arc g v + i)) (arc_inside r g v i a state.0 there))
            (ap (λ xs. slice_get xs m.choice) (cell_arcs r g row' u.0 u.1 (g.size + (first_arc g v + i)) ∙ arcs_at_arc r g v i a state.0 there row') ∙ nth_choices r g row' a m.choice m.a_choice ∙ same),
      )

  -- two moves of the layer from a state are a double step
  pub moves_are_steps : MovesAreSteps g r
  moves_are_steps v i j row a b state first second =
      let in_layer : arc_at (layer r g) (cell r g v row) i ≡ Some a = subst (λ (L : Game). arc_at L (cell r g v row) i ≡ Some a) (stands_layer r g e) first in
      let here = (arc_there (layer r g) (cell r g v row) i a in_layer).1 in
      let at_v = cell_arcs r g row state.1 state.2 v ∙ arcs_at_position r g v row state.0 in
      let (c, there, same_a) = nth_updates_back r g row (first_arc g v) (g.arcs v) i a (subst (λ xs. slice_get xs i ≡ Some a) at_v here) in
      let is_arc = arc_from g v i c state.0 there in
      let row' = updated c.priority row in
      let u = updated_state g lawful r v row state i c is_arc in
      let x = cell r g (g.size + (first_arc g v + i)) row' in
      let to_x : a.target ≡ x = ap (λ (y : Arc). y.target) same_a in
      let next_move : arc_at (layer r g) x j ≡ Some b = subst (λ (L : Game). arc_at L x j ≡ Some b) (stands_layer r g e) (subst (λ y. arc_at (registers r g) y j ≡ Some b) to_x second) in
      let at_x = cell_arcs r g row' u.0 u.1 (g.size + (first_arc g v + i)) ∙ arcs_at_arc r g v i c state.0 there row' in
      let (a_choice, same_b) = nth_choices_back r g row' c j b (subst (λ xs. slice_get xs j ≡ Some b) at_x (arc_there (layer r g) x j b next_move).1) in (
        c.target,
        c.priority,
        chosen j row',
        record { number = i; arc = c; choice = j; is_arc = is_arc; leads = refl; costs = refl; a_choice = a_choice; next_row = refl; price = sym (ap (λ (y : Arc). y.priority) same_b) },
        ap (λ (y : Arc). y.priority) same_a,
        ap (λ (y : Arc). y.target) same_b,
      )
