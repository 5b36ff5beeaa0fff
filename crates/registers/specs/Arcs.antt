-- What the numbers of rows and the arcs of the layer are, one by one.
use Rattle.std.specs.Prelude.{◌≡◌, ℕ, zero, suc, ◌+◌, ◌*◌, ◌<◌, ◌≤◌, List, [], ◌∷◌, length, replicate, Some, slice_index_or, refl}
use Rattle.std.proofs.Common.{sym, ap, ◌∙◌, inl, inr, arith}
use Rattle.std.specs.Option.{option_map}
use Rattle.std.specs.List.{slice_get}
use Rattle.std.proofs.lemmas.List.{length-append, length_push, length-replicate}
use Rattle.std.proofs.lemmas.Option.{none-some, slice_get-get_or, slice_get_within}
use Rattle.std.proofs.lemmas.Bool.{cases_lt}
use Rattle.game.specs.declared.Arc.{Arc}
use Rattle.game.specs.Game.{Game, Lawful}
use Rattle.game.proofs.Arcs.{arc_from}
use Rattle.rows.specs.Choose.{choose}
use Rattle.rows.specs.Rows.{IsRow, rows, place, formula}
use Rattle.rows.specs.Registers.{updated, reset}
use Rattle.rows.proofs.Members.{nth_left, nth_right, nth_joined}
use Rattle.rows.proofs.Numbering.{rows_counted_lem, listed_row, row_listed, place_is, rows_numbered_lem}
use Rattle.rows.proofs.Moving.{rows_kept_lem}
use Rattle.rows.proofs.Held.{zeros_row}
use Rattle.registers.specs.Layer.{arcs_below, first_arc, row_count, row_number, updates, reset_arc, resets_to}

choose_next : (a b : ℕ) → choose a b ≤ choose (suc a) b
choose_next a zero = omega arith
choose_next a (suc b) = omega arith

pub choose_grows : (a n b : ℕ) → a ≤ n → choose a b ≤ choose n b
choose_grows a zero b h = let e : a ≡ 0 = omega arith in rw e (omega arith)
choose_grows a (suc n) b h = elim (cases_lt n a) [
  | inl l ↦ let e : a ≡ suc n = omega arith in rw e (omega arith)
  | inr l ↦ let k = choose_grows a n b l in let s = choose_next n b in omega arith
]

-- how many rows up to five registers have, with contents up to 9 and up to 10
pub few_choices : (r : ℕ) → r ≤ 5 → (choose (9 + r) r ≤ 2002) × (choose (10 + r) r ≤ 3003)
few_choices zero h = (omega arith, omega arith)
few_choices (suc zero) h = (omega arith, omega arith)
few_choices (suc (suc zero)) h = (omega arith, omega arith)
few_choices (suc (suc (suc zero))) h = (omega arith, omega arith)
few_choices (suc (suc (suc (suc zero)))) h = (omega arith, omega arith)
few_choices (suc (suc (suc (suc (suc zero))))) h = (omega arith, omega arith)
few_choices (suc (suc (suc (suc (suc (suc r)))))) h = absurd (omega arith)

-- there are 1 to 2002 rows
pub few_ways : (r top : ℕ) → r ≤ 5 → top ≤ 9 → choose (top + r) r ≤ 2002
few_ways r top h l = let grows = choose_grows (top + r) (9 + r) r (omega arith) in let few = few_choices r h in omega arith

pub few_rows : (r top : ℕ) → r ≤ 5 → top ≤ 9 → length (rows r top) ≤ 2002
few_rows r top h l = rw (rows_counted_lem r top) (few_ways r top h l)

pub some_row : (r top : ℕ) → 1 ≤ length (rows r top)
some_row r top =
    let zs : List ℕ = replicate r 0 in
    let h = slice_get_within (rows r top) (formula zs) zs (row_listed r top zs (zeros_row top r) (length-replicate r 0)) in
    omega arith

-- the row with a number, its number, and the numbers of the rows that a move leads to
module _ (r top k : ℕ) (there : k < length (rows r top)) where
  pub row_there : slice_get (rows r top) k ≡ Some (slice_index_or (rows r top) k [])
  row_there = slice_get-get_or (rows r top) k [] there

  pub row_numbered : IsRow top (slice_index_or (rows r top) k []) × (length (slice_index_or (rows r top) k []) ≡ r)
  row_numbered = listed_row r top k (slice_index_or (rows r top) k []) row_there

  pub number_is : place (slice_index_or (rows r top) k []) (rows r top) ≡ k
  number_is = place_is r top k (slice_index_or (rows r top) k []) row_there

  number_below : (xs : List ℕ) → IsRow top xs × (length xs ≡ length (slice_index_or (rows r top) k [])) → place xs (rows r top) < length (rows r top)
  number_below xs h =
      slice_get_within (rows r top) (place xs (rows r top)) xs (rows_numbered_lem.1 r top xs h.0 (h.1 ∙ row_numbered.1))

  pub updated_number : (p : ℕ) → p ≤ top → place (updated p (slice_index_or (rows r top) k [])) (rows r top) < length (rows r top)
  updated_number p low =
      number_below (updated p (slice_index_or (rows r top) k [])) (rows_kept_lem.0 top p (slice_index_or (rows r top) k []) row_numbered.0 low)

  pub reset_number : (j : ℕ) → 1 ≤ j → j ≤ r → place (reset j (slice_index_or (rows r top) k [])) (rows r top) < length (rows r top)
  reset_number j some low =
      let e = row_numbered.1 in
      number_below (reset j (slice_index_or (rows r top) k [])) (rows_kept_lem.1 top j (slice_index_or (rows r top) k []) row_numbered.0 some (omega arith))

-- the arcs of the positions below one are among all
pub first_grows : (g : Game) (v n : ℕ) → v ≤ n → first_arc g v ≤ first_arc g n
first_grows g v zero h = let e : v ≡ 0 = omega arith in rw e (omega arith)
first_grows g v (suc n) h = elim (cases_lt n v) [
  | inl l ↦ let e : v ≡ suc n = omega arith in rw e (omega arith)
  | inr l ↦ let k = first_grows g v n l in let s = length-append (arcs_below g n) (g.arcs n) in omega arith
]

pub arc_number_lem : (g : Game) (v n i : ℕ) → v < n → i < length (g.arcs v) → first_arc g v + i < first_arc g n
arc_number_lem g v n i h l =
    let s = length-append (arcs_below g v) (g.arcs v) in
    let k = first_grows g (suc v) n h in
    omega arith

pub arc_below : (g : Game) → Lawful g → (v e : ℕ) (a : Arc) → v ≤ g.size → slice_get (arcs_below g v) e ≡ Some a → (a.target < g.size) × (a.priority ≤ g.top)
arc_below g laws zero e a h there = absurd (none-some a there)
arc_below g laws (suc v) e a h there = elim (nth_joined (arcs_below g v) (g.arcs v) e a there) [
  | inl l ↦ arc_below g laws v e a (omega arith) l
  | inr (m, _, at) ↦ let f = arc_from g v m a h at in (laws.target_inside v m a f, laws.priority_low v m a f)
]

module _ (r : ℕ) (g : Game) (row : List ℕ) where
  abbrev pub update_arc : ℕ → Arc → Arc
  update_arc e a = record { target = (g.size + e) * row_count r g + row_number r g (updated a.priority row); priority = 0 }

  pub length_updates : (e : ℕ) (arcs : List Arc) → length (updates r g row e arcs) ≡ length arcs
  length_updates e [] = refl
  length_updates e (a ∷ arcs) = ap suc (length_updates (suc e) arcs)

  pub updates_at : (e : ℕ) (arcs : List Arc) (i : ℕ) → slice_get (updates r g row e arcs) i ≡ option_map (update_arc (e + i)) (slice_get arcs i)
  updates_at e [] i = refl
  updates_at e (a ∷ arcs) zero = let same : e ≡ e + 0 = omega arith in ap (λ x. Some (update_arc x a)) same
  updates_at e (a ∷ arcs) (suc i) =
      let same : suc e + i ≡ e + suc i = omega arith in
      updates_at (suc e) arcs i ∙ ap (λ x. option_map (update_arc x) (slice_get arcs i)) same

  pub length_resets : (a : Arc) (n : ℕ) → length (resets_to r g row a n) ≡ n
  length_resets a zero = refl
  length_resets a (suc n) = let h = length_resets a n in let s = length_push (resets_to r g row a n) (reset_arc r g row a (suc n)) in omega arith

  pub resets_at : (a : Arc) (n j : ℕ) → j < n → slice_get (resets_to r g row a n) j ≡ Some (reset_arc r g row a (suc j))
  resets_at a zero j h = absurd (omega arith)
  resets_at a (suc n) j h = elim (cases_lt j n) [
    | inl l ↦ nth_left (resets_to r g row a n) (reset_arc r g row a (suc n) ∷ []) j (reset_arc r g row a (suc j)) (resets_at a n j l)
    | inr l ↦
        let e : j ≡ n = omega arith in
        let s = length_resets a n in
        nth_right (resets_to r g row a n) (reset_arc r g row a (suc n) ∷ []) 0 j (omega arith) ∙ ap (λ m. Some (reset_arc r g row a (suc m))) (sym e)
  ]
