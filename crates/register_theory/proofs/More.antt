-- More registers keep what fewer keep: a row of s registers has the heights of its lower r registers.
use Rattle.std.proofs.Common.{◌≡◌, ℕ, zero, suc, ◌+◌, ◌-◌, ◌*◌, ◌%◌, ◌<◌, ◌≤◌, max, true, cond, ltb, List, [], ◌∷◌, ◌++◌, length, get_or, drop, replicate, sym, refl, ap, ◌∙◌, ap₂, inl, inr, arith}
use mathlib.Core.Path.{subst⁻¹}
use native.Mathlib.Nat.{pow-le-pow_right}
use Rattle.std.specs.List.{remove}
use Rattle.std.proofs.lemmas.List.{length-drop, get_or-drop, drop-map, drop-append-le, drop-replicate}
use Rattle.std.proofs.lemmas.List.Edits.{length-remove}
use Rattle.std.proofs.lemmas.Bool.{cases_lt, cond-true, cond-false, lt-ltb, le-ltb}
use Rattle.game.specs.declared.Arc.{Arc}
use Rattle.game.specs.Game.{Game, Lawful}
use Rattle.rows.specs.Rows.{IsRow}
use Rattle.rows.specs.Registers.{updated}
use Rattle.rows.proofs.Numbering.{row_under}
use Rattle.rows.proofs.Moving.{length_updated}
use Rattle.heights.specs.Climb.{lost, climb}
use Rattle.registers.specs.Layer.{stands, row_count, registers}
use Rattle.register_theory.specs.Doubling.{State, chosen, toll}
use Rattle.register_theory.specs.Kept.{Kept, StillKept, KeptByLeast}
use Rattle.register_theory.proofs.Exist.{heights_exist}
use Rattle.heights.proofs.Climb.{climb_below}
use Rattle.register_theory.proofs.Climbing.{climbed_from_kept}
use Rattle.register_theory.proofs.Cells.{cell, cell_inside, stands_layer}
use Rattle.register_theory.proofs.Doubly.{Affords, Doubly, closed_from_doubly}
use Rattle.register_theory.proofs.Sound.{zeros_state, zeros_cell, DoublyKept, doubly_kept}

drop_row : (t k : ℕ) (xs : List ℕ) → IsRow t xs → IsRow t (drop k xs)
drop_row t zero xs row = row
drop_row t (suc k) [] row = tt
drop_row t (suc k) (x ∷ xs) row = row_under x t (drop k xs) row.0 (drop_row x k xs row.1)

removed_none : (i : ℕ) → [] ≡ remove {X = ℕ} [] i
removed_none zero = refl
removed_none (suc i) = refl

drop_removed : (k i m : ℕ) (xs : List ℕ) → m ≡ k + i → drop k (remove xs m) ≡ remove (drop k xs) i
drop_removed zero i m xs e = let same : m ≡ i = omega arith in ap (λ x. remove xs x) same
drop_removed (suc k) i zero xs e = absurd (omega arith)
drop_removed (suc k) i (suc m) [] e = removed_none i
drop_removed (suc k) i (suc m) (x ∷ xs) e = drop_removed k i m xs (omega arith)

-- the lower r of the s registers of a row
module _ (r s : ℕ) (fewer : r ≤ s) (xs : List ℕ) (whole : length xs ≡ s) where
  lower_length : length (drop (s - r) xs) ≡ r
  lower_length = let e = length-drop (s - r) xs in omega arith

  -- a choice among them acts on them alone
  lower_chosen : (j : ℕ) → j ≤ r → drop (s - r) (chosen j xs) ≡ chosen j (drop (s - r) xs)
  lower_chosen zero h = refl
  lower_chosen (suc j) h =
      let k = s - r in
      let left = lower_length in
      let n = length-remove xs (length xs - suc j) (omega arith) in
      drop-append-le k (remove xs (length xs - suc j)) (0 ∷ []) (omega arith) ∙
      ap (λ ys. ys ++ 0 ∷ []) (drop_removed k (length (drop k xs) - suc j) (length xs - suc j) xs (omega arith))

  lower_toll : (j : ℕ) → j ≤ r → toll j xs ≡ toll j (drop (s - r) xs)
  lower_toll zero h = refl
  lower_toll (suc j) h =
      let k = s - r in
      let left = lower_length in
      let place : length xs - suc j ≡ k + (length (drop k xs) - suc j) = omega arith in
      let e = ap (λ x. get_or xs x 0) place ∙ sym (get_or-drop k xs (length (drop k xs) - suc j) 0) in
      ap (λ x. 2 * suc j + x % 2) e

module _ (g : Game) (r s : ℕ) (fewer : r ≤ s) (H : ℕ → List ℕ → ℕ) (doubly : Doubly g r H) where
  abbrev n : ℕ
  n = g.size

  abbrev lower : List ℕ → List ℕ
  lower row = drop (s - r) row

  wider : ℕ → List ℕ → ℕ
  wider v row = cond (ltb (H v (lower row)) (lost n r)) (H v (lower row)) (lost n s)

  wider_kept : (v : ℕ) (row : List ℕ) → H v (lower row) < lost n r → wider v row ≡ H v (lower row)
  unfolding wider
  wider_kept v row h = cond-true (ltb (H v (lower row)) (lost n r)) (H v (lower row)) (lost n s) (lt-ltb (H v (lower row)) (lost n r) h)

  wider_lost : (v : ℕ) (row : List ℕ) → lost n r ≤ H v (lower row) → wider v row ≡ lost n s
  unfolding wider
  wider_lost v row h = cond-false (ltb (H v (lower row)) (lost n r)) (H v (lower row)) (lost n s) (le-ltb (H v (lower row)) (lost n r) h)

  lost_grows : (v : ℕ) → v < n → lost n r ≤ lost n s
  lost_grows v h = let pos : 0 < n = omega arith in let l : r + 1 ≤ s + 1 = omega arith in pow-le-pow_right pos l

  lower_state : (v : ℕ) (row : List ℕ) → State g s v row → State g r v (lower row)
  lower_state v row state = (state.0, drop_row g.top (s - r) row state.1, lower_length r s fewer row state.2)

  kept_below : (v : ℕ) (row : List ℕ) → wider v row < lost n s → (H v (lower row) < lost n r) × (wider v row ≡ H v (lower row))
  kept_below v row h = elim (cases_lt (H v (lower row)) (lost n r)) [
    | inl low ↦ (low, wider_kept v row low)
    | inr high ↦ let e = wider_lost v row high in absurd (omega arith)
  ]

  still_affords : (v : ℕ) (row : List ℕ) → State g s v row → (a : Arc) → H v (lower row) < lost n r → Affords g r H v (lower row) a → Affords g s wider v row a
  still_affords v row state a low (j, h, under) =
      let row' = updated a.priority row in
      let p = a.priority in
      let whole : length row' ≡ s = length_updated p row ∙ state.2 in
      let moved : lower row' ≡ updated p (lower row) = drop-map (λ c. max c p) (s - r) row in
      let next : lower (chosen j row') ≡ chosen j (updated p (lower row)) = lower_chosen r s fewer row' whole j h ∙ ap (λ xs. chosen j xs) moved in
      let price : toll j row' ≡ toll j (updated p (lower row)) = lower_toll r s fewer row' whole j h ∙ ap (λ xs. toll j xs) moved in
      goes row' next price
    where
      goes : (row' : List ℕ) → lower (chosen j row') ≡ chosen j (updated a.priority (lower row)) → toll j row' ≡ toll j (updated a.priority (lower row)) →
          (j : ℕ) × (j ≤ s) × (climb n s (wider a.target (chosen j row')) (toll j row') ≤ wider v row)
      goes row' next price =
          let w = a.target in
          let last = chosen j (updated a.priority (lower row)) in
          let q = toll j (updated a.priority (lower row)) in
          let kept = climbed_from_kept n r (H w last) (H v (lower row)) q under low in
          let same : H w (lower (chosen j row')) ≡ H w last = ap (λ xs. H w xs) next in
          let there : wider w (chosen j row') ≡ H w last = wider_kept w (chosen j row') (omega arith) ∙ same in
          let grows = lost_grows v state.0 in
          let one = ap₂ (λ x y. climb n s x y) there price ∙ climb_below n s (H w last) q (omega arith) in
          let two = climb_below n r (H w last) q kept in
          let here = wider_kept v row low in
          (j, omega arith, omega arith)

  doubly_wider : Doubly g s wider
  doubly_wider = record {
    bounded = λ v row state. elim (cases_lt (H v (lower row)) (lost n r)) [
      | inl low ↦ let e = wider_kept v row low in let grows = lost_grows v state.0 in omega arith
      | inr high ↦ let e = wider_lost v row high in omega arith
    ];
    evens = λ v row state low mine.
        let below = kept_below v row low in
        let (i, a, is_arc, afforded) = doubly.evens v (lower row) (lower_state v row state) below.0 mine in
        (i, a, is_arc, still_affords v row state a below.0 afforded);
    odds = λ v row state low theirs i a is_arc.
        let below = kept_below v row low in
        still_affords v row state a below.0 (doubly.odds v (lower row) (lower_state v row state) below.0 theirs i a is_arc);
  }

  wider_zeros : (v : ℕ) → v < n → H v (replicate r 0) < lost n r → wider v (replicate s 0) < lost n s
  wider_zeros v h low =
      let count : s - (s - r) ≡ r = omega arith in
      let e : H v (lower (replicate s 0)) ≡ H v (replicate r 0) = ap (λ xs. H v xs) (drop-replicate {X = ℕ} (s - r) s 0 ∙ ap (λ m. replicate m 0) count) in
      let f = wider_kept v (replicate s 0) (omega arith) in
      let grows = lost_grows v h in
      omega arith

pub doubly_kept_more : (r s : ℕ) (g : Game) (v : ℕ) → r ≤ s → v < g.size → DoublyKept r g v → DoublyKept s g v
doubly_kept_more r s g v fewer h (H, doubly, low) = (wider g r s fewer H doubly, doubly_wider g r s fewer H doubly, wider_zeros g r s fewer H doubly v h low)

-- the number of a position with the row of zeros is one of the layer's
zeros_inside : (r : ℕ) (g : Game) (v : ℕ) → stands r g ≡ true → v < g.size → cell r g v (replicate r 0) < (registers r g).size
zeros_inside r g v e h =
    let zeros = zeros_state r g v h in
    subst⁻¹ (λ (L : Game). cell r g v (replicate r 0) < L.size) (stands_layer r g e) (cell_inside r g (replicate r 0) zeros.1 zeros.2 v (omega arith))

-- where least closed heights exist, heights of states that keep a position show that it is kept
pub kept_from_doubly : (r : ℕ) (g : Game) (v : ℕ) → Lawful g → stands r g ≡ true → v < g.size → DoublyKept r g v → Kept r g v
kept_from_doubly r g v lawful e inside (H, doubly, low) =
    let (h, least) = heights_exist r g lawful e in
    let (k, closed, same) = closed_from_doubly r g lawful e H doubly in
    let x = cell r g v (replicate r 0) in
    let under = least.below_others k closed x (zeros_inside r g v e inside) in
    let there = same v (replicate r 0) (zeros_state r g v inside) in
    let kept : h x < lost g.size r = omega arith in
    (h, least, rw (zeros_cell r g v) at kept)

pub kept_by_least : (r : ℕ) (g : Game) → stands r g ≡ true → KeptByLeast r g
kept_by_least r g e h least v inside = (
  λ (k, other, low).
      let there = rw (zeros_cell r g v) at (zeros_inside r g v e inside) in
      let under = least.below_others k other.closed (v * row_count r g) there in
      omega arith,
  λ low. (h, least, low),
)

pub still_kept : (r s : ℕ) (g : Game) → Lawful g → stands r g ≡ true → stands s g ≡ true → r ≤ s → StillKept r s g
still_kept r s g lawful e f fewer v h kept = kept_from_doubly s g v lawful f h (doubly_kept_more r s g v fewer h (doubly_kept r g v lawful e kept))
