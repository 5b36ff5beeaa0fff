-- The layer over a game is the layer over its copy: it reads no position that is not there.
use Rattle.std.proofs.Common.{◌≡◌, ℕ, zero, suc, ◌+◌, ◌-◌, ◌*◌, ◌/◌, ◌%◌, ◌<◌, ◌≤◌, cond, ◌&&◌, ltb, leb, List, [], ◌∷◌, ◌++◌, length, get_or, Some, sym, refl, ap, ◌∙◌, inl, inr, arith}
use Rattle.std.proofs.lemmas.Bool.{cases_lt, cond-true, cond-false, lt-ltb, le-ltb, and_from, le-leb}
use Rattle.game.specs.declared.Player.{Player}
use Rattle.game.specs.declared.Player.TheVariants.{Even}
use Rattle.game.specs.declared.Arc.{Arc}
use Rattle.game.specs.Game.{Game}
use Rattle.rows.specs.Rows.{rows}
use Rattle.registers.specs.declared.copied.Copied.{Copied}
use Rattle.registers.specs.Layer.{arcs_below, first_arc, row_count, row_number, updates, reset_arc, resets_to, choices, no_arc, layer_arcs, stands, layer, no_positions, registers}
use Rattle.registers.specs.Arcs.{update_arc}
use Rattle.registers.specs.Copies.{fits, Alike}
use Rattle.registers.specs.Views.{below_of, Taken}

-- two games of as many positions and the same top, which agree at each position
module _ (r n t : ℕ) (m m' : ℕ → Player) (out out' : ℕ → List Arc)
    (movers : (v : ℕ) → v < n → m' v ≡ m v) (arcs : (v : ℕ) → v < n → out' v ≡ out v) where
  abbrev one : Game
  one = record { size = n; top = t; mover = m; arcs = out }

  abbrev two : Game
  two = record { size = n; top = t; mover = m'; arcs = out' }

  below_same : (v : ℕ) → v ≤ n → arcs_below two v ≡ arcs_below one v
  below_same zero h = refl
  below_same (suc v) h =
      ap (λ xs. xs ++ out' v) (below_same v (omega arith)) ∙ ap (λ xs. arcs_below one v ++ xs) (arcs v h)

  updates_same : (row : List ℕ) (e : ℕ) (xs : List Arc) → updates r two row e xs ≡ updates r one row e xs
  updates_same row e [] = refl
  updates_same row e (x ∷ xs) = ap (λ ys. update_arc r one row e x ∷ ys) (updates_same row (suc e) xs)

  resets_same : (row : List ℕ) (a : Arc) (j : ℕ) → resets_to r two row a j ≡ resets_to r one row a j
  resets_same row a zero = refl
  resets_same row a (suc j) = ap (λ ys. ys ++ reset_arc r one row a (suc j) ∷ []) (resets_same row a j)

  mover_same : (at : ℕ) → cond (ltb at n) (m' at) Even ≡ cond (ltb at n) (m at) Even
  mover_same at = elim (cases_lt at n) [
    | inl h ↦ ap (λ p. cond (ltb at n) p Even) (movers at h)
    | inr h ↦ cond-false (ltb at n) (m' at) Even (le-ltb at n h) ∙ sym (cond-false (ltb at n) (m at) Even (le-ltb at n h))
  ]

  arcs_same : (at : ℕ) (row : List ℕ) → layer_arcs r two at row ≡ layer_arcs r one at row
  arcs_same at row = elim (cases_lt at n) [
    | inl h ↦
        cond-true (ltb at n) _ _ (lt-ltb at n h) ∙
        ap (λ xs. updates r two row (length xs) (out' at)) (below_same at (omega arith)) ∙
        ap (λ xs. updates r two row (first_arc one at) xs) (arcs at h) ∙
        updates_same row (first_arc one at) (out at) ∙
        sym (cond-true (ltb at n) _ _ (lt-ltb at n h))
    | inr h ↦
        cond-false (ltb at n) _ _ (le-ltb at n h) ∙
        ap (λ xs. choices r two row (get_or xs (at - n) no_arc)) (below_same n (omega arith)) ∙
        ap (λ xs. record { target = (get_or (arcs_below one n) (at - n) no_arc).target * row_count r one + row_number r one row; priority = 1 } ∷ xs) (resets_same row (get_or (arcs_below one n) (at - n) no_arc) r) ∙
        sym (cond-false (ltb at n) _ _ (le-ltb at n h))
  ]

  layer_same : layer r two ≡ layer r one
  layer_same = λ i. record {
    size = (n + length (below_same n (omega arith) i)) * length (rows r t);
    top = 2 * r + 1;
    mover = λ x. mover_same (x / length (rows r t)) i;
    arcs = λ x. arcs_same (x / length (rows r t)) (get_or (rows r t) (x % length (rows r t)) []) i;
  }

pub layer_alike : (r : ℕ) (g h : Game) → Alike g h → layer r h ≡ layer r g
layer_alike r g h a =
    let moved : h ≡ record { size = g.size; top = g.top; mover = h.mover; arcs = h.arcs } =
    λ i. record { size = a.same_size i; top = a.same_top i; mover = h.mover; arcs = h.arcs } in
    ap (λ (k : Game). layer r k) moved ∙
    layer_same r g.size g.top g.mover h.mover g.arcs h.arcs a.same_mover a.same_arcs

-- the registers over a game that was copied
pub registers_stand : (r q : ℕ) (g : Game) (s : Copied) → q ≡ r → 1 ≤ r → r ≤ 5 → Taken g (Some s) → layer q (below_of s) ≡ registers r g
registers_stand r q g s e some few (fit, alike) =
    ap (λ n. layer n (below_of s)) e ∙
    layer_alike r g (below_of s) alike ∙
    sym (cond-true (stands r g) (layer r g) no_positions (and_from (leb 1 r && leb r 5) (fits g) (and_from (leb 1 r) (leb r 5) (le-leb 1 r some) (le-leb r 5 few)) fit))
