-- How many raises the sweeps from all zeros take. Sweeps see the cells of the positions alone.
use Rattle.std.proofs.Common.{◌≡◌, ℕ, zero, suc, ◌+◌, ◌*◌, ◌<◌, ◌≤◌, List, ◌++◌, length, drop, replicate, sym, refl, ap, ◌∙◌, subst, arith}
use lib.ListN.{length-replicate}
use Rattle.std.proofs.lemmas.List.{get_or_append_left, set-append_left}
use Rattle.std.proofs.lemmas.Bool.Decides.{nat_tests}
use Rattle.game.specs.Game.{Game, Lawful}
use Rattle.heights.specs.Climb.{lost}
use Rattle.heights.specs.Heights.{due}
use Rattle.heights.specs.Sweeps.{height_in, zeroed, low, raised_at, swept_to, raises_to, Swept, Takes}
use Rattle.heights.specs.Sweeps.Swept.{settled, once_more}
use Rattle.heights.specs.Theorems.{SweepsTake}
use Rattle.heights.proofs.Due.{due_same}
use Rattle.heights.proofs.Sweeping.{swept_length, sweeps_agree_lem, sweeps_end_lem}

-- the cells of the positions, and those behind them
module _ (n r : ℕ) (g : Game) (lawful : Lawful g) (back : List ℕ) where
  module _ (front : List ℕ) (whole : length front ≡ g.size) where
    height_in_front : (v : ℕ) → v < g.size → height_in (front ++ back) v ≡ height_in front v
    height_in_front v there = get_or_append_left front back 0 v (omega arith)

    due_in_front : (v : ℕ) → v < g.size → due n r g (height_in (front ++ back)) v ≡ due n r g (height_in front) v
    due_in_front v there = due_same n r g lawful (height_in (front ++ back)) (height_in front) height_in_front v there

    low_in_front : (v : ℕ) → v < g.size → low n r g v (front ++ back) ≡ low n r g v front
    unfolding low
    low_in_front v there = grind (arith, nat_tests, due_in_front v, height_in_front v)

    raised_in_front : (v : ℕ) → v < g.size → raised_at n r g v (front ++ back) ≡ raised_at n r g v front ++ back
    unfolding low raised_at
    raised_in_front v there = grind (arith, nat_tests, due_in_front v, height_in_front v, set-append_left)

  module _ (front : List ℕ) (whole : length front ≡ g.size) where
    swept_in_front : (v : ℕ) → v ≤ g.size → swept_to n r g v (front ++ back) ≡ swept_to n r g v front ++ back
    unfolding swept_to
    swept_in_front zero h = refl
    swept_in_front (suc v) h =
        ap (raised_at n r g v) (swept_in_front v (omega arith)) ∙ raised_in_front (swept_to n r g v front) (swept_length n r g v front ∙ whole) v h

    raises_in_front : (v : ℕ) → v ≤ g.size → raises_to n r g v (front ++ back) ≡ raises_to n r g v front
    unfolding raises_to
    raises_in_front zero h = refl
    raises_in_front (suc v) h =
        let before = raises_in_front v (omega arith) in
        let cells = swept_in_front v (omega arith) in
        let here = low_in_front (swept_to n r g v front) (swept_length n r g v front ∙ whole) v h in
        cc

  run_in_front : {cells last : List ℕ} {m : ℕ} → Swept n r g cells last m → (front : List ℕ) → length front ≡ g.size → cells ≡ front ++ back → (end : List ℕ) × Swept n r g front end m
  run_in_front (settled e) front whole is =
      (front, settled (sym (raises_in_front front whole g.size (omega arith)) ∙ ap (raises_to n r g g.size) (sym is) ∙ e))
  run_in_front (once_more {cells = cells} {later = later} some more) front whole is =
      let same : raises_to n r g g.size cells ≡ raises_to n r g g.size front = ap (raises_to n r g g.size) is ∙ raises_in_front front whole g.size (omega arith) in
      let next = run_in_front more (swept_to n r g g.size front) (swept_length n r g g.size front ∙ whole) (ap (swept_to n r g g.size) is ∙ swept_in_front front whole g.size (omega arith)) in
      (next.0, subst (λ m. Swept n r g front next.0 (m + later)) (sym same) (once_more (omega arith) next.1))

takes_any_cells : (n r : ℕ) (g : Game) (cells last : List ℕ) (raises : ℕ) → Lawful g → Swept n r g (zeroed g.size cells) last raises → Takes n r g raises
takes_any_cells n r g cells last raises lawful run =
    run_in_front n r g lawful (drop g.size cells) run (replicate g.size 0) (length-replicate g.size 0) refl

takes_one : (n r : ℕ) (g : Game) (a b : ℕ) → Takes n r g a → Takes n r g b → a ≡ b
takes_one n r g a b (last, run) (other, again) = (sweeps_agree_lem n r g (replicate g.size 0) last other a b run again).1

-- the number of raises, and its bound
takes_few : (n r : ℕ) (g : Game) → 1 ≤ n → Lawful g → g.top ≤ 2 * r + 1 → (raises : ℕ) × Takes n r g raises × (raises ≤ g.size * lost n r)
takes_few n r g some lawful low_top =
    let cells : List ℕ = replicate g.size 0 in
    let long = length-replicate {A = ℕ} g.size 0 in
    let laws = sweeps_end_lem n r g some lawful low_top cells (omega arith) in
    let (last, raises, run) = laws.ends in
    (raises, takes_any_cells n r g cells last raises lawful run, laws.few_raises last raises run)

pub sweeps_take_lem : SweepsTake
sweeps_take_lem = record {
  any_cells = takes_any_cells;
  one = takes_one;
  some = λ n r g some lawful low_top. (let found = takes_few n r g some lawful low_top in (found.0, found.1));
  few = λ n r g raises some lawful low_top takes.
      let found = takes_few n r g some lawful low_top in
      let same = takes_one n r g raises found.0 takes found.1 in
      let bound = found.2 in
      omega arith;
}
