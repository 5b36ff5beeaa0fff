-- What sweeps do to the heights: they rise, stay at most those of every closed assignment, and come to an end.
use Rattle.std.proofs.Common.{◌≡◌, ℕ, zero, suc, ◌+◌, ◌*◌, ◌<◌, ◌≤◌, false, List, length, drop, refl, ap, ◌∙◌, inl, inr, arith, length-append, length-drop, length-set}
use lib.ListN.{length-replicate}
use Rattle.std.proofs.lemmas.List.{get_or-set_same, get_or-set_other, drop-set-lt, get_or_append_left, get_or-replicate, drop_at}
use Rattle.std.proofs.lemmas.Bool.{cases_lt, ltb-false}
use Rattle.std.proofs.lemmas.Bool.Decides.{nat_tests}
use Rattle.game.specs.Game.{Game, Lawful}
use Rattle.toolkit.specs.Finite.{bit, sum}
use Rattle.toolkit.proofs.Counting.{bit_of_true, bit_of_false, bit_at_most_one, sum_strict, sum_at_most}
use Rattle.heights.specs.Climb.{lost}
use Rattle.heights.specs.Heights.{due, Closed, LeastClosed}
use Rattle.heights.specs.Sweeps.{height_in, zeroed, low, raised_at, swept_to, raises_to, Swept}
use Rattle.heights.specs.Sweeps.Swept.{settled, once_more}
use Rattle.heights.specs.Theorems.{SweepsEnd}
use Rattle.heights.proofs.Due.{due_at_most, due_monotone}

pub least_unique_lem : (n r : ℕ) (g : Game) (h k : ℕ → ℕ) → LeastClosed n r g h → LeastClosed n r g k → (v : ℕ) → v < g.size → h v ≡ k v
least_unique_lem n r g h k one two v there =
    let a = one.below_others k two.closed v there in
    let b = two.below_others h one.closed v there in
    omega arith

module _ (n r : ℕ) (g : Game) where
  -- one position: what a raise leaves
  raised_length : (v : ℕ) (cells : List ℕ) → length (raised_at n r g v cells) ≡ length cells
  unfolding raised_at
  raised_length v cells = grind (arith, nat_tests, length-set)

  raised_drop : (k v : ℕ) (cells : List ℕ) → v < k → drop k (raised_at n r g v cells) ≡ drop k cells
  unfolding raised_at
  raised_drop k v cells h = grind (arith, nat_tests, drop-set-lt)

  raised_rises : (v : ℕ) (cells : List ℕ) → v < length cells → (u : ℕ) → height_in cells u ≤ height_in (raised_at n r g v cells) u
  unfolding raised_at low
  raised_rises v cells fits u = grind (arith, nat_tests, get_or-set_same, get_or-set_other)

  -- each raise adds to the sum of the heights
  raised_adds : (size v : ℕ) (cells : List ℕ) → v < size → size ≤ length cells → sum size (height_in cells) + bit (low n r g v cells) ≤ sum size (height_in (raised_at n r g v cells))
  unfolding raised_at low
  raised_adds size v cells inside fits =
      grind (arith, nat_tests, bit_of_true, bit_of_false, get_or-set_same, sum_strict size (height_in cells) (height_in (raised_at n r g v cells)) v (λ u h. raised_rises v cells (omega arith) u))

  -- a sweep, one position at a time
  pub raises_at_most : (v : ℕ) (cells : List ℕ) → raises_to n r g v cells ≤ v
  unfolding raises_to
  raises_at_most zero cells = omega arith
  raises_at_most (suc v) cells = omega (arith, raises_at_most v cells, bit_at_most_one (low n r g v (swept_to n r g v cells)))

  pub swept_length : (v : ℕ) (cells : List ℕ) → length (swept_to n r g v cells) ≡ length cells
  unfolding swept_to
  swept_length zero cells = refl
  swept_length (suc v) cells = raised_length v (swept_to n r g v cells) ∙ swept_length v cells

  swept_drop : (k v : ℕ) (cells : List ℕ) → v ≤ k → drop k (swept_to n r g v cells) ≡ drop k cells
  unfolding swept_to
  swept_drop k zero cells h = refl
  swept_drop k (suc v) cells h = raised_drop k v (swept_to n r g v cells) (omega arith) ∙ swept_drop k v cells (omega arith)

  pub swept_adds : (size v : ℕ) (cells : List ℕ) → v ≤ size → size ≤ length cells → sum size (height_in cells) + raises_to n r g v cells ≤ sum size (height_in (swept_to n r g v cells))
  unfolding swept_to raises_to
  swept_adds size zero cells h fits = omega arith
  swept_adds size (suc v) cells h fits = grind (arith, swept_adds size v cells, swept_length, raised_adds size v (swept_to n r g v cells))

  -- a sweep that raises nothing leaves the cells as they are, and no position low
  pub none_low : (v : ℕ) (cells : List ℕ) → raises_to n r g v cells ≡ 0 → (swept_to n r g v cells ≡ cells) × ((u : ℕ) → u < v → low n r g u cells ≡ false)
  unfolding swept_to raises_to raised_at
  none_low zero cells e = (refl, λ u h. absurd (omega arith))
  none_low (suc v) cells e = let before = none_low v cells (omega arith) in grind (arith, nat_tests, bit_of_true)

pub sweeps_agree_lem : (n r : ℕ) (g : Game) (start last other : List ℕ) (k m : ℕ) → Swept n r g start last k → Swept n r g start other m → (last ≡ other) × (k ≡ m)
sweeps_agree_lem n r g start last other k m (settled a) (settled b) = (refl, refl)
sweeps_agree_lem n r g start last other k m (settled a) (once_more b more) = absurd (omega arith)
sweeps_agree_lem n r g start last other k m (once_more a more) (settled b) = absurd (omega arith)
sweeps_agree_lem n r g start last other k m (once_more {later = i} a one) (once_more {later = j} b two) =
    let same = sweeps_agree_lem n r g (swept_to n r g g.size start) last other i j one two in
    (same.0, ap (λ x. raises_to n r g g.size start + x) same.1)

-- The heights of the positions are at most those of an assignment.
abbrev pub Under : ℕ → (ℕ → ℕ) → List ℕ → Type 0
Under size k cells = (v : ℕ) → v < size → height_in cells v ≤ k v

module _ (size : ℕ) (cells : List ℕ) where
  pub zeroed_length : size ≤ length cells → length (zeroed size cells) ≡ length cells
  zeroed_length fits = grind (arith, length-replicate, length-drop, length-append)

  -- the start is under every assignment
  pub zeroed_under : (k : ℕ → ℕ) → Under size k (zeroed size cells)
  zeroed_under k v there = grind (arith, length-replicate, get_or_append_left, get_or-replicate)

  zeroed_drop : drop size (zeroed size cells) ≡ drop size cells
  zeroed_drop = grind (arith, drop_at, length-replicate)

module _ (n r : ℕ) (g : Game) (some : 1 ≤ n) (lawful : Lawful g) (low_top : g.top ≤ 2 * r + 1) where
  all_lost_closed : Closed n r g (λ v. lost n r)
  all_lost_closed = record {
    bounded = λ v there. omega arith;
    enough = due_at_most n r g some lawful low_top (λ v. lost n r);
  }

  -- raises do not pass a closed assignment
  raised_under : (k : ℕ → ℕ) → Closed n r g k → (v : ℕ) (cells : List ℕ) → v < g.size → g.size ≤ length cells → Under g.size k cells → Under g.size k (raised_at n r g v cells)
  unfolding raised_at low
  raised_under k closed v cells there fits under u inside =
      let a = due_monotone n r g some lawful low_top (height_in cells) k under v there in
      let b = closed.enough v there in
      grind (arith, nat_tests, get_or-set_same, get_or-set_other)

  swept_under : (k : ℕ → ℕ) → Closed n r g k → (v : ℕ) (cells : List ℕ) → v ≤ g.size → g.size ≤ length cells → Under g.size k cells → Under g.size k (swept_to n r g v cells)
  unfolding swept_to
  swept_under k closed zero cells h fits under = under
  swept_under k closed (suc v) cells h fits under =
      let long = swept_length n r g v cells in
      raised_under k closed v (swept_to n r g v cells) (omega arith) (omega arith) (swept_under k closed v cells (omega arith) fits under)

  -- no height passes T
  pub swept_bounded : (v : ℕ) (cells : List ℕ) → v ≤ g.size → g.size ≤ length cells → Under g.size (λ u. lost n r) cells → Under g.size (λ u. lost n r) (swept_to n r g v cells)
  swept_bounded = swept_under (λ u. lost n r) all_lost_closed

  run_drop : {first last : List ℕ} {m : ℕ} → Swept n r g first last m → drop g.size last ≡ drop g.size first
  run_drop (settled e) = refl
  run_drop (once_more {cells = cells} e more) = run_drop more ∙ swept_drop n r g g.size g.size cells (omega arith)

  run_under : (k : ℕ → ℕ) → Closed n r g k → {first last : List ℕ} {m : ℕ} → Swept n r g first last m → g.size ≤ length first → Under g.size k first → Under g.size k last
  run_under k closed (settled e) fits under = under
  run_under k closed (once_more {cells = cells} e more) fits under =
      let long = swept_length n r g g.size cells in
      run_under k closed more (omega arith) (swept_under k closed g.size cells (omega arith) fits under)

  -- each raise is in the sum of the last heights
  run_adds : {first last : List ℕ} {m : ℕ} → Swept n r g first last m → g.size ≤ length first → sum g.size (height_in first) + m ≤ sum g.size (height_in last)
  run_adds (settled e) fits = omega arith
  run_adds (once_more {cells = cells} e more) fits =
      let long = swept_length n r g g.size cells in
      let here = swept_adds n r g g.size g.size cells (omega arith) fits in
      let later = run_adds more (omega arith) in
      omega arith

  run_not_low : {first last : List ℕ} {m : ℕ} → Swept n r g first last m → (v : ℕ) → v < g.size → low n r g v last ≡ false
  run_not_low (settled {cells = cells} e) = (none_low n r g g.size cells e).1
  run_not_low (once_more e more) = run_not_low more

  run_closed : {first last : List ℕ} {m : ℕ} → Swept n r g first last m → g.size ≤ length first → Under g.size (λ u. lost n r) first → Closed n r g (height_in last)
  unfolding low
  run_closed {last = last} run fits under = record {
    bounded = run_under (λ u. lost n r) all_lost_closed run fits under;
    enough = λ v there. ltb-false (height_in last v) (due n r g (height_in last) v) (run_not_low run v there);
  }

  -- the sum of bounded heights
  pub sum_bounded : (cells : List ℕ) → Under g.size (λ u. lost n r) cells → sum g.size (height_in cells) ≤ g.size * lost n r
  sum_bounded cells under = sum_at_most g.size (lost n r) (height_in cells) under

  -- sweeps of bounded heights come to an end: what the sum of the heights lacks falls with each
  run_exists : (fuel : ℕ) (cells : List ℕ) → g.size ≤ length cells → Under g.size (λ u. lost n r) cells → g.size * lost n r ≤ sum g.size (height_in cells) + fuel → (last : List ℕ) × (m : ℕ) × Swept n r g cells last m
  run_exists zero cells fits under full =
      let adds = swept_adds n r g g.size g.size cells (omega arith) fits in
      let bound = sum_bounded (swept_to n r g g.size cells) (swept_bounded g.size cells (omega arith) fits under) in
      (cells, 0, settled (omega arith))
  run_exists (suc fuel) cells fits under full = elim (cases_lt (raises_to n r g g.size cells) 1) [
    | inl none ↦ (cells, 0, settled (omega arith))
    | inr one ↦
        let adds = swept_adds n r g g.size g.size cells (omega arith) fits in
        let long = swept_length n r g g.size cells in
        let more = run_exists fuel (swept_to n r g g.size cells) (omega arith) (swept_bounded g.size cells (omega arith) fits under) (omega arith) in
        (more.0, raises_to n r g g.size cells + more.1, once_more one more.2)
  ]

  module _ (cells : List ℕ) (fits : g.size ≤ length cells) where
    sweeps_least : (last : List ℕ) (m : ℕ) → Swept n r g (zeroed g.size cells) last m → LeastClosed n r g (height_in last)
    sweeps_least last m run = let long = zeroed_length g.size cells fits in record {
      closed = run_closed run (omega arith) (zeroed_under g.size cells (λ u. lost n r));
      below_others = λ k closed. run_under k closed run (omega arith) (zeroed_under g.size cells k);
    }

    sweeps_few : (last : List ℕ) (m : ℕ) → Swept n r g (zeroed g.size cells) last m → m ≤ g.size * lost n r
    sweeps_few last m run =
        let long = zeroed_length g.size cells fits in
        let adds = run_adds run (omega arith) in
        let bound = sum_bounded last (run_under (λ u. lost n r) all_lost_closed run (omega arith) (zeroed_under g.size cells (λ u. lost n r))) in
        omega arith

    pub sweeps_end_lem : SweepsEnd n r g cells
    sweeps_end_lem = let long = zeroed_length g.size cells fits in record {
      ends = run_exists (g.size * lost n r) (zeroed g.size cells) (omega arith) (zeroed_under g.size cells (λ u. lost n r)) (omega arith);
      least = sweeps_least;
      few_raises = sweeps_few;
      others_stay = λ last m run. run_drop run ∙ zeroed_drop g.size cells;
    }
