-- The run of sweeps, while it is under way.
use Rattle.std.proofs.Common.{◌≡◌, ℕ, ◌+◌, ◌-◌, ◌*◌, ◌^◌, ◌<◌, ◌≤◌, Bool, true, false, ltb, cond, Option, Some, None, IfSome, unwrap_or, List, length, set, sym, refl, ap, ◌∙◌, inl, inr, add-zero, add_assoc, add-one, arith}
use Rattle.std.proofs.lemmas.Nat.{mul-le}
use Rattle.std.proofs.lemmas.Option.{none-some, same_Some}
use Rattle.std.proofs.lemmas.List.{get_or-set_same, get_or-set_other}
use Rattle.std.proofs.lemmas.Bool.{cases_eq, cases_lt, both_ways, cond-true, cond-false, lt-ltb, le-ltb}
use Rattle.std.proofs.lemmas.Bool.Decides.{nat_tests}
use Rattle.game.specs.Game.{Game, Lawful}
use Rattle.toolkit.specs.Finite.{sum}
use Rattle.toolkit.proofs.Counting.{bit_of_true, bit_of_false, sum_at_most}
use Rattle.heights.specs.Climb.{lost}
use Rattle.heights.specs.Heights.{due}
use Rattle.heights.specs.Sweeps.{height_in, zeroed, low, raised_at, swept_to, raises_to, Swept}
use Rattle.heights.specs.Sweeps.Swept.{settled, once_more}
use Rattle.heights.specs.Replies.{Served, Found}
use Rattle.heights.proofs.Climb.{power_small}
use Rattle.heights.proofs.Sweeping.{Under, raises_at_most, swept_adds, none_low, sweeps_end_lem}

module _ (n r : ℕ) (g : Game) where
  -- one more position of a sweep
  pub sweep_begins : (cells : List ℕ) → (cells ≡ swept_to n r g 0 cells) × (0 ≡ raises_to n r g 0 cells)
  unfolding swept_to raises_to
  sweep_begins cells = (refl, refl)

  module _ (v raises wanted : ℕ) (before cells : List ℕ) (cells_are : cells ≡ swept_to n r g v before) (raises_are : raises ≡ raises_to n r g v before) (wanted_is : wanted ≡ due n r g (height_in cells) v) where
    pub sweep_raises : height_in cells v < wanted → (set cells v wanted ≡ swept_to n r g (v + 1) before) × (raises + 1 ≡ raises_to n r g (v + 1) before)
    unfolding low raised_at swept_to raises_to
    sweep_raises h = rw (add-one v) (grind (arith, nat_tests, bit_of_true))

    pub sweep_passes : wanted ≤ height_in cells v → (cells ≡ swept_to n r g (v + 1) before) × (raises ≡ raises_to n r g (v + 1) before)
    unfolding low raised_at swept_to raises_to
    sweep_passes h = rw (add-one v) (grind (arith, nat_tests, bit_of_false))

    -- by a lift, which says whether the position was low
    pub sweep_lifts : {b : Bool} {next : List ℕ} → b ≡ ltb (height_in cells v) wanted → next ≡ cond (ltb (height_in cells v) wanted) (set cells v wanted) cells →
        (next ≡ swept_to n r g (v + 1) before) × (b ≡ true → raises + 1 ≡ raises_to n r g (v + 1) before) × (b ≡ false → raises ≡ raises_to n r g (v + 1) before)
    sweep_lifts {b} {next} b_is next_is = elim (cases_lt (height_in cells v) wanted) [
      | inl less ↦
          let low = lt-ltb (height_in cells v) wanted less in
          let step = sweep_raises less in
          (next_is ∙ cond-true (ltb (height_in cells v) wanted) (set cells v wanted) cells low ∙ step.0, λ yes. step.1, λ no. absurd (both_ways b no (b_is ∙ low)))
      | inr more ↦
          let high = le-ltb (height_in cells v) wanted more in
          let step = sweep_passes more in
          (next_is ∙ cond-false (ltb (height_in cells v) wanted) (set cells v wanted) cells high ∙ step.0, λ yes. absurd (both_ways b (b_is ∙ high) yes), λ no. step.1)
    ]

  pub raises_low : (v raises : ℕ) (before : List ℕ) → raises ≡ raises_to n r g v before → raises ≤ v
  raises_low v raises before e = omega (arith, raises_at_most n r g v before)

-- what a sweep tells of its raises
pub some_raises : (o : Option ℕ) (x y : ℕ) → o ≡ Some x → unwrap_or o 0 ≡ y → IfSome o (λ raises. 1 ≤ raises) → (x ≡ y) × (1 ≤ x)
some_raises None x y is told some = absurd (none-some x is)
some_raises (Some z) x y is told some = let same : z ≡ x = same_Some z x is in (sym same ∙ told, rw (← same) some)

pub no_raises : (o : Option ℕ) (y : ℕ) → o ≡ None → unwrap_or o 0 ≡ y → y ≡ 0
no_raises None y is told = sym told
no_raises (Some z) y is told = absurd (none-some z (sym is))

-- a raise to at most T leaves no height above T
pub raise_bounded : (size top v wanted : ℕ) (cells : List ℕ) → Under size (λ u. top) cells → v < length cells → wanted ≤ top → Under size (λ u. top) (set cells v wanted)
raise_bounded size top v wanted cells under inside fits u there = elim (cases_eq u v) [
  | inl same ↦ rw (same, get_or-set_same) fits
  | inr apart ↦ rw get_or-set_other (under u there)
]

-- From the first cells sweeps with a total of raises have led to these cells: what completes a run from here completes one from there.
pub record UnderWay (n r : ℕ) (g : Game) (first cells : List ℕ) (total : ℕ) : Type 0 where
  pub counted : total ≤ sum g.size (height_in cells)
  pub completes : (last : List ℕ) (later : ℕ) → Swept n r g cells last later → Swept n r g first last (total + later)

module _ (n r : ℕ) (g : Game) where
  module _ {first cells next : List ℕ} {total raises : ℕ} (way : UnderWay n r g first cells total) (next_is : next ≡ swept_to n r g g.size cells) (raises_are : raises ≡ raises_to n r g g.size cells) where
    pub way_ends : raises ≡ 0 → Swept n r g first next total
    way_ends none =
        let quiet : raises_to n r g g.size cells ≡ 0 = omega arith in
        let same : cells ≡ next = sym (next_is ∙ (none_low n r g g.size cells quiet).0) in
        rw (← same) (rw add-zero at (way.completes cells 0 (settled quiet)))

    module _ (fits : g.size ≤ length cells) (one : 1 ≤ raises) where
      next_adds : sum g.size (height_in cells) + raises ≤ sum g.size (height_in next)
      next_adds = omega (arith, swept_adds n r g g.size g.size cells (omega arith) fits, ap (λ xs. sum g.size (height_in xs)) next_is)

      next_completes : (last : List ℕ) (later : ℕ) → Swept n r g next last later → Swept n r g first last (total + raises + later)
      next_completes last later run =
          let from_swept : Swept n r g (swept_to n r g g.size cells) last later = rw next_is at run in
          rw (raises_are, add_assoc) (way.completes last (raises_to n r g g.size cells + later) (once_more (omega arith) from_swept))

      pub way_goes_on : UnderWay n r g first next (total + raises)
      way_goes_on = record { counted = let a = way.counted in let b = next_adds in omega arith; completes = next_completes }

      -- what the heights lack of T falls
      pub lack_falls : Under g.size (λ v. lost n r) next → g.size * lost n r - sum g.size (height_in next) < g.size * lost n r - sum g.size (height_in cells)
      lack_falls under = let a = next_adds in let b = sum_at_most g.size (lost n r) (height_in next) under in omega arith

  -- a total of raises is small
  pub total_small : {first cells : List ℕ} {total : ℕ} → UnderWay n r g first cells total → Under g.size (λ v. lost n r) cells → g.size ≤ 200000 → n ≤ 16 → r ≤ 5 → total ≤ 200000 * 2 ^ 24
  total_small {cells = cells} way under few low_n few_r =
      let counted = way.counted in
      let bound = sum_at_most g.size (lost n r) (height_in cells) under in
      let product = mul-le g.size (lost n r) 200000 (2 ^ 24) few (power_small n (r + 1) low_n (omega arith)) in
      omega arith

-- what a run from the zeroed cells of a served call has found
pub found_from : (n r : ℕ) (g : Game) (before : List ℕ) {start after : List ℕ} {n' r' size m : ℕ} → Lawful g → Served n r g before → n' ≡ n → r' ≡ r → size ≡ g.size → start ≡ zeroed size before → Swept n' r' g start after m → Found n r g before after m
found_from n r g before {after = after} {m = m} lawful served n_is r_is size_is start_is run =
    let run' : Swept n r g (zeroed g.size before) after m = rw (n_is, r_is, start_is, size_is) at run in
    let laws = sweeps_end_lem n r g served.some_base lawful served.low_top before served.enough_cells in
    record {
      served = served;
      swept = run';
      least = laws.least after m run';
      few_raises = laws.few_raises after m run';
      others_stay = laws.others_stay after m run';
    }
