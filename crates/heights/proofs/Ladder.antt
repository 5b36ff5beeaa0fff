-- Climbing a ladder is sound, and the counters are a ladder.
use Rattle.std.proofs.Common.{◌≡◌, ℕ, ◌+◌, ◌-◌, ◌*◌, ◌/◌, ◌%◌, ◌^◌, ◌<◌, ◌≤◌, true, List, ◌∷◌, sym, ap, ◌∙◌, inl, inr, mul-le-mul_right, div-add-mod', mul-div_cancel, arith, pow-add}
use Rattle.std.proofs.Math.Nat.{one-le-pow}
use Rattle.std.proofs.lemmas.Bool.Decides.{nat_tests}
use native.Mathlib.Nat.{div-div-eq-div-mul}
use Rattle.std.proofs.lemmas.Bool.{cases_lt, both_ways}
use Rattle.game.specs.Plans.{Walk, highest}
use Rattle.game.specs.Plans.Walk.{stay, step}
use Rattle.toolkit.proofs.Walks.{walk_peak, peak_low}
use Rattle.heights.specs.Climb.{lost, step_of, climb}
use Rattle.heights.specs.Ladder.{Ladder, LadderLaws, Rung, Reaches, Keeps, counters}
use Rattle.heights.proofs.Climb.{quotient_monotone, climb_below, climb_lost, climb_at_most}

module _ {Value : Type 0} {limit : ℕ} {l : Ladder Value} (laws : LadderLaws limit l) where
  -- what is at least the top is the top
  at_top : (x : Value) → Rung l x → l.at_most l.top x ≡ true → x ≡ l.top
  at_top x rung high = laws.antisymmetric x l.top rung laws.top_rung (laws.below_top x rung) high

  module _ {x y : Value} {p : ℕ} (kept : Keeps limit l x y p) where
    climbed_rung : Rung l (l.climbs y p)
    climbed_rung = laws.climb_rung y p kept.low kept.rung_to

    climb_not_top : l.climbs y p ≡ l.top → ⊥
    climb_not_top e = kept.not_top (at_top x kept.rung_from (ap (λ (z : Value). l.at_most z x) (sym e) ∙ kept.climbed))

    to_not_top : y ≡ l.top → ⊥
    to_not_top e = climb_not_top (ap (λ (z : Value). l.climbs z p) e ∙ laws.climb_keeps_top p kept.low)

    reached : Reaches l p y (l.climbs y p)
    reached = laws.climb_reaches y p kept.low kept.rung_to to_not_top climb_not_top

    from_above : l.roughly p (l.climbs y p) x ≡ true
    from_above = laws.never_reverses p (l.climbs y p) x kept.low climbed_rung kept.rung_from kept.climbed

    -- a move does not rise in the comparison of its priority, nor of a higher one
    pub not_rising : (q : ℕ) → p ≤ q → q ≤ limit → l.roughly q y x ≡ true
    not_rising q h fits = laws.rougher p q y x h fits kept.rung_to kept.rung_from (laws.roughly_transitive p y (l.climbs y p) x kept.low kept.rung_to climbed_rung kept.rung_from reached.0 from_above)

    -- and falls if its priority is odd
    pub falling : p % 2 ≡ 1 → l.roughly p x y ≡ true → ⊥
    falling odd back = both_ways (l.roughly p (l.climbs y p) y) (reached.1 odd) (laws.roughly_transitive p (l.climbs y p) x y kept.low climbed_rung kept.rung_from kept.rung_to from_above back)

  module _ {Move : ℕ → ℕ → ℕ → Type 0} (height : ℕ → Value) (keeps : (v w p : ℕ) → Move v w p → Keeps limit l (height v) (height w) p) where
    -- along a walk heights do not rise in the comparison of any priority that is at least its highest
    walk_not_rising : (q : ℕ) → q ≤ limit → {u w : ℕ} {ps : List ℕ} → highest ps ≤ q → Rung l (height u) → Rung l (height w) → Walk Move u w ps → l.roughly q (height w) (height u) ≡ true
    walk_not_rising q fits high rung_u rung_w (stay {v = v}) = elim (laws.roughly_total q (height v) (height v) fits rung_u rung_u) [ inl e ↦ e | inr e ↦ e ]
    walk_not_rising q fits high rung_u rung_w (step {u = u} {v = v} {w = w} {p = p} m walk) =
        let kept = keeps u v p m in
        let here = not_rising kept q (omega arith) fits in
        let more = walk_not_rising q fits (omega arith) kept.rung_to rung_w walk in
        laws.roughly_transitive q (height w) (height v) (height u) fits rung_w kept.rung_to kept.rung_from more here

    closed_rung : {v w p : ℕ} {ps : List ℕ} → Walk Move v w (p ∷ ps) → Rung l (height v)
    closed_rung (step {u = u} {v = v} {p = p} m walk) = (keeps u v p m).rung_from

    -- so a closed walk has an even highest priority
    pub closed_walks_even : {v p : ℕ} {ps : List ℕ} → Walk Move v v (p ∷ ps) → highest (p ∷ ps) % 2 ≡ 0
    closed_walks_even {v} {p} {ps} walk =
        let peak = walk_peak walk in
        let kept = keeps peak.from peak.to peak.top peak.move in
        let rung = closed_rung walk in
        let lows = peak_low peak in
        let before = walk_not_rising peak.top kept.low lows.0 rung kept.rung_from peak.walk_before in
        let behind = walk_not_rising peak.top kept.low lows.1 kept.rung_to rung peak.walk_behind in
        let round = laws.roughly_transitive peak.top (height peak.from) (height v) (height peak.to) kept.low kept.rung_from rung kept.rung_to before behind in
        let same = peak.is_highest in
        elim (cases_lt (peak.top % 2) 1) [
          | inl even ↦ ap (λ x. x % 2) (sym same) ∙ (omega arith)
          | inr odd ↦ absurd (falling kept (omega arith) round)
        ]

module _ (n r : ℕ) (some : 1 ≤ n) where
  -- rungs below the top
  not_lost : (x : ℕ) → Rung (counters n r) x → (x ≡ lost n r → ⊥) → x < lost n r
  not_lost x rung apart = grind (arith, nat_tests)

  climb_quotient : (x p : ℕ) → x < lost n r → climb n r x p / step_of n p ≡ x / step_of n p + p % 2
  climb_quotient x p h = grind (arith, climb_below, mul-div_cancel, one-le-pow (p / 2) n)

  -- a greater step compares more roughly
  steps_rougher : (p q x y : ℕ) → p ≤ q → x / step_of n p ≤ y / step_of n p → x / step_of n q ≤ y / step_of n q
  steps_rougher p q x y h below =
      grind (arith, pow-add n (p / 2) (q / 2 - p / 2), div-div-eq-div-mul, quotient_monotone (n ^ (q / 2 - p / 2)) (x / step_of n p) (y / step_of n p), one-le-pow (q / 2 - p / 2) n)

  counters_reach : (x p : ℕ) → x < lost n r → Reaches (counters n r) p x (climb n r x p)
  counters_reach x p h = let e = climb_quotient x p h in (grind (arith, nat_tests), λ odd. grind (arith, nat_tests))

  counters_least : (x y p : ℕ) → x < lost n r → Reaches (counters n r) p x y → climb n r x p ≤ y
  counters_least x y p h reaches = grind (arith, nat_tests, climb_below, mul-le-mul_right, div-add-mod')

  pub counters_laws : LadderLaws (2 * r + 1) (counters n r)
  counters_laws = record {
    finite = λ x rung. grind (arith, nat_tests);
    numbered = λ x y rung_x rung_y h. grind (arith, nat_tests);
    total = λ x y rung_x rung_y. grind (arith, nat_tests);
    transitive = λ x y z rung_x rung_y rung_z a b. grind (arith, nat_tests);
    antisymmetric = λ x y rung_x rung_y a b. grind (arith, nat_tests);
    top_rung = grind (arith, nat_tests);
    below_top = λ x rung. rung;
    roughly_total = λ p x y low rung_x rung_y. grind (arith, nat_tests);
    roughly_transitive = λ p x y z low rung_x rung_y rung_z a b. grind (arith, nat_tests);
    never_reverses = λ p x y low rung_x rung_y h. grind (arith, nat_tests, quotient_monotone (step_of n p) x y, one-le-pow (p / 2) n);
    rougher = λ p q x y h low rung_x rung_y below. grind (arith, nat_tests, steps_rougher p q x y);
    climb_rung = λ x p low rung. grind (arith, nat_tests, climb_at_most n r p some (omega arith) x);
    climb_keeps_top = λ p low. climb_lost n r (lost n r) p (omega arith);
    climb_reaches = λ x p low rung apart below. counters_reach x p (not_lost x rung apart);
    climb_least = λ x y p low rung_x rung_y apart reaches. grind (arith, nat_tests, counters_least x y p (not_lost x rung_x apart) reaches);
  }

  -- So moves along which the climb from the height of the target is at most a height that is not lost are sound.
  pub counters_sound : {Move : ℕ → ℕ → ℕ → Type 0} (h : ℕ → ℕ) → ((v w p : ℕ) → Move v w p → (p ≤ 2 * r + 1) × (climb n r (h w) p ≤ h v) × (h v < lost n r)) → {v p : ℕ} {ps : List ℕ} → Walk Move v v (p ∷ ps) → highest (p ∷ ps) % 2 ≡ 0
  counters_sound h moves =
      closed_walks_even counters_laws h (λ v w p m.
      let kept = moves v w p m in
      let below = kept.2 in
      record {
        low = kept.0;
        rung_from = grind (arith, nat_tests);
        rung_to = grind (arith, nat_tests, climb_lost n r (h w) p);
        not_top = λ e. omega arith;
        climbed = grind (arith, nat_tests);
      })
