-- Even above, even below: a closed walk of double steps whose highest priority above is even has an even highest priority below.
use Rattle.std.proofs.Common.{◌≡◌, ℕ, suc, ◌+◌, ◌-◌, ◌*◌, ◌/◌, ◌%◌, ◌<◌, ◌≤◌, max, ◌⊎◌, List, ◌∷◌, length, sym, refl, ap, ◌∙◌, inl, inr, arith}
use Rattle.std.proofs.lemmas.Bool.{cases_eq, cases_lt}
use Rattle.game.specs.Game.{Game}
use Rattle.game.specs.Plans.{highest}
use Rattle.toolkit.proofs.Search.{seek_least}
use Rattle.rows.specs.Registers.{content, after}
use Rattle.register_theory.specs.Doubling.{DoubleStep, DoubleWalk, ClosedDoubleWalk}
use Rattle.register_theory.specs.Doubling.DoubleWalk.{stay, step}
use Rattle.register_theory.proofs.Contents.{contents, after_is, cost, cost_none, cost_reset, cost_at_most_one, length_chosen, chosen_contents, toll_is}

-- the registers below s hold at most b
abbrev Low : ℕ → ℕ → List ℕ → Type 0
Low s b row = (i : ℕ) → 1 ≤ i → i < s → content i row ≤ b

module _ (g : Game) (r : ℕ) where
  module _ {u w : ℕ} {row next : List ℕ} {p q : ℕ} (m : DoubleStep g r u row w next p q) (whole : length row ≡ r) where
    length_next : length next ≡ r
    length_next = sym (ap length m.next_row) ∙ length_chosen r p row whole m.choice m.a_choice

    next_holds : (i : ℕ) → 1 ≤ i → i ≤ r → content i next ≡ after (contents row) p m.choice i
    next_holds i some there = sym (ap (λ xs. content i xs) m.next_row) ∙ chosen_contents r p row whole m.choice i m.a_choice some there

    price_is : q ≡ 2 * m.choice + cost (contents row) p m.choice
    price_is = sym m.price ∙ toll_is r p row whole m.choice m.a_choice

    -- a step by a priority of at most b keeps low registers low
    step_low : (s b : ℕ) → s ≤ suc r → p ≤ b → Low s b row → Low s b next
    step_low s b fits under low i some h =
        let e = next_holds i some (omega arith) in
        elim (after_is (contents row) p m.choice i) [
          | inl above ↦ let l = low i some h in let f = above.1 in omega arith
          | inr (inl first) ↦ let f = first.2 in omega arith
          | inr (inr shifted) ↦ let apart = shifted.1 in let l = low (i - 1) (omega arith) (omega arith) in let f = shifted.2 in omega arith
        ]

    -- and one that resets register s or a higher one makes s low too
    step_lowers : (s b : ℕ) → s ≤ r → p ≤ b → s ≤ m.choice → Low s b row → Low (suc s) b next
    step_lowers s b fits under high low i some h =
        let e = next_holds i some (omega arith) in
        elim (after_is (contents row) p m.choice i) [
          | inl above ↦ let a = above.0 in absurd (omega arith)
          | inr (inl first) ↦ let f = first.2 in omega arith
          | inr (inr shifted) ↦ let apart = shifted.1 in let l = low (i - 1) (omega arith) (omega arith) in let f = shifted.2 in omega arith
        ]

    -- a register above the choice is only updated
    step_above : (i : ℕ) → 1 ≤ i → i ≤ r → m.choice < i → content i next ≡ max (content i row) p
    step_above i some there h = next_holds i some there ∙ elim (after_is (contents row) p m.choice i) [
      | inl above ↦ above.1
      | inr (inl first) ↦ let a = first.0 in absurd (omega arith)
      | inr (inr shifted) ↦ let a = shifted.0 in absurd (omega arith)
    ]

    -- a reset at a price of at most 2j is of a register up to j, and of an even content if it is of j
    reset_even : (j : ℕ) → 1 ≤ j → q ≤ 2 * j → (m.choice < j) ⊎ ((m.choice ≡ j) × (q ≡ 2 * j) × (max (content j row) p % 2 ≡ 0))
    reset_even j some h = elim (cases_lt m.choice j) [
      | inl less ↦ inl less
      | inr more ↦
          let e = price_is in
          let same : m.choice ≡ j = omega arith in
          let c = cost_reset (contents row) p m.choice (omega arith) in
          let f = ap (λ x. max (content x row) p % 2) same in
          inr (same, omega arith, omega arith)
    ]

    -- a choice of a lower register costs less than 2j
    lower_price : (j : ℕ) → m.choice < j → q < 2 * j
    lower_price j h = let e = price_is in let c = cost_at_most_one (contents row) p m.choice in omega arith

  price_low : {u w : ℕ} {row last ps qs : List ℕ} → DoubleWalk g r u row w last ps qs → length row ≡ r → highest qs ≤ suc (2 * r)
  price_low stay whole = omega arith
  price_low (step {p = p} {row = row} m walk) whole =
      let e = price_is m whole in
      let c = cost_at_most_one (contents row) p m.choice in
      let h = m.a_choice in
      let more = price_low walk (length_next m whole) in
      omega arith

  walk_low : (s b : ℕ) {u w : ℕ} {row last ps qs : List ℕ} → DoubleWalk g r u row w last ps qs → length row ≡ r → s ≤ suc r → highest ps ≤ b → Low s b row → Low s b last
  walk_low s b stay whole fits under low = low
  walk_low s b (step m walk) whole fits under low = walk_low s b walk (length_next m whole) fits (omega arith) (step_low m whole s b fits (omega arith) low)

  -- a walk with a price of 2j or more makes one more register low, up to j
  walk_lowers : (j s b : ℕ) {u w : ℕ} {row last ps qs : List ℕ} → DoubleWalk g r u row w last ps qs → length row ≡ r → 1 ≤ s → s ≤ j → j ≤ r → highest ps ≤ b → 2 * j ≤ highest qs → Low s b row → Low (suc s) b last
  walk_lowers j s b stay whole some fits there under high low = absurd (omega arith)
  walk_lowers j s b (step {q = q} m walk) whole some fits there under high low = elim (cases_lt m.choice j) [
    | inl less ↦
        let cheap = lower_price m whole j less in
        walk_lowers j s b walk (length_next m whole) some fits there (omega arith) (omega arith) (step_low m whole s b (omega arith) (omega arith) low)
    | inr more ↦ walk_low (suc s) b walk (length_next m whole) (omega arith) (omega arith) (step_lowers m whole s b (omega arith) (omega arith) (omega arith) low)
  ]

  -- The prices are at most 2j, and b bounds the priorities below.
  module _ (j b : ℕ) (some : 1 ≤ j) (there : j ≤ r) where
    -- register j holds b from here on, or b is the content at an even reset
    walk_holds : {u w : ℕ} {row last ps qs : List ℕ} → DoubleWalk g r u row w last ps qs → length row ≡ r → highest ps ≤ b → highest qs ≤ 2 * j → content j row ≡ b → (b % 2 ≡ 0) ⊎ (content j last ≡ b)
    walk_holds stay whole under cheap holds = inr holds
    walk_holds (step {p = p} {row = row} m walk) whole under cheap holds = elim (reset_even m whole j some (omega arith)) [
      | inl less ↦ walk_holds walk (length_next m whole) (omega arith) (omega arith) (step_above m whole j some there less ∙ (omega arith))
      | inr same ↦ let e = same.2 in let f : max (content j row) p ≡ b = omega arith in let f2 = ap (λ x. x % 2) f in inl (omega arith)
    ]

    -- with a price of 2j on the way it is
    walk_resets : {u w : ℕ} {row last ps qs : List ℕ} → DoubleWalk g r u row w last ps qs → length row ≡ r → highest ps ≤ b → highest qs ≡ 2 * j → content j row ≡ b → b % 2 ≡ 0
    walk_resets stay whole under cheap holds = absurd (omega arith)
    walk_resets (step {p = p} {row = row} m walk) whole under cheap holds = elim (reset_even m whole j some (omega arith)) [
      | inl less ↦
          let lower = lower_price m whole j less in
          walk_resets walk (length_next m whole) (omega arith) (omega arith) (step_above m whole j some there less ∙ (omega arith))
      | inr same ↦ let e = same.2 in let f : max (content j row) p ≡ b = omega arith in let f2 = ap (λ x. x % 2) f in omega arith
    ]

    -- where the registers up to j are low and b is met below, register j comes to hold b, or b is even
    walk_meets_top : {u w : ℕ} {row last ps qs : List ℕ} → DoubleWalk g r u row w last ps qs → length row ≡ r → highest ps ≡ b → highest qs ≤ 2 * j → Low (suc j) b row → (b % 2 ≡ 0) ⊎ (content j last ≡ b)
    walk_meets_top stay whole under cheap low = inl (let e = ap (λ x. x % 2) under in omega arith)
    walk_meets_top (step {p = p} {row = row} m walk) whole under cheap low =
        let here = low j some (omega arith) in
        elim (cases_eq p b) [
          | inl top ↦
              let f : max (content j row) p ≡ b = omega arith in
              elim (reset_even m whole j some (omega arith)) [
                | inl less ↦ walk_holds walk (length_next m whole) (omega arith) (omega arith) (step_above m whole j some there less ∙ f)
                | inr same ↦ let e = same.2 in let f2 = ap (λ x. x % 2) f in inl (omega arith)
              ]
          | inr apart ↦ walk_meets_top walk (length_next m whole) (omega arith) (omega arith) (step_low m whole (suc j) b (omega arith) (omega arith) low)
        ]

  -- round a closed walk the registers up to j are low
  closed_low : (j : ℕ) {v : ℕ} {row ps qs : List ℕ} → DoubleWalk g r v row v row ps qs → length row ≡ r → j ≤ r → highest qs ≡ 2 * j → Low (suc j) (highest ps) row
  closed_low j {row = row} {ps = ps} walk whole there high =
      elim (seek_least {P = λ i. (1 ≤ i) × (highest ps < content i row)} {Q = λ i. 1 ≤ i → content i row ≤ highest ps} (suc j) (λ i h. look i)) [
        | inl found ↦
            let s = found.0 in
            let over = found.2.1 in
            let h = found.1 in
            let lower = walk_lowers j s (highest ps) walk whole found.2.0 (omega arith) there (omega arith) (omega arith) (λ i some l. found.3 i l some) s found.2.0 (omega arith) in
            absurd (omega arith)
        | inr all ↦ λ i some h. all i h some
      ]
    where
      look : (i : ℕ) → ((1 ≤ i) × (highest ps < content i row)) ⊎ (1 ≤ i → content i row ≤ highest ps)
      look i = elim (cases_lt (highest ps) (content i row)) [
        | inr low ↦ inr (λ some. low)
        | inl over ↦ elim (cases_eq i 0) [ inl e ↦ inr (λ some. absurd (omega arith)) | inr e ↦ inl (omega arith, over) ]
      ]

  some_price : {u w p q : ℕ} {row last ps qs : List ℕ} → DoubleWalk g r u row w last (p ∷ ps) (q ∷ qs) → length row ≡ r → 1 ≤ q
  some_price (step {p = p} {row = row} m walk) whole =
      let e = price_is m whole in
      elim (cases_eq m.choice 0) [
        | inl none ↦ let c = ap (λ x. cost (contents row) p x) none ∙ cost_none (contents row) p in omega arith
        | inr reset ↦ omega arith
      ]

  pub even_below : (v p q : ℕ) (row ps qs : List ℕ) → length row ≡ r → DoubleWalk g r v row v row (p ∷ ps) (q ∷ qs) → highest (q ∷ qs) % 2 ≡ 0 → highest (p ∷ ps) % 2 ≡ 0
  even_below v p q row ps qs whole walk even =
      let some = some_price walk whole in
      let most = price_low walk whole in
      let b = highest (p ∷ ps) in
      let j = highest (q ∷ qs) / 2 in
      let high : highest (q ∷ qs) ≡ 2 * j = omega arith in
      let low = closed_low j walk whole (omega arith) high in
      elim (walk_meets_top j b (omega arith) (omega arith) walk whole refl (omega arith) low) [
        | inl done ↦ done
        | inr holds ↦ walk_resets j b (omega arith) (omega arith) walk whole (omega arith) high holds
      ]

pub even_above_even_below_lem : (g : Game) (r below above : ℕ) → ClosedDoubleWalk g r below above → above % 2 ≡ 0 → below % 2 ≡ 0
even_above_even_below_lem g r below above (v, p, q, row, ps, qs, whole, walk, low, high) even =
    ap (λ x. x % 2) low ∙ even_below g r v p q row ps qs whole walk (sym (ap (λ x. x % 2) high) ∙ even)
