-- The step lemma: at a clean level each move within a node has a choice of a reset after which no digit above the choice is higher, and the digit
-- of the choice is lower by what the choice costs.
use Rattle.std.proofs.Common.{◌≡◌, ℕ, zero, suc, ◌+◌, ◌-◌, ◌*◌, ◌%◌, ◌<◌, ◌≤◌, max, true, sym, refl, ap, ◌∙◌, inl, inr, arith}
use Rattle.std.proofs.lemmas.Bool.{cases_lt, cases_eq}
use Rattle.register_theory.proofs.Contents.{after_is, cost, cost_none, cost_reset, cost_at_most_one}
use Rattle.register_theory.proofs.Tree.{Tree, In, Laws, base, itself, size_same, base_monotone, base_same, base_jump, base_largest}
use Rattle.register_theory.proofs.Stale.{stale, Clean, Agrees, stale_says, stale_from, lofty_high, lowest_stale, clean_after, clean_up_to}
use Rattle.register_theory.proofs.Potential.{part, potential, part_clean, part_past, part_at_most, part_below, part_full, potential_is, potential_at_most, potential_safe, potential_rests, potential_bound, potential_past}

-- no digit above j is higher after the move, and digit j is lower by the cost
abbrev pub Falls : Tree → ℕ → ℕ → ℕ → (ℕ → ℕ) → (ℕ → ℕ) → ℕ → ℕ → Type 0
Falls t k v w row next p j =
    ((i : ℕ) → j < i → i ≤ t.r → potential t k w next i ≤ potential t k v row i) × (potential t k w next j + cost row p j ≤ potential t k v row j)

abbrev pub Choice : Tree → ℕ → ℕ → ℕ → (ℕ → ℕ) → ℕ → Type 0
Choice t k v w row p = (j : ℕ) × (j ≤ t.r) × (j ≤ t.regs k v) × ((next : ℕ → ℕ) → Agrees t next row p j → Falls t k v w row next p j)

module _ (t : Tree) {Move : ℕ → ℕ → ℕ → Type 0} (laws : Laws t Move) where
  -- A move within a node of level k + 1.
  module _ (k v w p : ℕ) (m : Move v w p) (inside : In t (suc k) v w) (row : ℕ → ℕ) where
    same_last : t.regs (suc k) w ≡ t.regs (suc k) v
    same_last = laws.same_regs (suc k) v w inside

    v_there : In t (suc k) v v
    v_there = itself t laws (suc k) v w inside

    w_there : In t (suc k) w w
    w_there = itself t laws (suc k) w v (laws.turned (suc k) v w inside)

    v_part : In t k v v
    v_part = laws.narrower k v v v_there refl

    w_part : In t k w w
    w_part = laws.narrower k w w w_there refl

    -- a safe register above the choice stays safe under a lower priority
    safe_stays : (next : ℕ → ℕ) (j i : ℕ) → Agrees t next row p j → p < 2 * k → j < i → 1 ≤ i → i ≤ t.r → i ≡ t.regs (suc k) v → row i % 2 ≡ 0 → 2 * k ≤ row i → potential t (suc k) w next i ≡ 0
    safe_stays next j i agrees low h some there e even high =
        let here = agrees i some there in
        let same : next i ≡ row i = elim (after_is row p j i) [
          | inl above ↦ let a = above.1 in omega arith
          | inr (inl first) ↦ let a = first.0 in absurd (omega arith)
          | inr (inr shifted) ↦ let a = shifted.0 in absurd (omega arith)
        ] in
        let even' = ap (λ x. x % 2) same in
        let last = same_last in
        potential_safe t k w next i (omega arith) (omega arith) (omega arith)

    -- Out of the part, to one of a smaller grade: no reset.
    module _ (low : p < 2 * k) (less : t.grade k w < t.grade k v) where
      -- all that the target can have was behind the source
      paid : (next : ℕ → ℕ) (i : ℕ) → base t k w i + part t k w next i (potential t k w next i) ≤ base t k v i
      paid next i = elim (cases_lt (t.regs k w) i) [
        | inl past ↦
            let e = part_past t k w next i (potential t k w next i) past in
            let l = base_monotone t laws k v w i inside (omega arith) in
            omega arith
        | inr used ↦
            let l = base_jump t laws k v w i inside less used in
            let most = part_at_most t laws k w next w_part i in
            omega arith
      ]

      out_falls : (next : ℕ → ℕ) → Agrees t next row p 0 → Falls t (suc k) v w row next p 0
      out_falls next agrees = (
        λ i h there.
            let most = potential_at_most t k w next i in
            let l = paid next i in
            elim (potential_is t k v row i) [
              | inl safe ↦ let e = safe_stays next 0 i agrees low h (omega arith) there safe.0 safe.1 safe.2 in omega arith
              | inr e ↦ omega arith
            ],
        (let most = potential_at_most t k w next 0 in
            let c = cost_none row p in
            let some = laws.some_regs (suc k) v v_there in
            let below = part_below t laws k w next w_part 0 (λ i h s. let l = (stale_says t k w next i s).some in omega arith) in
            let l = base_jump t laws k v w 0 inside less (omega arith) in
            elim (potential_is t k v row 0) [
              | inl safe ↦ let e = safe.0 in absurd (omega arith)
              | inr e ↦ omega arith
            ]),
      )

    -- Within the part.
    module _ (low : p + 2 ≤ 2 * k) (near : In t k v w) where
      base_equal : (i : ℕ) → base t k w i ≡ base t k v i
      base_equal i = base_same t laws k v w i near

      regs_equal : t.regs k w ≡ t.regs k v
      regs_equal = laws.same_regs k v w near

      -- where the level below is clean, its choice serves
      inner_falls : (j : ℕ) → j ≤ t.r → j ≤ t.regs k v → Clean t k v row → (next : ℕ → ℕ) → Agrees t next row p j → Falls t k v w row next p j → Falls t (suc k) v w row next p j
      inner_falls j there used clean_v next agrees falls =
          let clean_w = clean_after t laws k v w p m near low row next j agrees clean_v in
          let grow = laws.regs_grow k v v_part in
          let regs = regs_equal in (
            λ i h l.
                let most = potential_at_most t k w next i in
                let b = base_equal i in
                let f = falls.0 i h l in
                elim (potential_is t k v row i) [
                  | inl safe ↦ let e = safe_stays next j i agrees (omega arith) h (omega arith) l safe.0 safe.1 safe.2 in omega arith
                  | inr e ↦ elim (cases_lt (t.regs k v) i) [
                    | inl past ↦ let z = part_past t k w next i (potential t k w next i) (omega arith) in omega arith
                    | inr fits ↦
                        let x = part_clean t k w next i (potential t k w next i) (omega arith) clean_w in
                        let y = part_clean t k v row i (potential t k v row i) fits clean_v in
                        omega arith
                  ]
                ],
            (let most = potential_at_most t k w next j in
                let b = base_equal j in
                let f = falls.1 in
                let x = part_clean t k w next j (potential t k w next j) (omega arith) clean_w in
                let y = part_clean t k v row j (potential t k v row j) used clean_v in
                elim (potential_is t k v row j) [
                  | inr e ↦ omega arith
                  | inl safe ↦
                      let last = safe.0 in
                      let same : t.regs k v ≡ j = omega arith in
                      let high = safe.2 in
                      let rests : potential t k v row j ≡ 0 = ap (λ x. potential t k v row x) (sym same) ∙ potential_rests t k v row (rw same safe.1) (rw same (omega arith)) in
                      let none = base_largest t laws k v j (omega arith) last in
                      let e = safe.3 in
                      omega arith
                ]),
          )

      -- where it is not, the lowest stale register is reset
      stale_falls : (j : ℕ) → stale t k v row j ≡ true → ((i : ℕ) → i < j → stale t k v row i ≡ true → ⊥) → (next : ℕ → ℕ) → Agrees t next row p j → Falls t (suc k) v w row next p j
      stale_falls j dirty lowest next agrees =
          let s = stale_says t k v row j dirty in
          let used = s.used in
          let grow = laws.regs_grow k v v_part in
          let regs = regs_equal in
          let sizes = size_same t laws k v w near in (
            λ i h l.
                let most = potential_at_most t k w next i in
                let b = base_equal i in
                elim (potential_is t k v row i) [
                  | inl safe ↦ let e = safe_stays next j i agrees (omega arith) h (omega arith) l safe.0 safe.1 safe.2 in omega arith
                  | inr e ↦ elim (cases_lt (t.regs k v) i) [
                    | inl past ↦ let z = part_past t k w next i (potential t k w next i) (omega arith) in omega arith
                    | inr fits ↦
                        let x = part_at_most t laws k w next w_part i in
                        let y = part_full t laws k v row v_part i j dirty (omega arith) fits in
                        omega arith
                  ]
                ],
            (let most = potential_at_most t k w next j in
                let b = base_equal j in
                let c = cost_at_most_one row p j in
                let x = part_below t laws k w next w_part j (clean_up_to t laws k v w p m near low row next j agrees lowest) in
                let y = part_full t laws k v row v_part j j dirty (omega arith) used in
                elim (potential_is t k v row j) [
                  | inr e ↦ omega arith
                  | inl safe ↦ let even = safe.1 in let odd = s.odd in absurd (omega arith)
                ]),
          )

    -- The priority of the level: the node's last register is reset.
    module _ (top : p ≡ 2 * k) (clean_v : Clean t (suc k) v row) where
      -- the registers that the node uses hold even contents of at least 2k after the update
      updated_even : (i : ℕ) → 1 ≤ i → i ≤ t.r → i ≤ t.regs (suc k) v → (max (row i) p % 2 ≡ 0) × (2 * k ≤ max (row i) p)
      updated_even i some there used = elim (cases_lt p (row i)) [
        | inr under ↦ let e : max (row i) p ≡ 2 * k = omega arith in rw e (omega arith, omega arith)
        | inl over ↦
            let e : max (row i) p ≡ row i = omega arith in
            rw e (elim (cases_eq (row i % 2) 0) [
              | inl even ↦ (even, omega arith)
              | inr odd ↦ absurd (clean_v i (stale_from t (suc k) v row i (record { some = some; there = there; used = used; odd = omega arith; high = lofty_high t (suc k) (row i) v (omega arith) })))
            ])
      ]

      reset_falls : t.regs (suc k) v ≤ t.r → (next : ℕ → ℕ) → Agrees t next row p (t.regs (suc k) v) → Falls t (suc k) v w row next p (t.regs (suc k) v)
      reset_falls there next agrees =
          let j = t.regs (suc k) v in
          let some = laws.some_regs (suc k) v v_there in
          let same = same_last in
          let here = agrees j some there in
          let c = cost_reset row p j some in
          let free = (updated_even j some there (omega arith)).0 in (
            λ i h l. let z = potential_past t laws (suc k) w next i w_there (omega arith) in omega arith,
            elim (after_is row p j j) [
              | inl above ↦ let a = above.0 in absurd (omega arith)
              | inr (inl first) ↦
                  let one = first.1 in
                  let clean_w = clean_after t laws (suc k) v w p m inside (omega arith) row next j agrees clean_v in
                  let bound = potential_bound t laws (suc k) w next w_there clean_w j in
                  let small = laws.lone (suc k) w (same ∙ one) in
                  omega arith
              | inr (inr shifted) ↦
                  let apart = shifted.1 in
                  let even = updated_even (j - 1) (omega arith) (omega arith) (omega arith) in
                  let value = here ∙ shifted.2 in
                  let parity = ap (λ x. x % 2) value in
                  let z = potential_safe t k w next j (omega arith) (omega arith) (omega arith) in
                  omega arith
            ],
          )

  -- the step lemma
  pub step_falls : (k v w p : ℕ) (row : ℕ → ℕ) → Move v w p → In t k v w → p + 2 ≤ 2 * k → Clean t k v row → Choice t k v w row p
  step_falls zero v w p row m inside h clean_v = absurd (omega arith)
  step_falls (suc k) v w p row m inside h clean_v = elim (cases_eq p (2 * k)) [
    | inl top ↦
        let there = laws.enough k v w p m inside top in
        (t.regs (suc k) v, there, omega arith, reset_falls k v w p m inside row top clean_v there)
    | inr apart ↦
        let low : p < 2 * k = omega arith in
        let falls = laws.never_rises k v w p m low in
        elim (cases_eq (t.grade k w) (t.grade k v)) [
          | inr other ↦ (0, omega arith, omega arith, out_falls k v w p m inside row low (omega arith))
          | inl same ↦
              let near = laws.narrower k v w inside same in
              let grow = laws.regs_grow k v (itself t laws k v w near) in
              let lower : p + 2 ≤ 2 * k = elim (cases_eq (p + 1) (2 * k)) [ inl e ↦ let less = laws.drops k v w p m e in absurd (omega arith) | inr e ↦ omega arith ] in
              elim (lowest_stale t k v row) [
                | inl dirty ↦
                    let s = stale_says t k v row dirty.0 dirty.1 in
                    let used = s.used in
                    (dirty.0, s.there, omega arith, stale_falls k v w p m inside row lower near dirty.0 dirty.1 dirty.2)
                | inr clean_below ↦
                    let (j, there, used, inner) = step_falls k v w p row m near lower clean_below in
                    (j, there, omega arith, λ next agrees. inner_falls k v w p m inside row lower near j there used clean_below next agrees (inner next agrees))
              ]
        ]
  ]
