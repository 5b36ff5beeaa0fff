-- The potential: digits that tell how far a position and a row are from falling, level by level.
use Rattle.std.proofs.Common.{◌≡◌, ℕ, zero, suc, ◌+◌, ◌-◌, ◌*◌, ◌%◌, ◌<◌, ◌≤◌, Bool, true, false, cond, ◌&&◌, eqb, ltb, leb, ◌⊎◌, refl, ◌∙◌, inl, inr, arith}
use Rattle.std.proofs.lemmas.Bool.{cases_lt, cases_Bool, both_ways, and_parts, and_from, cond-true, cond-false, lt-ltb, le-ltb, leb-true, le-leb, lt-leb, eqb-true, eq-eqb}
use Rattle.toolkit.specs.Finite.{bit, count}
use Rattle.toolkit.proofs.Counting.{bit_of_true, bit_of_false, bit_at_most_one, count_positive, count_witness, count_none}
use Rattle.register_theory.proofs.Tree.{Tree, In, Laws, size, base, topmost_or_not, size_positive, base_fits, base_spares, base_past}
use Rattle.register_theory.proofs.Stale.{stale, Clean, stale_says, lowest_stale, topmost_clean}

-- 1 if one of the registers up to j is stale
late : Tree → ℕ → ℕ → (ℕ → ℕ) → ℕ → ℕ
late t k v row j = bit (ltb 0 (count (suc j) (stale t k v row)))

pub clean : Tree → ℕ → ℕ → (ℕ → ℕ) → Bool
clean t k v row = eqb (count (suc t.r) (stale t k v row)) 0

-- what a part of the node adds to digit j: x, the digit of the level below, if the level is clean; else nearly its size, or all of it once a stale
-- register is among those up to j
pub part : Tree → ℕ → ℕ → (ℕ → ℕ) → ℕ → ℕ → ℕ
part t k v row j x = cond (leb j (t.regs k v)) (cond (clean t k v row) x (size t k v - 1 + late t k v row j)) 0

-- j is the node's last register and holds an even content of at least 2k
safe : Tree → ℕ → ℕ → (ℕ → ℕ) → ℕ → Bool
safe t k v row j = eqb j (t.regs (suc k) v) && (eqb (row j % 2) 0 && leb (2 * k) (row j))

-- potential t k v row j: digit j at level k
pub potential : Tree → ℕ → ℕ → (ℕ → ℕ) → ℕ → ℕ
potential t zero v row j = 0
potential t (suc k) v row j = cond (safe t k v row j) 0 (base t k v j + part t k v row j (potential t k v row j))

module _ (t : Tree) (k v : ℕ) (row : ℕ → ℕ) where
  pub clean_says : clean t k v row ≡ true → Clean t k v row
  unfolding clean
  clean_says e i s =
      let none = eqb-true (count (suc t.r) (stale t k v row)) 0 e in
      let h = (stale_says t k v row i s).there in
      both_ways (stale t k v row i) (count_none (suc t.r) (stale t k v row) none i (omega arith)) s

  pub clean_from : Clean t k v row → clean t k v row ≡ true
  unfolding clean
  clean_from h = elim (cases_lt 0 (count (suc t.r) (stale t k v row))) [
    | inl some ↦ let found = count_witness (suc t.r) (stale t k v row) some in absurd (h found.0 found.2)
    | inr none ↦ eq-eqb (count (suc t.r) (stale t k v row)) 0 (omega arith)
  ]

  not_clean : (i : ℕ) → stale t k v row i ≡ true → clean t k v row ≡ false
  not_clean i s = elim (cases_Bool (clean t k v row)) [ inl e ↦ absurd (clean_says e i s) | inr e ↦ e ]

  late_at_most_one : (j : ℕ) → late t k v row j ≤ 1
  unfolding late
  late_at_most_one j = bit_at_most_one (ltb 0 (count (suc j) (stale t k v row)))

  late_one : (j i : ℕ) → stale t k v row i ≡ true → i ≤ j → late t k v row j ≡ 1
  unfolding late
  late_one j i s h = bit_of_true (ltb 0 (count (suc j) (stale t k v row))) (lt-ltb 0 (count (suc j) (stale t k v row)) (count_positive (suc j) (stale t k v row) i (omega arith) s))

  late_none : (j : ℕ) → ((i : ℕ) → i ≤ j → stale t k v row i ≡ true → ⊥) → late t k v row j ≡ 0
  unfolding late
  late_none j none = bit_of_false (ltb 0 (count (suc j) (stale t k v row))) (le-ltb 0 (count (suc j) (stale t k v row)) (elim (cases_lt 0 (count (suc j) (stale t k v row))) [
    | inl some ↦ let found = count_witness (suc j) (stale t k v row) some in let l = found.1 in absurd (none found.0 (omega arith) found.2)
    | inr h ↦ h
  ]))

  part_inside : (j x : ℕ) → j ≤ t.regs k v → part t k v row j x ≡ cond (clean t k v row) x (size t k v - 1 + late t k v row j)
  unfolding part
  part_inside j x h = cond-true (leb j (t.regs k v)) _ 0 (le-leb j (t.regs k v) h)

  pub part_clean : (j x : ℕ) → j ≤ t.regs k v → Clean t k v row → part t k v row j x ≡ x
  part_clean j x h c = part_inside j x h ∙ cond-true (clean t k v row) x (size t k v - 1 + late t k v row j) (clean_from c)

  part_stale : (j x i : ℕ) → j ≤ t.regs k v → stale t k v row i ≡ true → part t k v row j x ≡ size t k v - 1 + late t k v row j
  part_stale j x i h s = part_inside j x h ∙ cond-false (clean t k v row) x (size t k v - 1 + late t k v row j) (not_clean i s)

  pub part_past : (j x : ℕ) → t.regs k v < j → part t k v row j x ≡ 0
  unfolding part
  part_past j x h = cond-false (leb j (t.regs k v)) _ 0 (lt-leb j (t.regs k v) h)

  -- a digit is 0 at a safe register, else the positions behind and what the part adds
  pub potential_is : (j : ℕ) → ((j ≡ t.regs (suc k) v) × (row j % 2 ≡ 0) × (2 * k ≤ row j) × (potential t (suc k) v row j ≡ 0)) ⊎ (potential t (suc k) v row j ≡ base t k v j + part t k v row j (potential t k v row j))
  unfolding potential safe
  potential_is j = elim (cases_Bool (safe t k v row j)) [
    | inl e ↦
        let one = and_parts (eqb j (t.regs (suc k) v)) (eqb (row j % 2) 0 && leb (2 * k) (row j)) e in
        let two = and_parts (eqb (row j % 2) 0) (leb (2 * k) (row j)) one.1 in
        inl (eqb-true j (t.regs (suc k) v) one.0, eqb-true (row j % 2) 0 two.0, leb-true (2 * k) (row j) two.1, cond-true (safe t k v row j) 0 (base t k v j + part t k v row j (potential t k v row j)) e)
    | inr e ↦ inr (cond-false (safe t k v row j) 0 (base t k v j + part t k v row j (potential t k v row j)) e)
  ]

  pub potential_at_most : (j : ℕ) → potential t (suc k) v row j ≤ base t k v j + part t k v row j (potential t k v row j)
  potential_at_most j = elim (potential_is j) [ inl zero_there ↦ let e = zero_there.3 in omega arith | inr e ↦ omega arith ]

  pub potential_safe : (j : ℕ) → j ≡ t.regs (suc k) v → row j % 2 ≡ 0 → 2 * k ≤ row j → potential t (suc k) v row j ≡ 0
  unfolding potential safe
  potential_safe j e even high =
      cond-true (safe t k v row j) 0 (base t k v j + part t k v row j (potential t k v row j))
      (and_from (eqb j (t.regs (suc k) v)) (eqb (row j % 2) 0 && leb (2 * k) (row j)) (eq-eqb j (t.regs (suc k) v) e)
      (and_from (eqb (row j % 2) 0) (leb (2 * k) (row j)) (eq-eqb (row j % 2) 0 even) (le-leb (2 * k) (row j) high)))

potential_none : (t : Tree) (v : ℕ) (row : ℕ → ℕ) (j : ℕ) → potential t 0 v row j ≡ 0
unfolding potential
potential_none t v row j = refl

-- the last digit of a node is 0 while its last register is even and high
pub potential_rests : (t : Tree) (k v : ℕ) (row : ℕ → ℕ) → row (t.regs k v) % 2 ≡ 0 → 2 * k ≤ row (t.regs k v) + 2 → potential t k v row (t.regs k v) ≡ 0
potential_rests t zero v row even high = potential_none t v row (t.regs zero v)
potential_rests t (suc k) v row even high = potential_safe t k v row (t.regs (suc k) v) refl even (omega arith)

module _ (t : Tree) {Move : ℕ → ℕ → ℕ → Type 0} (laws : Laws t Move) where
  -- where the level is clean, a digit is less than the size of the node
  pub potential_bound : (k v : ℕ) (row : ℕ → ℕ) → In t k v v → Clean t k v row → (j : ℕ) → potential t k v row j < size t k v
  potential_bound zero v row inside c j = let e = potential_none t v row j in let h = size_positive t laws zero v inside in omega arith
  potential_bound (suc k) v row inside c j =
      let here = laws.narrower k v v inside refl in
      let some = size_positive t laws k v here in
      let most = potential_at_most t k v row j in
      let fits = base_fits t laws k v j in
      elim (cases_lt (t.regs k v) j) [
        | inl past ↦ let e = part_past t k v row j (potential t k v row j) past in omega arith
        | inr used ↦ elim (lowest_stale t k v row) [
          | inr below ↦
              let e = part_clean t k v row j (potential t k v row j) used below in
              let h = potential_bound k v row here below j in
              omega arith
          | inl dirty ↦
              let e = part_stale t k v row j (potential t k v row j) dirty.0 used dirty.1 in
              let l = late_at_most_one t k v row j in
              elim (topmost_or_not t k v) [
                | inl top ↦ absurd (topmost_clean t laws k v row here top c dirty.0 dirty.1)
                | inr ahead ↦ let spare = base_spares t laws k v j ahead.0 ahead.1 ahead.2 in omega arith
              ]
        ]
      ]

  -- digits above the node's registers are 0
  pub potential_past : (k v : ℕ) (row : ℕ → ℕ) (j : ℕ) → In t k v v → t.regs k v < j → potential t k v row j ≡ 0
  potential_past zero v row j inside h = potential_none t v row j
  potential_past (suc k) v row j inside h =
      let here = laws.narrower k v v inside refl in
      let grow = laws.regs_grow k v here in
      let most = potential_at_most t k v row j in
      let none = base_past t laws k v j h in
      let e = part_past t k v row j (potential t k v row j) (omega arith) in
      omega arith

  module _ (k v : ℕ) (row : ℕ → ℕ) (inside : In t k v v) (j : ℕ) where
    -- a part adds at most its size
    pub part_at_most : part t k v row j (potential t k v row j) ≤ size t k v
    part_at_most = let some = size_positive t laws k v inside in elim (cases_lt (t.regs k v) j) [
      | inl past ↦ let e = part_past t k v row j (potential t k v row j) past in omega arith
      | inr used ↦ elim (lowest_stale t k v row) [
        | inr below ↦ let e = part_clean t k v row j (potential t k v row j) used below in let h = potential_bound k v row inside below j in omega arith
        | inl dirty ↦ let e = part_stale t k v row j (potential t k v row j) dirty.0 used dirty.1 in let l = late_at_most_one t k v row j in omega arith
      ]
    ]

    -- less than its size where no register up to j is stale
    pub part_below : ((i : ℕ) → i ≤ j → stale t k v row i ≡ true → ⊥) → part t k v row j (potential t k v row j) < size t k v
    part_below none = let some = size_positive t laws k v inside in elim (cases_lt (t.regs k v) j) [
      | inl past ↦ let e = part_past t k v row j (potential t k v row j) past in omega arith
      | inr used ↦ elim (lowest_stale t k v row) [
        | inr below ↦ let e = part_clean t k v row j (potential t k v row j) used below in let h = potential_bound k v row inside below j in omega arith
        | inl dirty ↦ let e = part_stale t k v row j (potential t k v row j) dirty.0 used dirty.1 in let l = late_none t k v row j none in omega arith
      ]
    ]

    -- all of it where one is, and the part has the register
    pub part_full : (i : ℕ) → stale t k v row i ≡ true → i ≤ j → j ≤ t.regs k v → part t k v row j (potential t k v row j) ≡ size t k v
    part_full i s h used =
        let some = size_positive t laws k v inside in
        let e = part_stale t k v row j (potential t k v row j) i used s in
        let l = late_one t k v row j i s h in
        omega arith
