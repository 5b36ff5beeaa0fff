-- Stale contents: odd contents that the position cannot fall below any more. A level is clean where no register that it uses holds one.
use Rattle.std.proofs.Common.{◌≡◌, ℕ, zero, suc, ◌+◌, ◌-◌, ◌*◌, ◌%◌, ◌<◌, ◌≤◌, max, Bool, true, ◌&&◌, ◌||◌, eqb, leb, ◌⊎◌, refl, ap, ◌∙◌, inl, inr, arith}
use Rattle.std.proofs.lemmas.Bool.{cases_lt, cases_eq, cases_Bool, both_ways, and_parts, and_from, or_cases, or_left, or_right, leb-true, le-leb, eqb-true, eq-eqb}
use Rattle.toolkit.proofs.Search.{seek_least}
use Rattle.rows.specs.Registers.{after}
use Rattle.register_theory.proofs.Contents.{after_is}
use Rattle.register_theory.proofs.Tree.{Tree, In, Laws, topmost, topmost_from, topmost_says}

-- at each level below k, c is at least twice the level or v is topmost
pub lofty : Tree → ℕ → ℕ → ℕ → Bool
lofty t zero c v = true
lofty t (suc k) c v = (leb (2 * k) c || topmost t k v) && lofty t k c v

-- register i of those that the node of v uses holds an odd content that is lofty: it is stale at level k
pub stale : Tree → ℕ → ℕ → (ℕ → ℕ) → ℕ → Bool
stale t k v row i = (leb 1 i && leb i t.r) && (leb i (t.regs k v) && (eqb (row i % 2) 1 && lofty t k (row i) v))

abbrev pub Clean : Tree → ℕ → ℕ → (ℕ → ℕ) → Type 0
Clean t k v row = (i : ℕ) → stale t k v row i ≡ true → ⊥

-- next is what the registers hold after an update by p and a reset of j
abbrev pub Agrees : Tree → (ℕ → ℕ) → (ℕ → ℕ) → ℕ → ℕ → Type 0
Agrees t next row p j = (i : ℕ) → 1 ≤ i → i ≤ t.r → next i ≡ after row p j i

module _ (t : Tree) where
  lofty_says : (k c v : ℕ) → lofty t (suc k) c v ≡ true → ((2 * k ≤ c) ⊎ (topmost t k v ≡ true)) × (lofty t k c v ≡ true)
  unfolding lofty
  lofty_says k c v e =
      let parts = and_parts (leb (2 * k) c || topmost t k v) (lofty t k c v) e in
      (elim (or_cases (leb (2 * k) c) (topmost t k v) parts.0) [ inl a ↦ inl (leb-true (2 * k) c a) | inr b ↦ inr b ], parts.1)

  pub lofty_from : (k c v : ℕ) → topmost t k v ≡ true → lofty t k c v ≡ true → lofty t (suc k) c v ≡ true
  unfolding lofty
  lofty_from k c v top l = and_from (leb (2 * k) c || topmost t k v) (lofty t k c v) (or_right (leb (2 * k) c) (topmost t k v) top) l

  -- a high content is lofty
  pub lofty_high : (k c v : ℕ) → 2 * k ≤ c + 2 → lofty t k c v ≡ true
  unfolding lofty
  lofty_high zero c v h = refl
  lofty_high (suc k) c v h =
      and_from (leb (2 * k) c || topmost t k v) (lofty t k c v) (or_left (leb (2 * k) c) (topmost t k v) (le-leb (2 * k) c (omega arith))) (lofty_high k c v (omega arith))

  lofty_none : (c v : ℕ) → lofty t 0 c v ≡ true
  unfolding lofty
  lofty_none c v = refl

  pub record Stale (k v : ℕ) (row : ℕ → ℕ) (i : ℕ) : Type 0 where
    pub some : 1 ≤ i
    pub there : i ≤ t.r
    pub used : i ≤ t.regs k v
    pub odd : row i % 2 ≡ 1
    pub high : lofty t k (row i) v ≡ true

  pub stale_says : (k v : ℕ) (row : ℕ → ℕ) (i : ℕ) → stale t k v row i ≡ true → Stale k v row i
  unfolding stale
  stale_says k v row i e =
      let one = and_parts (leb 1 i && leb i t.r) (leb i (t.regs k v) && (eqb (row i % 2) 1 && lofty t k (row i) v)) e in
      let two = and_parts (leb 1 i) (leb i t.r) one.0 in
      let three = and_parts (leb i (t.regs k v)) (eqb (row i % 2) 1 && lofty t k (row i) v) one.1 in
      let four = and_parts (eqb (row i % 2) 1) (lofty t k (row i) v) three.1 in
      record { some = leb-true 1 i two.0; there = leb-true i t.r two.1; used = leb-true i (t.regs k v) three.0; odd = eqb-true (row i % 2) 1 four.0; high = four.1 }

  pub stale_from : (k v : ℕ) (row : ℕ → ℕ) (i : ℕ) → Stale k v row i → stale t k v row i ≡ true
  unfolding stale
  stale_from k v row i s =
      and_from (leb 1 i && leb i t.r) (leb i (t.regs k v) && (eqb (row i % 2) 1 && lofty t k (row i) v))
      (and_from (leb 1 i) (leb i t.r) (le-leb 1 i s.some) (le-leb i t.r s.there))
      (and_from (leb i (t.regs k v)) (eqb (row i % 2) 1 && lofty t k (row i) v) (le-leb i (t.regs k v) s.used)
      (and_from (eqb (row i % 2) 1) (lofty t k (row i) v) (eq-eqb (row i % 2) 1 s.odd) s.high))

  -- a row of even contents is clean at every level
  pub even_clean : (k v : ℕ) (row : ℕ → ℕ) → ((i : ℕ) → 1 ≤ i → i ≤ t.r → row i % 2 ≡ 0) → Clean t k v row
  even_clean k v row even i e = let s = stale_says k v row i e in let z = even i s.some s.there in let o = s.odd in omega arith

  -- the lowest stale register, or the level is clean
  pub lowest_stale : (k v : ℕ) (row : ℕ → ℕ) → ((j : ℕ) × (stale t k v row j ≡ true) × ((i : ℕ) → i < j → stale t k v row i ≡ true → ⊥)) ⊎ Clean t k v row
  lowest_stale k v row = elim (seek_least {P = λ i. stale t k v row i ≡ true} {Q = λ i. stale t k v row i ≡ true → ⊥} (suc t.r) (λ i h. look i)) [
    | inl found ↦ inl (found.0, found.2, found.3)
    | inr none ↦ inr (λ i e. let s = stale_says k v row i e in none i (let h = s.there in omega arith) e)
  ]
    where
      look : (i : ℕ) → (stale t k v row i ≡ true) ⊎ (stale t k v row i ≡ true → ⊥)
      look i = elim (cases_Bool (stale t k v row i)) [ inl e ↦ inl e | inr e ↦ inr (both_ways (stale t k v row i) e) ]

module _ (t : Tree) {Move : ℕ → ℕ → ℕ → Type 0} (laws : Laws t Move) where
  -- where v is topmost, what is clean one level up is clean
  pub topmost_clean : (k v : ℕ) (row : ℕ → ℕ) → In t k v v → topmost t k v ≡ true → Clean t (suc k) v row → Clean t k v row
  topmost_clean k v row inside top clean i e =
      let s = stale_says t k v row i e in
      let grow = laws.regs_grow k v inside in
      clean i (stale_from t (suc k) v row i (record { some = s.some; there = s.there; used = (let u = s.used in omega arith); odd = s.odd; high = lofty_from t k (row i) v top s.high }))

  -- a newly written odd priority is not lofty: some grade has fallen
  fresh_not_lofty : (k v w p : ℕ) → Move v w p → In t k v w → p + 2 ≤ 2 * k → p % 2 ≡ 1 → lofty t k p w ≡ true → ⊥
  fresh_not_lofty zero v w p m inside h odd l = omega arith
  fresh_not_lofty (suc k) v w p m inside h odd l =
      let parts = lofty_says t k p w l in
      elim parts.0 [
        | inl high ↦ omega arith
        | inr top ↦
            let falls = laws.never_rises k v w p m (omega arith) in
            let most = topmost_says t laws k w v top (laws.turned (suc k) v w inside) in
            elim (cases_eq (p + 1) (2 * k)) [
              | inl e ↦ let less = laws.drops k v w p m e in omega arith
              | inr apart ↦ fresh_not_lofty k v w p m (laws.narrower k v w inside (omega arith)) (omega arith) odd parts.1
            ]
      ]

  -- a content that is not below the priority was as lofty before the move
  old_lofty : (k v w p c : ℕ) → Move v w p → In t k v w → p ≤ c → lofty t k c w ≡ true → lofty t k c v ≡ true
  old_lofty zero v w p c m inside h l = lofty_none t c v
  old_lofty (suc k) v w p c m inside h l = elim (cases_lt c (2 * k)) [
    | inr high ↦ lofty_high t (suc k) c v (omega arith)
    | inl low ↦
        let parts = lofty_says t k c w l in
        elim parts.0 [
          | inl high ↦ absurd (omega arith)
          | inr top ↦
              let falls = laws.never_rises k v w p m (omega arith) in
              let back = laws.turned (suc k) v w inside in
              let most = topmost_says t laws k w v top back in
              lofty_from t k c v
              (topmost_from t k v (λ u here. let l = topmost_says t laws k w u top (laws.joined (suc k) w v u back here) in omega arith))
              (old_lofty k v w p c m (laws.narrower k v w inside (omega arith)) h parts.1)
        ]
  ]

  module _ (k v w p : ℕ) (m : Move v w p) (inside : In t k v w) (low : p + 2 ≤ 2 * k) where
    -- what is stale after an update was there before, and stale
    updated_stale : (c d : ℕ) → d ≡ max c p → d % 2 ≡ 1 → lofty t k d w ≡ true → (d ≡ c) × (lofty t k c v ≡ true)
    updated_stale c d e odd l = elim (cases_lt c p) [
      | inl less ↦
          let same : d ≡ p = omega arith in
          absurd (fresh_not_lofty k v w p m inside low (rw same at odd) (rw same at l))
      | inr more ↦ let same : d ≡ c = omega arith in (same, old_lofty k v w p c m inside more (rw same at l))
    ]

    -- so a register that is stale after a double step holds what it held, or what the one below it held, stale before
    pub stale_before : (row next : ℕ → ℕ) (j : ℕ) → Agrees t next row p j → (i : ℕ) → stale t k w next i ≡ true →
        (b : ℕ) × (stale t k v row b ≡ true) × (((j < i) × (b ≡ i)) ⊎ ((i ≤ j) × (b + 1 ≡ i)))
    stale_before row next j agrees i e =
        let s = stale_says t k w next i e in
        let some = s.some in
        let there = s.there in
        let used = s.used in
        let regs = laws.same_regs k v w inside in
        let here = agrees i some there in
        elim (after_is row p j i) [
          | inl above ↦
              let old = updated_stale (row i) (next i) (here ∙ above.1) s.odd s.high in
              let same = ap (λ x. x % 2) old.0 in
              let odd = s.odd in
              (i, stale_from t k v row i (record { some = some; there = there; used = omega arith; odd = omega arith; high = old.1 }), inl (above.0, refl))
          | inr (inl first) ↦ let z = here ∙ first.2 in let zero_even = ap (λ x. x % 2) z in let odd = s.odd in absurd (omega arith)
          | inr (inr shifted) ↦
              let apart = shifted.1 in
              let old = updated_stale (row (i - 1)) (next i) (here ∙ shifted.2) s.odd s.high in
              let same = ap (λ x. x % 2) old.0 in
              let odd = s.odd in
              (i - 1, stale_from t k v row (i - 1) (record { some = omega arith; there = omega arith; used = omega arith; odd = omega arith; high = old.1 }), inr (shifted.0, omega arith))
        ]

    -- a double step keeps a level clean
    pub clean_after : (row next : ℕ → ℕ) (j : ℕ) → Agrees t next row p j → Clean t k v row → Clean t k w next
    clean_after row next j agrees clean i e = let back = stale_before row next j agrees i e in clean back.0 back.1

    -- and a reset of the lowest stale register leaves none up to it
    pub clean_up_to : (row next : ℕ → ℕ) (j : ℕ) → Agrees t next row p j → ((i : ℕ) → i < j → stale t k v row i ≡ true → ⊥) → (i : ℕ) → i ≤ j → stale t k w next i ≡ true → ⊥
    clean_up_to row next j agrees lowest i h e =
        let (b, before, way) = stale_before row next j agrees i e in
        elim way [ inl kept ↦ let l = kept.0 in omega arith | inr moved ↦ let l = moved.1 in lowest b (omega arith) before ]
