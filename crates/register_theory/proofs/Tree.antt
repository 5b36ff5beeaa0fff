-- Nested nodes of positions. At each level the positions are divided into nodes, and each node into parts of the level below, which are ordered
-- by their grades; a node of few positions has few registers.
use Rattle.std.proofs.Common.{◌≡◌, ℕ, suc, ◌+◌, ◌*◌, ◌<◌, ◌≤◌, Bool, true, false, ◌&&◌, ◌||◌, eqb, ltb, leb, ◌⊎◌, sym, refl, ◌∙◌, inl, inr, arith}
use Rattle.std.proofs.lemmas.Bool.{cases_lt, cases_Bool, both_ways, and_parts, and_from, and_left, and_right, or_cases, or_from, ltb-true, lt-ltb, le-ltb, leb-true, le-leb, eqb-true, eq-eqb}
use Rattle.toolkit.specs.Finite.{count}
use Rattle.toolkit.proofs.Counting.{count_monotone, count_strict, count_union, count_positive, count_witness, count_none}

-- member k v u: u is in the node of v at level k. grade k orders the parts of a node of level k + 1.
pub record Tree : Type 0 where
  pub n : ℕ
  pub r : ℕ
  pub grade : ℕ → ℕ → ℕ
  pub regs : ℕ → ℕ → ℕ
  pub member : ℕ → ℕ → ℕ → Bool

abbrev pub In : Tree → ℕ → ℕ → ℕ → Type 0
In t k v u = t.member k v u ≡ true

-- how many positions the node of v has
unfoldable pub size : Tree → ℕ → ℕ → ℕ
size t k v = count t.n (t.member k v)

-- What is used of a tree: the nodes of a level are classes, the parts of a node those of equal grade; along a move of a priority below 2k grade k
-- does not rise, and it falls along one of priority 2k - 1; a node's parts have no more registers than the node, at most one of them has as many, and
-- a node with one register has one position; a move of priority 2k within a node of level k + 1 finds a register to reset.
pub record Laws (t : Tree) (Move : ℕ → ℕ → ℕ → Type 0) : Type 0 where
  pub exists : (k v u : ℕ) → In t k v u → u < t.n
  pub turned : (k v u : ℕ) → In t k v u → In t k u v
  pub joined : (k u v w : ℕ) → In t k u v → In t k v w → In t k u w
  pub wider : (k v u : ℕ) → In t k v u → In t (suc k) v u
  pub same_grade : (k v u : ℕ) → In t k v u → t.grade k u ≡ t.grade k v
  pub narrower : (k v u : ℕ) → In t (suc k) v u → t.grade k u ≡ t.grade k v → In t k v u
  pub never_rises : (k v w p : ℕ) → Move v w p → p < 2 * k → t.grade k w ≤ t.grade k v
  pub drops : (k v w p : ℕ) → Move v w p → p + 1 ≡ 2 * k → t.grade k w < t.grade k v
  pub same_regs : (k v u : ℕ) → In t k v u → t.regs k u ≡ t.regs k v
  pub some_regs : (k v : ℕ) → In t k v v → 1 ≤ t.regs k v
  pub regs_grow : (k v : ℕ) → In t k v v → t.regs k v ≤ t.regs (suc k) v
  pub one_large : (k v u : ℕ) → In t (suc k) v u → t.regs k v ≡ t.regs (suc k) v → t.regs k u ≡ t.regs (suc k) v → t.grade k u ≡ t.grade k v
  pub lone : (k v : ℕ) → t.regs k v ≡ 1 → size t k v ≤ 1
  pub enough : (k v w p : ℕ) → Move v w p → In t (suc k) v w → p ≡ 2 * k → t.regs (suc k) v ≤ t.r

-- u is in the node of v at level k + 1, has a smaller grade k than v, and at least j registers at level k
behind : Tree → ℕ → ℕ → ℕ → ℕ → Bool
behind t k v j u = t.member (suc k) v u && (ltb (t.grade k u) (t.grade k v) && leb j (t.regs k u))

-- how many such positions there are
pub base : Tree → ℕ → ℕ → ℕ → ℕ
base t k v j = count t.n (behind t k v j)

-- v has the greatest grade k of its node at level k + 1
pub topmost : Tree → ℕ → ℕ → Bool
topmost t k v = eqb (count t.n (λ u. t.member (suc k) v u && ltb (t.grade k v) (t.grade k u))) 0

module _ (t : Tree) (k v : ℕ) where
  behind_says : (j u : ℕ) → behind t k v j u ≡ true → In t (suc k) v u × (t.grade k u < t.grade k v) × (j ≤ t.regs k u)
  unfolding behind
  behind_says j u e =
      let one = and_parts (t.member (suc k) v u) (ltb (t.grade k u) (t.grade k v) && leb j (t.regs k u)) e in
      let two = and_parts (ltb (t.grade k u) (t.grade k v)) (leb j (t.regs k u)) one.1 in
      (one.0, ltb-true (t.grade k u) (t.grade k v) two.0, leb-true j (t.regs k u) two.1)

  behind_from : (j u : ℕ) → In t (suc k) v u → t.grade k u < t.grade k v → j ≤ t.regs k u → behind t k v j u ≡ true
  unfolding behind
  behind_from j u a b c =
      and_from (t.member (suc k) v u) (ltb (t.grade k u) (t.grade k v) && leb j (t.regs k u)) a
      (and_from (ltb (t.grade k u) (t.grade k v)) (leb j (t.regs k u)) (lt-ltb (t.grade k u) (t.grade k v) b) (le-leb j (t.regs k u) c))

  behind_not : (j u : ℕ) → t.grade k v ≤ t.grade k u → behind t k v j u ≡ false
  unfolding behind
  behind_not j u h =
      and_right (t.member (suc k) v u) (ltb (t.grade k u) (t.grade k v) && leb j (t.regs k u))
      (and_left (ltb (t.grade k u) (t.grade k v)) (leb j (t.regs k u)) (le-ltb (t.grade k u) (t.grade k v) h))

  above : ℕ → Bool
  above u = t.member (suc k) v u && ltb (t.grade k v) (t.grade k u)

  above_from : (u : ℕ) → In t (suc k) v u → t.grade k v < t.grade k u → above u ≡ true
  unfolding above
  above_from u a b = and_from (t.member (suc k) v u) (ltb (t.grade k v) (t.grade k u)) a (lt-ltb (t.grade k v) (t.grade k u) b)

  above_says : (u : ℕ) → above u ≡ true → In t (suc k) v u × (t.grade k v < t.grade k u)
  unfolding above
  above_says u e = let parts = and_parts (t.member (suc k) v u) (ltb (t.grade k v) (t.grade k u)) e in (parts.0, ltb-true (t.grade k v) (t.grade k u) parts.1)

  topmost_is : topmost t k v ≡ eqb (count t.n above) 0
  unfolding topmost above
  topmost_is = refl

  pub topmost_or_not : (topmost t k v ≡ true) ⊎ ((u : ℕ) × In t (suc k) v u × (t.grade k v < t.grade k u))
  topmost_or_not = elim (cases_lt 0 (count t.n above)) [
    | inl some ↦
        let found = count_witness t.n above some in
        inr (found.0, (above_says found.0 found.2).0, (above_says found.0 found.2).1)
    | inr none ↦ inl (topmost_is ∙ eq-eqb (count t.n above) 0 (omega arith))
  ]

  pub topmost_from : ((u : ℕ) → In t (suc k) v u → t.grade k u ≤ t.grade k v) → topmost t k v ≡ true
  topmost_from h = elim topmost_or_not [ inl e ↦ e | inr found ↦ let l = h found.0 found.1 in let m = found.2 in absurd (omega arith) ]

module _ (t : Tree) {Move : ℕ → ℕ → ℕ → Type 0} (laws : Laws t Move) where
  pub topmost_says : (k v u : ℕ) → topmost t k v ≡ true → In t (suc k) v u → t.grade k u ≤ t.grade k v
  topmost_says k v u e inside = elim (cases_lt (t.grade k v) (t.grade k u)) [
    | inr h ↦ h
    | inl h ↦
        let none = eqb-true (count t.n (above t k v)) 0 (sym (topmost_is t k v) ∙ e) in
        absurd (both_ways (above t k v u) (count_none t.n (above t k v) none u (laws.exists (suc k) v u inside)) (above_from t k v u inside h))
  ]

  pub itself : (k v u : ℕ) → In t k v u → In t k v v
  itself k v u inside = laws.joined k v u v inside (laws.turned k v u inside)

  pub size_positive : (k v : ℕ) → In t k v v → 1 ≤ size t k v
  unfolding size
  size_positive k v inside = count_positive t.n (t.member k v) v (laws.exists k v v inside) inside

  size_within : (k v w : ℕ) → In t k v w → size t k w ≤ size t k v
  unfolding size
  size_within k v w inside = count_monotone t.n (t.member k w) (t.member k v) (λ u l e. laws.joined k v w u inside e)

  pub size_same : (k v w : ℕ) → In t k v w → size t k w ≡ size t k v
  size_same k v w inside = let a = size_within k v w inside in let b = size_within k w v (laws.turned k v w inside) in omega arith

  -- where one position of a node has no greater grade than another, no more positions are behind it
  pub base_monotone : (k v w j : ℕ) → In t (suc k) v w → t.grade k w ≤ t.grade k v → base t k w j ≤ base t k v j
  unfolding base
  base_monotone k v w j inside h = count_monotone t.n (behind t k w j) (behind t k v j) (λ u l e.
      let parts = behind_says t k w j u e in
      let less = parts.1 in
      behind_from t k v j u (laws.joined (suc k) v w u inside parts.0) (omega arith) parts.2)

  pub base_same : (k v w j : ℕ) → In t k v w → base t k w j ≡ base t k v j
  base_same k v w j inside =
      let e = laws.same_grade k v w inside in
      let wide = laws.wider k v w inside in
      let a = base_monotone k v w j wide (omega arith) in
      let b = base_monotone k w v j (laws.turned (suc k) v w wide) (omega arith) in
      omega arith

  -- the positions behind w and those of its own part
  union_count : (k w j : ℕ) → count t.n (λ u. behind t k w j u || t.member k w u) ≡ base t k w j + size t k w
  unfolding base size
  union_count k w j = count_union t.n (behind t k w j) (t.member k w) (λ u l a b. let less = (behind_says t k w j u a).1 in let same = laws.same_grade k w u b in omega arith)

  -- a smaller grade leaves its whole part behind, if that has the registers
  pub base_jump : (k v w j : ℕ) → In t (suc k) v w → t.grade k w < t.grade k v → j ≤ t.regs k w → base t k w j + size t k w ≤ base t k v j
  unfolding base
  base_jump k v w j inside less enough =
      let e = union_count k w j in
      let l = count_monotone t.n (λ u. behind t k w j u || t.member k w u) (behind t k v j) (λ u l e. within u e) in
      omega arith
    where
      within : (u : ℕ) → (behind t k w j u || t.member k w u) ≡ true → behind t k v j u ≡ true
      within u e = elim (or_cases (behind t k w j u) (t.member k w u) e) [
        | inl a ↦
            let parts = behind_says t k w j u a in
            let h = parts.1 in
            behind_from t k v j u (laws.joined (suc k) v w u inside parts.0) (omega arith) parts.2
        | inr b ↦
            let same = laws.same_grade k w u b in
            let regs = laws.same_regs k w u b in
            behind_from t k v j u (laws.joined (suc k) v w u inside (laws.wider k w u b)) (omega arith) (omega arith)
      ]

  in_node : (k v j u : ℕ) → (behind t k v j u || t.member k v u) ≡ true → In t (suc k) v u
  in_node k v j u e = elim (or_cases (behind t k v j u) (t.member k v u) e) [ inl a ↦ (behind_says t k v j u a).0 | inr b ↦ laws.wider k v u b ]

  -- a part and what is behind it fit into the node
  pub base_fits : (k v j : ℕ) → base t k v j + size t k v ≤ size t (suc k) v
  unfolding size
  base_fits k v j =
      let e = union_count k v j in
      let l = count_monotone t.n (λ u. behind t k v j u || t.member k v u) (t.member (suc k) v) (λ u l e. in_node k v j u e) in
      omega arith

  -- with one to spare, where a greater grade is ahead
  pub base_spares : (k v j u : ℕ) → In t (suc k) v u → t.grade k v < t.grade k u → base t k v j + size t k v < size t (suc k) v
  unfolding size
  base_spares k v j u inside ahead =
      let e = union_count k v j in
      let l = count_strict t.n (λ x. behind t k v j x || t.member k v x) (t.member (suc k) v) u (λ x l e. in_node k v j x e) (laws.exists (suc k) v u inside) out inside in
      omega arith
    where
      out : (behind t k v j u || t.member k v u) ≡ false
      out = or_from (behind t k v j u) (t.member k v u) (behind_not t k v j u (omega arith)) (elim (cases_Bool (t.member k v u)) [
        | inl e ↦ let same = laws.same_grade k v u e in absurd (omega arith)
        | inr e ↦ e
      ])

  -- no position behind has more registers than the node, and none as many as v if v has as many as the node
  pub base_past : (k v j : ℕ) → t.regs (suc k) v < j → base t k v j ≡ 0
  unfolding base
  base_past k v j h = elim (cases_lt 0 (count t.n (behind t k v j))) [
    | inr none ↦ omega arith
    | inl some ↦
        let found = count_witness t.n (behind t k v j) some in
        let u = found.0 in
        let parts = behind_says t k v j u found.2 in
        let same = laws.same_regs (suc k) v u parts.0 in
        let back = laws.turned (suc k) v u parts.0 in
        let grow = laws.regs_grow k u (laws.narrower k u u (itself (suc k) u v back) refl) in
        let l = parts.2 in
        absurd (omega arith)
  ]

  pub base_largest : (k v j : ℕ) → t.regs k v ≡ t.regs (suc k) v → j ≡ t.regs (suc k) v → base t k v j ≡ 0
  unfolding base
  base_largest k v j large e = elim (cases_lt 0 (count t.n (behind t k v j))) [
    | inr none ↦ omega arith
    | inl some ↦
        let found = count_witness t.n (behind t k v j) some in
        let u = found.0 in
        let parts = behind_says t k v j u found.2 in
        let same = laws.same_regs (suc k) v u parts.0 in
        let back = laws.turned (suc k) v u parts.0 in
        let grow = laws.regs_grow k u (laws.narrower k u u (itself (suc k) u v back) refl) in
        let l = parts.2 in
        let less = parts.1 in
        let equal = laws.one_large k v u parts.0 large (omega arith) in
        absurd (omega arith)
  ]
