-- The tree of a winning plan of Even's: grades from what a position reaches by moves of low priorities.
use Rattle.std.proofs.Common.{◌≡◌, ℕ, suc, ◌+◌, ◌*◌, ◌%◌, ◌^◌, ◌<◌, ◌≤◌, max, Bool, true, false, cond, not, ◌&&◌, ◌||◌, eqb, ltb, leb, length, sym, refl, ap, ◌∙◌, inl, inr, mul-lt-mul_of_pos_right, arith, pow_pos}
use Rattle.std.proofs.lemmas.Bool.{cases_lt, cases_eq, cases_Bool, both_ways, and_parts, and_from, or_cases, or_left, or_right, not-true, not_from_false, cond-true, cond-false, ltb-true, lt-ltb, leb-true, le-leb, lt-leb, eqb-true, eq-eqb, ne_eqb}
use Rattle.game.specs.declared.Player.TheVariants.{Even}
use Rattle.game.specs.declared.Arc.{Arc}
use Rattle.game.specs.Game.{Game, Lawful, parity}
use Rattle.game.specs.Plans.{Plan, Follows, Wins, highest}
use Rattle.game.specs.Plans.Walk.{step}
use Rattle.game.proofs.Arcs.{arc_there}
use Rattle.toolkit.specs.Finite.{bit, count, digits}
use Rattle.toolkit.specs.Reachability.{reach}
use Rattle.toolkit.proofs.Counting.{bit_of_true, bit_of_false, bit_at_most_one, bit_monotone, count_monotone, count_positive, count_witness, count_none, count_union, sum_strict}
use Rattle.toolkit.proofs.Digits.{digits_monotone}
use Rattle.toolkit.proofs.Walks.{walk_mapped, highest_at_most}
use Rattle.toolkit.proofs.Reachability.{reach_inside, reach_self, reach_step, reach_joined, reach_monotone, moves_from_reach}
use Rattle.determinacy.specs.Statements.{same}
use Rattle.determinacy.proofs.Players.{same_true, same_from}
use Rattle.determinacy.proofs.Subgames.{arc, to, priority, arc_known, arc_is}
use Rattle.register_theory.specs.Groups.{leads_to, in_group, SmallGroups}
use Rattle.register_theory.proofs.Groups.{leads_from_nth}
use Rattle.register_theory.proofs.Binary.{bits, bits_at_most, bits_monotone, bits_positive, bits_one, one_large_part, digits_same}
use Rattle.register_theory.proofs.Tree.{Tree, Laws, size}

-- Moves that follow a plan, by a test.
module _ (g : Game) (s : Plan) where
  -- the plan allows arc i at u
  allows : ℕ → ℕ → Bool
  allows u i = not (same (g.mover u) s.player) || eqb i (s.choice u)

  by_arc : ℕ → ℕ → ℕ → ℕ → Bool
  by_arc bound u w i = (s.claims u && allows u i) && (eqb (to g u i) w && ltb (priority g u i) bound)

  -- some move of a priority below the bound leads from u to w
  pub edge : ℕ → ℕ → ℕ → Bool
  edge bound u w = ltb 0 (count (length (g.arcs u)) (by_arc bound u w))

  allows_from : (u i : ℕ) → (g.mover u ≡ s.player → i ≡ s.choice u) → allows u i ≡ true
  unfolding allows
  allows_from u i chosen = elim (cases_Bool (same (g.mover u) s.player)) [
    | inl mine ↦ or_right (not (same (g.mover u) s.player)) (eqb i (s.choice u)) (eq-eqb i (s.choice u) (chosen (same_true (g.mover u) s.player mine)))
    | inr theirs ↦ or_left (not (same (g.mover u) s.player)) (eqb i (s.choice u)) (not_from_false (same (g.mover u) s.player) theirs)
  ]

  allows_says : (u i : ℕ) → allows u i ≡ true → g.mover u ≡ s.player → i ≡ s.choice u
  unfolding allows
  allows_says u i e mine = elim (or_cases (not (same (g.mover u) s.player)) (eqb i (s.choice u)) e) [
    | inl other ↦ absurd (both_ways (same (g.mover u) s.player) (not-true (same (g.mover u) s.player) other) (same_from (g.mover u) s.player mine))
    | inr chosen ↦ eqb-true i (s.choice u) chosen
  ]

  pub edge_from : (bound u w p : ℕ) → Follows g s u w p → p < bound → edge bound u w ≡ true
  unfolding edge by_arc to priority
  edge_from bound u w p m low =
      let i = m.number in
      let known = arc_is g u i m.arc m.is_arc in
      let leads : to g u i ≡ w = ap (λ (a : Arc). a.target) known.1 ∙ m.leads in
      let costs : priority g u i ≡ p = ap (λ (a : Arc). a.priority) known.1 ∙ m.costs in
      lt-ltb 0 (count (length (g.arcs u)) (by_arc bound u w)) (count_positive (length (g.arcs u)) (by_arc bound u w) i known.0
      (and_from (s.claims u && allows u i) (eqb (to g u i) w && ltb (priority g u i) bound)
      (and_from (s.claims u) (allows u i) m.claimed (allows_from u i m.chosen))
      (and_from (eqb (to g u i) w) (ltb (priority g u i) bound) (eq-eqb (to g u i) w leads) (lt-ltb (priority g u i) bound (omega arith)))))

  pub edge_says : Wins g s → (bound u w : ℕ) → edge bound u w ≡ true → (p : ℕ) × Follows g s u w p × (p < bound)
  unfolding edge by_arc to priority
  edge_says wins bound u w e =
      let found = count_witness (length (g.arcs u)) (by_arc bound u w) (ltb-true 0 (count (length (g.arcs u)) (by_arc bound u w)) e) in
      let i = found.0 in
      let one = and_parts (s.claims u && allows u i) (eqb (to g u i) w && ltb (priority g u i) bound) found.2 in
      let two = and_parts (s.claims u) (allows u i) one.0 in
      let three = and_parts (eqb (to g u i) w) (ltb (priority g u i) bound) one.1 in (
        priority g u i,
        record {
          number = i;
          arc = arc g u i;
          claimed = two.0;
          is_arc = arc_known g u i (wins.claims_exist u two.0) found.1;
          chosen = allows_says u i two.1;
          leads = eqb-true (to g u i) w three.0;
          costs = refl;
        },
        ltb-true (priority g u i) bound three.1,
      )

-- What a position reaches, as one number: a binary digit for each position.
pub key : ℕ → (ℕ → ℕ → Bool) → ℕ → ℕ
key n edges v = digits 2 n (λ u. bit (reach n edges v u))

module _ (n : ℕ) (edges : ℕ → ℕ → Bool) where
  key_monotone : (v w : ℕ) → ((u : ℕ) → reach n edges w u ≡ true → reach n edges v u ≡ true) → key n edges w ≤ key n edges v
  unfolding key
  key_monotone v w more = digits_monotone 2 n (λ u. bit (reach n edges w u)) (λ u. bit (reach n edges v u)) (λ u l. bit_monotone (reach n edges w u) (reach n edges v u) (more u))

  key_strict : (v w x : ℕ) → ((u : ℕ) → reach n edges w u ≡ true → reach n edges v u ≡ true) → x < n → reach n edges w x ≡ false → reach n edges v x ≡ true → key n edges w < key n edges v
  unfolding key digits
  key_strict v w x more h out inside =
      sum_strict n (λ u. bit (reach n edges w u) * 2 ^ u) (λ u. bit (reach n edges v u) * 2 ^ u) x
      (λ u l. native.Mathlib.Nat.mul-le-mul_right (2 ^ u) (bit_monotone (reach n edges w u) (reach n edges v u) (more u))) h
      (let a = bit_of_false (reach n edges w x) out in
      let b = bit_of_true (reach n edges v x) inside in
      let less : bit (reach n edges w x) < bit (reach n edges v x) = omega arith in
      mul-lt-mul_of_pos_right less (pow_pos x))

  -- positions with the same key reach the same
  key_same : (v w : ℕ) → key n edges v ≡ key n edges w → (u : ℕ) → reach n edges v u ≡ true → reach n edges w u ≡ true
  unfolding key
  key_same v w e u there =
      let low = λ (i : ℕ) (l : i < n). pair i in
      let h = (reach_inside n edges v u there).1 in
      let equal = digits_same 2 n (λ u. bit (reach n edges v u)) (λ u. bit (reach n edges w u)) low e u h in
      let one = bit_of_true (reach n edges v u) there in
      elim (cases_Bool (reach n edges w u)) [
        | inl yes_there ↦ yes_there
        | inr out ↦ let z = bit_of_false (reach n edges w u) out in absurd (omega arith)
      ]
    where
      pair : (i : ℕ) → (bit (reach n edges v i) < 2) × (bit (reach n edges w i) < 2)
      pair i = let a = bit_at_most_one (reach n edges v i) in let b = bit_at_most_one (reach n edges w i) in (omega arith, omega arith)

module _ (g : Game) (lawful : Lawful g) (s : Plan) (wins : Wins g s) (even : s.player ≡ Even) (r : ℕ) (some : 1 ≤ r) (small : SmallGroups r g) where
  abbrev n : ℕ
  n = g.size

  -- the highest level at which positions are told apart: above it all moves count
  abbrev pub outermost : ℕ
  outermost = suc g.top

  pub grade : ℕ → ℕ → ℕ
  grade k v = cond (leb k outermost) (key n (edge g s (2 * k)) v) 0

  differs : ℕ → ℕ → ℕ → ℕ → Bool
  differs k v u t = leb k t && not (eqb (grade t v) (grade t u))

  -- both are claimed and have the same grades from level k on
  pub member : ℕ → ℕ → ℕ → Bool
  member k v u = (s.claims v && s.claims u) && eqb (count (suc outermost) (differs k v u)) 0

  pub regs : ℕ → ℕ → ℕ
  regs k v = cond (leb k outermost) (bits (count n (member k v))) (suc r)

  abbrev pub tree : Tree
  tree = record { n = n; r = r; grade = grade; regs = regs; member = member }

  grade_low : (k v : ℕ) → k ≤ outermost → grade k v ≡ key n (edge g s (2 * k)) v
  unfolding grade
  grade_low k v h = cond-true (leb k outermost) (key n (edge g s (2 * k)) v) 0 (le-leb k outermost h)

  grade_high : (k v : ℕ) → outermost < k → grade k v ≡ 0
  unfolding grade
  grade_high k v h = cond-false (leb k outermost) (key n (edge g s (2 * k)) v) 0 (lt-leb k outermost h)

  pub record Alike (k v u : ℕ) : Type 0 where
    pub claimed : s.claims v ≡ true
    pub claims_other : s.claims u ≡ true
    pub same_grades : (t : ℕ) → k ≤ t → grade t u ≡ grade t v

  member_says : (k v u : ℕ) → member k v u ≡ true → Alike k v u
  unfolding member differs
  member_says k v u e =
      let one = and_parts (s.claims v && s.claims u) (eqb (count (suc outermost) (differs k v u)) 0) e in
      let two = and_parts (s.claims v) (s.claims u) one.0 in
      let none = eqb-true (count (suc outermost) (differs k v u)) 0 one.1 in
      record {
        claimed = two.0;
        claims_other = two.1;
        same_grades = λ t h. elim (cases_lt outermost t) [
          | inl high ↦ grade_high t u high ∙ sym (grade_high t v high)
          | inr low ↦ elim (cases_eq (grade t v) (grade t u)) [
            | inl same ↦ sym same
            | inr apart ↦
                absurd (both_ways (differs k v u t) (count_none (suc outermost) (differs k v u) none t (omega arith))
                (and_from (leb k t) (not (eqb (grade t v) (grade t u))) (le-leb k t h) (not_from_false (eqb (grade t v) (grade t u)) (ne_eqb (grade t v) (grade t u) apart))))
          ]
        ];
      }

  pub member_from : (k v u : ℕ) → Alike k v u → member k v u ≡ true
  unfolding member differs
  member_from k v u a =
      and_from (s.claims v && s.claims u) (eqb (count (suc outermost) (differs k v u)) 0)
      (and_from (s.claims v) (s.claims u) a.claimed a.claims_other)
      (elim (cases_lt 0 (count (suc outermost) (differs k v u))) [
        | inr none ↦ eq-eqb (count (suc outermost) (differs k v u)) 0 (omega arith)
        | inl found_some ↦
            let found = count_witness (suc outermost) (differs k v u) found_some in
            let t = found.0 in
            let parts = and_parts (leb k t) (not (eqb (grade t v) (grade t u))) found.2 in
            let equal = a.same_grades t (leb-true k t parts.0) in
            absurd (both_ways (eqb (grade t v) (grade t u)) (not-true (eqb (grade t v) (grade t u)) parts.1) (eq-eqb (grade t v) (grade t u) (sym equal)))
      ])

  -- all claimed positions are alike above the outermost level
  pub claimed_alike : (k v u : ℕ) → outermost < k → s.claims v ≡ true → s.claims u ≡ true → member k v u ≡ true
  claimed_alike k v u h a b = member_from k v u (record { claimed = a; claims_other = b; same_grades = λ t l. grade_high t u (omega arith) ∙ sym (grade_high t v (omega arith)) })

  turned : (k v u : ℕ) → member k v u ≡ true → member k u v ≡ true
  turned k v u e = let a = member_says k v u e in member_from k u v (record { claimed = a.claims_other; claims_other = a.claimed; same_grades = λ t h. sym (a.same_grades t h) })

  joined : (k u v w : ℕ) → member k u v ≡ true → member k v w ≡ true → member k u w ≡ true
  joined k u v w e f =
      let a = member_says k u v e in
      let b = member_says k v w f in
      member_from k u w (record { claimed = a.claimed; claims_other = b.claims_other; same_grades = λ t h. b.same_grades t h ∙ a.same_grades t h })

  wider : (k v u : ℕ) → member k v u ≡ true → member (suc k) v u ≡ true
  wider k v u e = let a = member_says k v u e in member_from (suc k) v u (record { claimed = a.claimed; claims_other = a.claims_other; same_grades = λ t h. a.same_grades t (omega arith) })

  narrower : (k v u : ℕ) → member (suc k) v u ≡ true → grade k u ≡ grade k v → member k v u ≡ true
  narrower k v u e same =
      let a = member_says (suc k) v u e in
      member_from k v u (record {
        claimed = a.claimed;
        claims_other = a.claims_other;
        same_grades = λ t h. elim (cases_eq t k) [ inl here ↦ rw here same | inr apart ↦ a.same_grades t (omega arith) ];
      })

  -- along a move
  module _ (v w p : ℕ) (m : Follows g s v w p) where
    v_inside : v < n
    v_inside = wins.claims_exist v m.claimed

    w_inside : w < n
    w_inside = wins.claims_exist w (wins.stays_claimed v w p m)

    reaches_more : (k : ℕ) → p < 2 * k → (u : ℕ) → reach n (edge g s (2 * k)) w u ≡ true → reach n (edge g s (2 * k)) v u ≡ true
    reaches_more k low u there = reach_joined n (edge g s (2 * k)) v w u (reach_step n (edge g s (2 * k)) v w v_inside w_inside (edge_from g s (2 * k) v w p m low)) there

    never_rises : (k : ℕ) → p < 2 * k → grade k w ≤ grade k v
    never_rises k low = elim (cases_lt outermost k) [
      | inl high ↦ let a = grade_high k w high in let b = grade_high k v high in omega arith
      | inr fits ↦
          let a = grade_low k w fits in
          let b = grade_low k v fits in
          let l = key_monotone n (edge g s (2 * k)) v w (reaches_more k low) in
          omega arith
    ]

    -- no way leads back by lower priorities after a move of an odd one
    no_way_back : (k : ℕ) → p + 1 ≡ 2 * k → reach n (edge g s (2 * k)) w v ≡ true → ⊥
    no_way_back k e back =
        let way = moves_from_reach n (edge g s (2 * k)) {Move = λ a b q. Follows g s a b q × (q < 2 * k)} (λ a b x y z. let found = edge_says g s wins (2 * k) a b z in (found.0, (found.1, found.2))) w v back in
        let low = highest_at_most p (λ a b q (f : Follows g s a b q × (q < 2 * k)). let l = f.1 in omega arith) way.1 in
        let closed = wins.closed_walks v p way.0 (step m (walk_mapped (λ a b q f. f.0) way.1)) ∙ ap parity even in
        let top : max p (highest way.0) ≡ p = omega arith in
        let parity_below = ap (λ x. x % 2) top in
        omega arith

    drops : p ≤ g.top → (k : ℕ) → p + 1 ≡ 2 * k → grade k w < grade k v
    drops bound k e =
        let fits : k ≤ outermost = omega arith in
        let edges = edge g s (2 * k) in
        let a = grade_low k w fits in
        let b = grade_low k v fits in
        let out : reach n edges w v ≡ false = elim (cases_Bool (reach n edges w v)) [ inl back ↦ absurd (no_way_back k e back) | inr none ↦ none ] in
        let l = key_strict n edges v w v (reaches_more k (omega arith)) v_inside out (reach_self n edges v v_inside) in
        omega arith

  -- sizes and registers
  node_size : ℕ → ℕ → ℕ
  node_size k v = count n (member k v)

  regs_low : (k v : ℕ) → k ≤ outermost → regs k v ≡ bits (node_size k v)
  unfolding regs node_size
  regs_low k v h = cond-true (leb k outermost) (bits (count n (member k v))) (suc r) (le-leb k outermost h)

  regs_high : (k v : ℕ) → outermost < k → regs k v ≡ suc r
  unfolding regs
  regs_high k v h = cond-false (leb k outermost) (bits (count n (member k v))) (suc r) (lt-leb k outermost h)

  size_within : (k v w : ℕ) → member k v w ≡ true → node_size k w ≤ node_size k v
  unfolding node_size
  size_within k v w e = count_monotone n (member k w) (member k v) (λ u l f. joined k v w u e f)

  size_some : (k v : ℕ) → member k v v ≡ true → 1 ≤ node_size k v
  unfolding node_size
  size_some k v e = count_positive n (member k v) v (wins.claims_exist v (member_says k v v e).claimed) e

  size_grows : (k v : ℕ) → node_size k v ≤ node_size (suc k) v
  unfolding node_size
  size_grows k v = count_monotone n (member k v) (member (suc k) v) (λ u l e. wider k v u e)

  -- an edge is an arc
  edge_arc : (bound a b : ℕ) → edge g s bound a b ≡ true → leads_to (g.arcs a) b ≡ true
  edge_arc bound a b e =
      let (p, m, low) = edge_says g s wins bound a b e in
      rw (← m.leads) (leads_from_nth (g.arcs a) m.number m.arc (arc_there g a m.number m.arc m.is_arc).1)

  -- positions of a node up to the outermost level reach one another
  node_in_group : (k v u : ℕ) → k ≤ outermost → member k v u ≡ true → in_group g v u ≡ true
  node_in_group k v u h e =
      let a = member_says k v u e in
      let edges = edge g s (2 * outermost) in
      let same_key : key n edges u ≡ key n edges v = sym (grade_low outermost u (omega arith)) ∙ a.same_grades outermost h ∙ grade_low outermost v (omega arith) in
      let to_u = key_same n edges u v same_key u (reach_self n edges u (wins.claims_exist u a.claims_other)) in
      let to_v = key_same n edges v u (sym same_key) v (reach_self n edges v (wins.claims_exist v a.claimed)) in
      let arcs : ℕ → ℕ → Bool = λ a b. leads_to (g.arcs a) b in
      let wide = λ (a b : ℕ) (f : edges a b ≡ true). edge_arc (2 * outermost) a b f in
      and_from (reach n arcs v u) (reach n arcs u v) (reach_monotone n edges arcs wide v u to_u) (reach_monotone n edges arcs wide u v to_v)

  size_small : (k v : ℕ) → k ≤ outermost → node_size k v < 2 ^ r
  unfolding node_size
  size_small k v h = elim (cases_lt 0 (count n (member k v))) [
    | inr none ↦ let pos = pow_pos r in omega arith
    | inl found_some ↦
        let found = count_witness n (member k v) found_some in
        let claimed = (member_says k v found.0 found.2).claimed in
        let l = small v (wins.claims_exist v claimed) in
        let within = count_monotone n (member k v) (in_group g v) (λ u l e. node_in_group k v u h e) in
        omega arith
  ]

  regs_small : (k v : ℕ) → k ≤ outermost → regs k v ≤ r
  regs_small k v h = let e = regs_low k v h in let l = bits_at_most (node_size k v) r (size_small k v h) in omega arith

  regs_grow : (k v : ℕ) → regs k v ≤ regs (suc k) v
  regs_grow k v = elim (cases_lt k outermost) [
    | inl low ↦
        let a = regs_low k v (omega arith) in
        let b = regs_low (suc k) v (omega arith) in
        let l = bits_monotone (node_size k v) (node_size (suc k) v) (size_grows k v) in
        omega arith
    | inr high ↦
        let b = regs_high (suc k) v (omega arith) in
        elim (cases_lt outermost k) [
          | inl past ↦ let a = regs_high k v past in omega arith
          | inr here ↦ let l = regs_small k v here in omega arith
        ]
  ]

  same_regs : (k v u : ℕ) → member k v u ≡ true → regs k u ≡ regs k v
  same_regs k v u e =
      let a = size_within k v u e in
      let b = size_within k u v (turned k v u e) in
      let equal : node_size k u ≡ node_size k v = omega arith in
      elim (cases_lt outermost k) [
        | inl past ↦ regs_high k u past ∙ sym (regs_high k v past)
        | inr low ↦ regs_low k u low ∙ ap bits equal ∙ sym (regs_low k v low)
      ]

  some_regs : (k v : ℕ) → member k v v ≡ true → 1 ≤ regs k v
  some_regs k v e = elim (cases_lt outermost k) [
    | inl past ↦ let a = regs_high k v past in omega arith
    | inr low ↦ let a = regs_low k v low in let l = bits_positive (node_size k v) (size_some k v e) in omega arith
  ]

  -- two parts of different grades fit into the node
  two_parts : (k v u : ℕ) → member (suc k) v u ≡ true → (grade k u ≡ grade k v → ⊥) → node_size k v + node_size k u ≤ node_size (suc k) v
  unfolding node_size
  two_parts k v u e apart =
      let union = count_union n (member k v) (member k u) (λ x l a b. apart (sym ((member_says k u x b).same_grades k (omega arith)) ∙ (member_says k v x a).same_grades k (omega arith))) in
      let l = count_monotone n (λ x. member k v x || member k u x) (member (suc k) v) (λ x l f. elim (or_cases (member k v x) (member k u x) f) [
        | inl a ↦ wider k v x a
        | inr b ↦ joined (suc k) v u x e (wider k u x b)
      ]) in
      omega arith

  one_large : (k v u : ℕ) → member (suc k) v u ≡ true → regs k v ≡ regs (suc k) v → regs k u ≡ regs (suc k) v → grade k u ≡ grade k v
  one_large k v u e large_v large_u = elim (cases_lt k outermost) [
    | inr high ↦ elim (cases_lt outermost k) [
      | inl past ↦ grade_high k u past ∙ sym (grade_high k v past)
      | inr here ↦ let a = regs_small k v here in let b = regs_high (suc k) v (omega arith) in absurd (omega arith)
    ]
    | inl low ↦ elim (cases_eq (grade k u) (grade k v)) [
      | inl equal ↦ equal
      | inr apart ↦
          let a = regs_low k v (omega arith) in
          let b = regs_low k u (omega arith) in
          let c = regs_low (suc k) v (omega arith) in
          let v_there = joined (suc k) v u v e (turned (suc k) v u e) in
          let u_there = joined (suc k) u v u (turned (suc k) v u e) e in
          absurd (one_large_part (node_size k v) (node_size k u) (node_size (suc k) v) (size_some k v (narrower k v v v_there refl)) (size_some k u (narrower k u u u_there refl)) (two_parts k v u e apart) (omega arith) (omega arith))
    ]
  ]

  lone : (k v : ℕ) → regs k v ≡ 1 → size tree k v ≤ 1
  unfolding size node_size
  lone k v e = elim (cases_lt outermost k) [
    | inl past ↦ let a = regs_high k v past in absurd (omega arith)
    | inr low ↦ bits_one (count n (member k v)) (sym (regs_low k v low) ∙ e)
  ]

  priority_low : (v w p : ℕ) → Follows g s v w p → p ≤ g.top
  priority_low v w p m = let l = lawful.priority_low v m.number m.arc m.is_arc in let e = m.costs in omega arith

  pub tree_laws : Laws tree (Follows g s)
  tree_laws = record {
    exists = λ k v u e. wins.claims_exist u (member_says k v u e).claims_other;
    turned = turned;
    joined = joined;
    wider = wider;
    same_grade = λ k v u e. (member_says k v u e).same_grades k (omega arith);
    narrower = narrower;
    never_rises = λ k v w p m low. never_rises v w p m k low;
    drops = λ k v w p m e. drops v w p m (priority_low v w p m) k e;
    same_regs = same_regs;
    some_regs = some_regs;
    regs_grow = λ k v e. regs_grow k v;
    one_large = one_large;
    lone = lone;
    enough = λ k v w p m e top. let low = priority_low v w p m in regs_small (suc k) v (omega arith);
  }
