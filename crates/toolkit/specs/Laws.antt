-- The laws of counting, adding up, searching, digits and walks, a record for each.
use Rattle.std.specs.Prelude.{◌≡◌, ℕ, ◌+◌, ◌*◌, ◌/◌, ◌^◌, ◌<◌, ◌≤◌, max, Bool, true, false, ◌||◌, ◌⊎◌, ◌↔◌, List, ◌∷◌, ◌++◌, ◌≢◌}
use Rattle.game.specs.Plans.{Walk, highest}
use Rattle.toolkit.specs.Finite.{count, sum, digits}

-- What is within one set is within the other, below n.
abbrev pub Within : ℕ → (ℕ → Bool) → (ℕ → Bool) → Type 0
Within n test wider = (i : ℕ) → i < n → test i ≡ true → wider i ≡ true

-- A count is at most n, grows with the set, strictly with a new element, and adds up over sets that are apart; it is 0 for no
-- other set than the empty one.
pub record Counting (n : ℕ) : Type 0 where
  pub at_most : (test : ℕ → Bool) → count n test ≤ n
  pub monotone : (test wider : ℕ → Bool) → Within n test wider → count n test ≤ count n wider
  pub strict : (test wider : ℕ → Bool) (k : ℕ) → Within n test wider → k < n → test k ≡ false → wider k ≡ true → count n test < count n wider
  pub union : (one two : ℕ → Bool) → ((i : ℕ) → i < n → one i ≡ true → two i ≢ true) → count n (λ i. one i || two i) ≡ count n one + count n two
  pub positive : (test : ℕ → Bool) → (1 ≤ count n test) ↔ ((k : ℕ) × (k < n) × (test k ≡ true))
  pub extensional : (test other : ℕ → Bool) → ((i : ℕ) → i < n → test i ≡ other i) → count n test ≡ count n other

-- A sum grows with its terms, strictly with one of them, and is at most n times their bound.
pub record Adding (n : ℕ) : Type 0 where
  pub monotone : (f h : ℕ → ℕ) → ((i : ℕ) → i < n → f i ≤ h i) → sum n f ≤ sum n h
  pub strict : (f h : ℕ → ℕ) (k : ℕ) → ((i : ℕ) → i < n → f i ≤ h i) → k < n → f k < h k → sum n f < sum n h
  pub at_most : (b : ℕ) (f : ℕ → ℕ) → ((i : ℕ) → i < n → f i ≤ b) → sum n f ≤ n * b

-- The least number below n that passes the test, or none does.
abbrev pub LeastOrNone : ℕ → (ℕ → Bool) → Type 0
LeastOrNone n test = ((i : ℕ) × (i < n) × (test i ≡ true) × ((j : ℕ) → j < i → test j ≡ false)) ⊎ ((i : ℕ) → i < n → test i ≡ false)

-- Numbers with k digits in base n: they are below n ^ k; division by n ^ j drops the digits below j; if no digit above j rises
-- and digit j falls by c at least, so does what division by n ^ j leaves.
pub record Digits (n k : ℕ) : Type 0 where
  pub below : (d : ℕ → ℕ) → ((i : ℕ) → i < k → d i < n) → digits n k d < n ^ k
  pub quotient : (m : ℕ) (d : ℕ → ℕ) → ((i : ℕ) → i < k → d i < n) → digits n (k + m) d / n ^ k ≡ digits n m (λ i. d (k + i))
  pub falls : (j c : ℕ) (d e : ℕ → ℕ) → ((i : ℕ) → i < k → (d i < n) × (e i < n)) → j < k → ((i : ℕ) → j < i → i < k → d i ≤ e i) → d j + c ≤ e j → digits n k d / n ^ j + c ≤ digits n k e / n ^ j

-- The moves of a test.
abbrev pub Passing : (ℕ → ℕ → ℕ → Bool) → ℕ → ℕ → ℕ → Type 0
Passing test u v p = test u v p ≡ true

-- Walks by the moves of a test: one goes on where another ends; the highest priority is that of some move; under a rank that falls
-- with each move none is closed; and a closed walk does not cross the edge of a set that no move leaves.
pub record Walking (test : ℕ → ℕ → ℕ → Bool) : Type 0 where
  pub joined : (u v w : ℕ) (ps qs : List ℕ) → Walk (Passing test) u v ps → Walk (Passing test) v w qs → Walk (Passing test) u w (ps ++ qs) × (highest (ps ++ qs) ≡ max (highest ps) (highest qs))
  pub peak : (u w p : ℕ) (ps : List ℕ) → Walk (Passing test) u w (p ∷ ps) → (a b : ℕ) × (qs rs : List ℕ) × Walk (Passing test) u a qs × Passing test a b (highest (p ∷ ps)) × Walk (Passing test) b w rs
  pub not_closed : (rank : ℕ → ℕ) → ((u v p : ℕ) → Passing test u v p → rank v < rank u) → (v p : ℕ) (ps : List ℕ) → Walk (Passing test) v v (p ∷ ps) → ⊥
  pub one_side : (set : ℕ → Bool) → ((u v p : ℕ) → Passing test u v p → set u ≡ true → set v ≡ true) → (v w : ℕ) (ps qs : List ℕ) → Walk (Passing test) v w ps → Walk (Passing test) w v qs → set v ≡ set w
