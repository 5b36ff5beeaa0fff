-- The laws of counting and adding up below a number.
use Rattle.std.proofs.Common.{◌≡◌, ℕ, zero, suc, ◌+◌, ◌*◌, ◌<◌, ◌≤◌, Bool, true, false, not, ◌||◌, refl, ap, ap₂, inl, inr, suc-mul, arith}
use Rattle.std.proofs.lemmas.Bool.{cases_Bool, cases_eq, both_ways}
use Rattle.toolkit.specs.Finite.{bit, count, sum}

pub bit_of_true : (b : Bool) → b ≡ true → bit b ≡ 1
bit_of_true b e = rw e refl

pub bit_of_false : (b : Bool) → b ≡ false → bit b ≡ 0
bit_of_false b e = rw e refl

pub bit_at_most_one : (b : Bool) → bit b ≤ 1
bit_at_most_one true = omega arith
bit_at_most_one false = omega arith

pub bit_monotone : (b c : Bool) → (b ≡ true → c ≡ true) → bit b ≤ bit c
bit_monotone b true h = rw (bit_of_true true refl) (bit_at_most_one b)
bit_monotone true false h = absurd (both_ways false refl (h refl))
bit_monotone false false h = omega arith

pub count_at_most : (n : ℕ) (test : ℕ → Bool) → count n test ≤ n
unfolding count
count_at_most zero test = omega arith
count_at_most (suc n) test = omega (arith, count_at_most n test, bit_at_most_one (test n))

pub count_monotone : (n : ℕ) (test wider : ℕ → Bool) → ((i : ℕ) → i < n → test i ≡ true → wider i ≡ true) → count n test ≤ count n wider
unfolding count
count_monotone zero test wider h = omega arith
count_monotone (suc n) test wider h =
    omega (arith, count_monotone n test wider (λ i l. h i (omega arith)), bit_monotone (test n) (wider n) (h n (omega arith)))

pub count_extensional : (n : ℕ) (test other : ℕ → Bool) → ((i : ℕ) → i < n → test i ≡ other i) → count n test ≡ count n other
unfolding count
count_extensional zero test other h = refl
count_extensional (suc n) test other h = ap₂ (λ b m. bit b + m) (h n (omega arith)) (count_extensional n test other (λ i l. h i (omega arith)))

-- one more element makes the count strictly greater
pub count_strict : (n : ℕ) (test wider : ℕ → Bool) (k : ℕ) → ((i : ℕ) → i < n → test i ≡ true → wider i ≡ true) → k < n → test k ≡ false → wider k ≡ true → count n test < count n wider
unfolding count
count_strict zero test wider k h l out inside = absurd (omega arith)
count_strict (suc n) test wider k h l out inside =
    grind (arith, bit_of_true, bit_of_false, bit_monotone (test n) (wider n) (h n (omega arith)), count_monotone n test wider (λ i l. h i (omega arith)), count_strict n test wider k (λ i l. h i (omega arith)))

pub count_positive : (n : ℕ) (test : ℕ → Bool) (k : ℕ) → k < n → test k ≡ true → 1 ≤ count n test
count_positive n test k l inside = omega (arith, count_strict n (λ i. false) test k (λ i h e. cc) l refl inside)

pub count_witness : (n : ℕ) (test : ℕ → Bool) → 1 ≤ count n test → (k : ℕ) × (k < n) × (test k ≡ true)
unfolding count
count_witness zero test h = absurd (omega arith)
count_witness (suc n) test h = grind (arith, count_witness n test, bit_of_true, bit_of_false)

-- a count of 0 says that nothing below n passes
pub count_none : (n : ℕ) (test : ℕ → Bool) → count n test ≡ 0 → (k : ℕ) → k < n → test k ≡ false
count_none n test h k l = grind (arith, count_positive n test k l)

pub count_union : (n : ℕ) (one two : ℕ → Bool) → ((i : ℕ) → i < n → one i ≡ true → two i ≡ true → ⊥) → count n (λ i. one i || two i) ≡ count n one + count n two
unfolding count
count_union zero one two apart = refl
count_union (suc n) one two apart =
    let more = count_union n one two (λ i l. apart i (omega arith)) in
    grind (arith, apart n, bit_of_true, bit_of_false)

pub sum_monotone : (n : ℕ) (f g : ℕ → ℕ) → ((i : ℕ) → i < n → f i ≤ g i) → sum n f ≤ sum n g
unfolding sum
sum_monotone zero f g h = omega arith
sum_monotone (suc n) f g h = omega (arith, sum_monotone n f g (λ i l. h i (omega arith)), h n)

pub sum_strict : (n : ℕ) (f g : ℕ → ℕ) (k : ℕ) → ((i : ℕ) → i < n → f i ≤ g i) → k < n → f k < g k → sum n f < sum n g
unfolding sum
sum_strict zero f g k h l less = absurd (omega arith)
sum_strict (suc n) f g k h l less = grind (arith, sum_monotone n f g (λ i l. h i (omega arith)), sum_strict n f g k (λ i l. h i (omega arith)))

pub sum_at_most : (n b : ℕ) (f : ℕ → ℕ) → ((i : ℕ) → i < n → f i ≤ b) → sum n f ≤ n * b
unfolding sum
sum_at_most zero b f h = omega arith
sum_at_most (suc n) b f h = grind (arith, sum_at_most n b f (λ i l. h i (omega arith)), h n, suc-mul)

-- a count of n says that everything below n passes
pub count_all : (n : ℕ) (test : ℕ → Bool) → count n test ≡ n → (k : ℕ) → k < n → test k ≡ true
count_all n test h k l = elim (cases_Bool (test k)) [
  | inl e ↦ e
  | inr e ↦
      let more = count_strict n test (λ i. true) k (λ i l e. refl) l e refl in
      let top = count_at_most n (λ i. true) in
      absurd (omega arith)
]

-- the elements inside and those outside are all of them
pub count_complement : (n : ℕ) (test : ℕ → Bool) → count n test + count n (λ i. not (test i)) ≡ n
unfolding count
count_complement zero test = refl
count_complement (suc n) test = omega (arith, count_complement n test, both (test n))
  where
    both : (b : Bool) → bit b + bit (not b) ≡ 1
    both true = refl
    both false = refl

pub sum_extensional : (n : ℕ) (f g : ℕ → ℕ) → ((i : ℕ) → i < n → f i ≡ g i) → sum n f ≡ sum n g
unfolding sum
sum_extensional zero f g h = refl
sum_extensional (suc n) f g h = ap₂ (λ a b. a + b) (h n (omega arith)) (sum_extensional n f g (λ i l. h i (omega arith)))

-- a count is a sum of ones and zeros
pub count_sum : (n : ℕ) (test : ℕ → Bool) → count n test ≡ sum n (λ i. bit (test i))
unfolding count sum
count_sum zero test = refl
count_sum (suc n) test = ap (λ m. bit (test n) + m) (count_sum n test)

-- each term is at most the sum
pub sum_term : (n : ℕ) (f : ℕ → ℕ) (k : ℕ) → k < n → f k ≤ sum n f
unfolding sum
sum_term zero f k l = absurd (omega arith)
sum_term (suc n) f k l = elim (cases_eq k n) [
  | inl e ↦ rw e (omega arith)
  | inr apart ↦ let more = sum_term n f k (omega arith) in omega arith
]
