-- Counting and adding up below a number, and a function changed at one place.
use Rattle.std.specs.Prelude.{◌≡◌, ℕ, zero, suc, ◌+◌, ◌*◌, ◌^◌, ◌<◌, ◌≤◌, Bool, true, false, cond, ◌==◌}

abbrev pub bit : Bool → ℕ
bit true = 1
bit false = 0

-- How many i < n pass the test.
unfoldable pub count : ℕ → (ℕ → Bool) → ℕ
count zero test = 0
count (suc n) test = bit (test n) + count n test

-- f 0 + .. + f (n - 1).
unfoldable pub sum : ℕ → (ℕ → ℕ) → ℕ
sum zero f = 0
sum (suc n) f = f n + sum n f

-- The number with the digits d 0, .., d (k - 1) in base n, the lowest first.
unfoldable pub digits : ℕ → ℕ → (ℕ → ℕ) → ℕ
digits n k d = sum k (λ j. d j * n ^ j)

-- f, but x at k.
unfoldable pub put : {A : Type 0} → (ℕ → A) → ℕ → A → ℕ → A
put f k x i = cond (i == k) x (f i)

-- Two of the n + 1 numbers f 0, .., f n are the same.
abbrev pub Twice : ℕ → (ℕ → ℕ) → Type 0
Twice n f = (i j : ℕ) × (i < j) × (j ≤ n) × (f i ≡ f j)

-- Where d steps of a function lead.
abbrev pub after : (ℕ → ℕ) → ℕ → ℕ → ℕ
after next v zero = v
after next v (suc d) = after next (next v) d
