-- The base-two logarithm, rounded down, and the number of binary digits.
use Rattle.std.specs.Prelude.{ℕ, zero, suc, ◌+◌, ◌^◌, ◌<◌, ◌≤◌, cond, nat_lt}

-- It grows by one at each power of two, and only there.
abbrev pub grown : ℕ → ℕ → ℕ
grown k n = cond (nat_lt n (2 ^ suc k)) k (suc k)

unfoldable pub log2 : ℕ → ℕ
log2 zero = 0
log2 (suc n) = grown (log2 n) (suc n)

-- A number from 2^k to below 2^(k+1) has the logarithm k.
abbrev pub Log2Law : ℕ → Type 0
Log2Law n = 1 ≤ n → (2 ^ log2 n ≤ n) × (n < 2 ^ (log2 n + 1))

-- How many binary digits a number has: one more than its logarithm; 0 has none.
abbrev pub binary_digits : ℕ → ℕ
binary_digits zero = 0
binary_digits (suc n) = log2 (suc n) + 1
