-- What a function changed at one place gives there and elsewhere.
use Rattle.std.proofs.Common.{◌≡◌, ℕ, ◌⊎◌, arith}
use Rattle.std.proofs.lemmas.Bool.Decides.{nat_tests}
use Rattle.toolkit.specs.Finite.{put}

module _ {A : Type 0} (f : ℕ → A) (k : ℕ) (x : A) where
  pub put_same : put f k x k ≡ x
  unfolding put
  put_same = grind (arith, nat_tests)

  pub put_other : (i : ℕ) → (i ≡ k → ⊥) → put f k x i ≡ f i
  unfolding put
  put_other i apart = grind (arith, nat_tests)

  pub put_is : (i : ℕ) → ((i ≡ k) × (put f k x i ≡ x)) ⊎ ((i ≡ k → ⊥) × (put f k x i ≡ f i))
  unfolding put
  put_is i = grind (arith, nat_tests)
