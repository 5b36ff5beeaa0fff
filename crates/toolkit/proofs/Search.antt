-- Search below a number, with a reason on both sides: what is sought, or why nothing is.
use Rattle.std.proofs.Common.{ℕ, zero, suc, ◌<◌, ◌⊎◌, inl, inr, arith}
use Rattle.std.proofs.lemmas.Bool.{cases_eq}

extended : {Q : ℕ → Type 0} (n : ℕ) → ((i : ℕ) → i < n → Q i) → Q n → (i : ℕ) → i < suc n → Q i
extended n all last i h = elim (cases_eq i n) [ inl e ↦ rw e last | inr apart ↦ all i (omega arith) ]

module _ {P Q : ℕ → Type 0} where
  -- the least i < n with P i, and Q at each one below it; or Q at all of them
  pub seek_least : (n : ℕ) → ((i : ℕ) → i < n → P i ⊎ Q i) → ((i : ℕ) × (i < n) × P i × ((j : ℕ) → j < i → Q j)) ⊎ ((i : ℕ) → i < n → Q i)
  seek_least zero look = inr (λ i h. absurd (omega arith))
  seek_least (suc n) look = elim (seek_least n (λ i h. look i (omega arith))) [
    | inl found ↦ inl (found.0, let h = found.1 in omega arith, found.2, found.3)
    | inr none ↦ elim (look n (omega arith)) [
      | inl p ↦ inl (n, omega arith, p, none)
      | inr q ↦ inr (extended n none q)
    ]
  ]

  -- some i < n with P i, or Q at all of them
  pub seek : (n : ℕ) → ((i : ℕ) → i < n → P i ⊎ Q i) → ((i : ℕ) × (i < n) × P i) ⊎ ((i : ℕ) → i < n → Q i)
  seek n look = elim (seek_least n look) [ inl found ↦ inl (found.0, found.1, found.2) | inr none ↦ inr none ]
