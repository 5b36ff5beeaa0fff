-- The least and the greatest of what a function gives over a list.
use Rattle.std.proofs.Common.{◌≡◌, ℕ, zero, suc, ◌<◌, ◌≤◌, List, [], ◌∷◌, map, Some, refl, inl, inr, arith}
use Rattle.std.specs.List.{slice_get}
use Rattle.std.proofs.lemmas.Bool.{cases_lt}
use Rattle.std.proofs.lemmas.Option.{none-some, same_Some}
use Rattle.heights.specs.Heights.{least, greatest}

module _ {X : Type 0} (f : X → ℕ) where
  pub least_within : (limit : ℕ) (xs : List X) → least limit (map f xs) ≤ limit
  least_within limit [] = omega arith
  least_within limit (x ∷ xs) = omega (arith, least_within limit xs)

  pub least_at_most : (limit : ℕ) (xs : List X) (i : ℕ) (x : X) → slice_get xs i ≡ Some x → least limit (map f xs) ≤ f x
  least_at_most limit [] i x e = absurd (none-some x e)
  least_at_most limit (y ∷ xs) zero x e = rw (same_Some y x e) (omega arith)
  least_at_most limit (y ∷ xs) (suc i) x e = let h = least_at_most limit xs i x e in omega arith

  -- a least below the limit is that of an element
  pub least_attained : (limit : ℕ) (xs : List X) → least limit (map f xs) < limit → (i : ℕ) × (x : X) × (slice_get xs i ≡ Some x) × (f x ≤ least limit (map f xs))
  least_attained limit [] h = absurd (omega arith)
  least_attained limit (x ∷ xs) h = elim (cases_lt (least limit (map f xs)) (f x)) [
    | inl less ↦
        let found = least_attained limit xs (omega arith) in
        (suc found.0, found.1, found.2, let l = found.3 in omega arith)
    | inr more ↦ (0, x, refl, omega arith)
  ]

  pub greatest_at_least : (xs : List X) (i : ℕ) (x : X) → slice_get xs i ≡ Some x → f x ≤ greatest (map f xs)
  greatest_at_least [] i x e = absurd (none-some x e)
  greatest_at_least (y ∷ xs) zero x e = rw (same_Some y x e) (omega arith)
  greatest_at_least (y ∷ xs) (suc i) x e = let h = greatest_at_least xs i x e in omega arith

  pub greatest_at_most : (b : ℕ) (xs : List X) → ((i : ℕ) (x : X) → slice_get xs i ≡ Some x → f x ≤ b) → greatest (map f xs) ≤ b
  greatest_at_most b [] h = omega arith
  greatest_at_most b (x ∷ xs) h =
      let here = h 0 x refl in
      let more = greatest_at_most b xs (λ i y e. h (suc i) y e) in
      omega arith
