-- What an array has that a closure made from the indices, where each call leaves the closure as it was.
use Rattle.std.proofs.Common.{◌≡◌, ℕ, zero, suc, ◌+◌, ◌<◌, ◌≤◌, List, get_or, inl, inr, refl, arith}
use Rattle.std.proofs.lemmas.Bool.{cases_eq}
use Rattle.std.specs.Array.{IsFromFnResult, IsFromFnResultFrom}
use Rattle.std.specs.Fn.{Called}
use denote.Param.Members.{Mut}

module _ {F B : Type 0} (g : Mut F (ℕ × Unit {0}) B) (f : F) (Q : ℕ → B → Type 0) (step : (i : ℕ) (y : B) (q : F) → Called g f (i, tt) y q → (q ≡ f) × Q i y) where
  each_from : (ys : List B) (d : B) (p : F) (i n k : ℕ) → p ≡ f → IsFromFnResultFrom g p ys i n → i ≤ k → k < i + n → Q k (get_or ys k d)
  each_from ys d p i zero k e is low high = absurd (omega arith)
  each_from ys d p i (suc n) k e (q, y, there, called, rest) low high =
      let (same, value) = step i y q (rw e at called) in
      elim (cases_eq k i) [
        | inl at ↦ rw (at, there.1 d) value
        | inr apart ↦ each_from ys d q (i + 1) n k same rest (omega arith) (omega arith)
      ]

  pub each_from_fn : (ys : List B) (n k : ℕ) (d : B) → IsFromFnResult g f ys n → k < n → Q k (get_or ys k d)
  each_from_fn ys n k d is low = each_from ys d f 0 n k refl is.each (omega arith) (omega arith)
