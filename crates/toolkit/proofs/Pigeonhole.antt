-- The pigeonhole principle, and its use: a play among finitely many positions comes back.
use Rattle.std.proofs.Common.{◌≡◌, ℕ, zero, suc, ◌+◌, ◌-◌, ◌<◌, ◌≤◌, cond, eqb, sym, ap, ◌∙◌, inl, inr, suc-add, zero-add, arith}
use Rattle.std.proofs.lemmas.Bool.{cases_eq}
use Rattle.std.proofs.lemmas.Bool.Decides.{nat_tests}
use Rattle.toolkit.specs.Finite.{Twice, after}
use Rattle.toolkit.proofs.Search.{seek}

-- f, but y in place of the value n
spared : ℕ → ℕ → (ℕ → ℕ) → ℕ → ℕ
spared n y f i = cond (eqb (f i) n) y (f i)

-- n + 1 numbers below n: two of them are the same
pub pigeonhole : (n : ℕ) (f : ℕ → ℕ) → ((i : ℕ) → i ≤ n → f i < n) → Twice n f
unfolding spared
pigeonhole zero f below = let h = below 0 (omega arith) in absurd (omega arith)
pigeonhole (suc n) f below = elim (seek {P = λ i. f i ≡ f (suc n)} {Q = λ i. f i ≡ f (suc n) → ⊥} (suc n) (λ i h. cases_eq (f i) (f (suc n)))) [
  | inl found ↦ (found.0, suc n, found.1, omega arith, found.2)
  | inr new ↦ lifted new (pigeonhole n (spared n (f (suc n)) f) (smaller new))
]
  where
    smaller : ((i : ℕ) → i < suc n → f i ≡ f (suc n) → ⊥) → (i : ℕ) → i ≤ n → spared n (f (suc n)) f i < n
    smaller new i h = grind (arith, nat_tests, below i, below (suc n), new i)

    lifted : ((i : ℕ) → i < suc n → f i ≡ f (suc n) → ⊥) → Twice n (spared n (f (suc n)) f) → Twice (suc n) f
    lifted new (i, j, less, l, e) = (i, j, less, omega arith, grind (arith, nat_tests, new i, new j))

pub after_more : (next : ℕ → ℕ) (v i d : ℕ) → after next v (i + d) ≡ after next (after next v i) d
after_more next v zero d = ap (λ k. after next v k) (zero-add d)
after_more next v (suc i) d = ap (λ k. after next v k) (suc-add i d) ∙ after_more next (next v) i d

pub after_keeps : {In : ℕ → Type 0} (next : ℕ → ℕ) → ((u : ℕ) → In u → In (next u)) → (d v : ℕ) → In v → In (after next v d)
after_keeps next kept zero v inside = inside
after_keeps next kept (suc d) v inside = after_keeps next kept d (next v) (kept v inside)

-- steps that stay among the numbers below n come back to where they were
pub comes_back : {In : ℕ → Type 0} (n : ℕ) (next : ℕ → ℕ) → ((u : ℕ) → In u → (u < n) × In (next u)) → (v : ℕ) → In v → (u d : ℕ) × In u × (after next u (suc d) ≡ u)
comes_back {In} n next kept v inside = found (pigeonhole n (after next v) (λ i l. (kept (after next v i) (in_reach i)).0))
  where
    in_reach : (i : ℕ) → In (after next v i)
    in_reach i = after_keeps next (λ u h. (kept u h).1) i v inside

    found : Twice n (after next v) → (u d : ℕ) × In u × (after next u (suc d) ≡ u)
    found (i, j, less, l, e) =
        let split : i + suc (j - suc i) ≡ j = omega arith in
        (after next v i, j - suc i, in_reach i, sym (after_more next v i (suc (j - suc i))) ∙ ap (λ k. after next v k) split ∙ sym e)
