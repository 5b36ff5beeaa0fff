-- What the registers hold, as a function of the register, and what a double step makes of it.
use Rattle.std.proofs.Common.{◌≡◌, ℕ, zero, suc, ◌+◌, ◌-◌, ◌*◌, ◌%◌, ◌<◌, ◌≤◌, max, cond, eqb, leb, ◌⊎◌, List, ◌∷◌, map, length, replicate, Some, refl, ap, ◌∙◌, inl, inr, arith}
use Rattle.std.specs.List.{slice_get}
use Rattle.std.proofs.lemmas.Bool.{cases_eq, cases_lt, cond-true, cond-false, le-leb, lt-leb, eq-eqb, ne_eqb}
use Rattle.rows.specs.Rows.{rows, place}
use Rattle.rows.specs.Registers.{content, updated, after}
use Rattle.rows.proofs.Members.{nth_left, nth_map}
use Rattle.rows.proofs.Numbering.{place_is}
use Rattle.rows.proofs.Moving.{length_updated, length_reset, content_updated, contents_moved_lem}
use Rattle.register_theory.specs.Doubling.{chosen, toll}

abbrev pub contents : List ℕ → ℕ → ℕ
contents row m = content m row

-- what register i holds after a double step: it has not been reset, is the first, or has taken what the one below it held
pub after_is : (held : ℕ → ℕ) (p j i : ℕ) → ((j < i) × (after held p j i ≡ max (held i) p)) ⊎ (((i ≤ j) × (i ≡ 1) × (after held p j i ≡ 0)) ⊎ ((i ≤ j) × (i ≡ 1 → ⊥) × (after held p j i ≡ max (held (i - 1)) p)))
after_is held p j i = elim (cases_lt j i) [
  | inl above ↦ inl (above, cond-false (leb i j) _ (max (held i) p) (lt-leb i j above))
  | inr below ↦ elim (cases_eq i 1) [
    | inl one ↦ inr (inl (below, one, cond-true (leb i j) _ (max (held i) p) (le-leb i j below) ∙ cond-true (eqb i 1) 0 (max (held (i - 1)) p) (eq-eqb i 1 one)))
    | inr more ↦ inr (inr (below, more, cond-true (leb i j) _ (max (held i) p) (le-leb i j below) ∙ cond-false (eqb i 1) 0 (max (held (i - 1)) p) (ne_eqb i 1 more)))
  ]
]

-- what a choice costs beside its register: 1 without a reset, else the parity of what the register holds when it is reset
pub cost : (ℕ → ℕ) → ℕ → ℕ → ℕ
cost held p j = cond (eqb j 0) 1 (max (held j) p % 2)

pub cost_none : (held : ℕ → ℕ) (p : ℕ) → cost held p 0 ≡ 1
unfolding cost
cost_none held p = refl

pub cost_reset : (held : ℕ → ℕ) (p j : ℕ) → 1 ≤ j → cost held p j ≡ max (held j) p % 2
unfolding cost
cost_reset held p j h = cond-false (eqb j 0) 1 (max (held j) p % 2) (ne_eqb j 0 (λ e. omega arith))

pub cost_at_most_one : (held : ℕ → ℕ) (p j : ℕ) → cost held p j ≤ 1
cost_at_most_one held p j = elim (cases_eq j 0) [
  | inl e ↦ rw (e, cost_none held p) (omega arith)
  | inr some ↦ rw (cost_reset held p j (omega arith)) (omega arith)
]

module _ (r p : ℕ) (row : List ℕ) (whole : length row ≡ r) where
  pub length_chosen : (j : ℕ) → j ≤ r → length (chosen j (updated p row)) ≡ r
  length_chosen zero h = length_updated p row ∙ whole
  length_chosen (suc j) h =
      let e = length_updated p row in
      length_reset (suc j) (updated p row) (omega arith) (omega arith) ∙ (omega arith)

  pub chosen_contents : (j i : ℕ) → j ≤ r → 1 ≤ i → i ≤ r → content i (chosen j (updated p row)) ≡ after (contents row) p j i
  chosen_contents zero i h some there = (contents_moved_lem p i row some (omega arith)).0
  chosen_contents (suc j) i h some there = (contents_moved_lem p i row some (omega arith)).1 (suc j) (omega arith) (omega arith)

  pub toll_is : (j : ℕ) → j ≤ r → toll j (updated p row) ≡ 2 * j + cost (contents row) p j
  toll_is zero h = rw (cost_none (contents row) p) refl
  toll_is (suc j) h =
      let c = cost_reset (contents row) p (suc j) (omega arith) in
      let e = ap (λ x. x % 2) (content_updated p (suc j) row (omega arith) (omega arith)) in
      omega arith

-- the row of zeros is the first of all rows
pub zeros_first : (r t : ℕ) → slice_get (rows r t) 0 ≡ Some (replicate r 0)
zeros_first zero t = refl
zeros_first (suc r) zero = nth_map (λ xs. zero ∷ xs) (rows r zero) 0 (replicate r 0) (zeros_first r zero)
zeros_first (suc r) (suc t) = nth_left (rows (suc r) t) (map (λ xs. suc t ∷ xs) (rows r (suc t))) 0 (replicate (suc r) 0) (zeros_first (suc r) t)

pub zeros_number : (r t : ℕ) → place (replicate r 0) (rows r t) ≡ 0
zeros_number r t = place_is r t 0 (replicate r 0) (zeros_first r t)
