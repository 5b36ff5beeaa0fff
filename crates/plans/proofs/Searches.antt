-- What `any` and `find` answer over the numbers below n, for a closure that tells P of each.
use Rattle.std.proofs.Common.{◌≡◌, ℕ, ◌+◌, ◌-◌, ◌<◌, ◌≤◌, Bool, true, false, ◌⊎◌, inl, inr, MatchBool, Decides, List, ◌∷◌, length, Some, None, MatchOption, Option, refl, sym, ◌∙◌, subst, zero-add, add-one, ap, arith}
use Rattle.std.proofs.lemmas.Bool.{cases_Bool, both_ways}
use Rattle.std.proofs.lemmas.Iterator.{YieldsList, YieldsList-from_range, cases_from_any, first_from_Range}
use Rattle.std.proofs.lemmas.List.FromFn.{length-range_with_len, get_or-range_with_len}
use Rattle.std.proofs.iter.Yields.{nat_range_steps}
use Rattle.std.specs.Bool.{⊤}
use Rattle.std.specs.Fn.{Called, CalledAt, Mut}
use Rattle.std.specs.Iterator.{YieldsThen}
use Rattle.std.specs.List.{FoldsTo, range_with_len, AllWithin, HoldsAt}
use Rattle.std.specs.Range.{range_inclusive_len, range_inclusive_start, range_inclusive_end, range_inclusive_exhausted, range_inclusive_left, range_inclusive_steps}
use Rattle.std.proofs.lemmas.Iterator.Consumers.{YieldsList-from_shown}
use Rattle.std.specs.declared.ops.Range.{Range}
use Rattle.std.specs.declared.ops.RangeInclusive.{RangeInclusive}
use denote.Ref.{Bor}
use Rattle.game.specs.Lowest.{LowestWithout}
use Rattle.plans.specs.Findings.{Tells}
use Rattle.plans.specs.Marks.{Found}

pub tells_true : (b e : Bool) → b ≡ e → Tells b (e ≡ true)
tells_true true e is = sym is
tells_true false e is = λ h. both_ways false refl (is ∙ h)

pub decides : (b : Bool) (P : Type 0) → Tells b P → Decides b P
decides true P holds = (λ _. holds, λ _. refl)
decides false P lacks = (λ e. absurd (both_ways false refl e), λ holds. absurd (lacks holds))

module _ {F : Type 0} (n : ℕ) (P : ℕ → Type 0) (u : Range ℕ) (f : F) where
  -- `any`: a number has P
  pub tells_some : {g : Mut F (ℕ × Unit {0}) Bool} (r : Bool) → (xs : List ℕ) × (o : Option ℕ) × (j : F) × YieldsThen nat_range_steps (record { start = 0; end = n }) xs o u × FoldsTo (λ p x q. Called g p (x, tt) false q) f xs j × MatchOption o (r ≡ false) (λ x. (r ≡ true) × ((h : F) × Called g j (x, tt) true h)) → ((x : ℕ) (b : Bool) (q : F) → Called g f (x, tt) b q → (q ≡ f) × Tells b (P x)) → Tells r ((k : ℕ) × (k < n) × P k)
  tells_some r ran tells = at r (cases_from_any u f r P (λ x. P x → ⊥) ran (YieldsList-from_range 0 n n refl (omega arith)) (λ x q k. (tells x true q k).1) (λ x q k. tells x false q k))
    where
      all : List ℕ
      all = range_with_len 0 n

      long : length all ≡ n
      long = length-range_with_len 0 n

      at : (b : Bool) → MatchBool b ((k : ℕ) × (k < length all) × HoldsAt P all k) (AllWithin (λ x. P x → ⊥) all 0 (length all)) → Tells b ((k : ℕ) × (k < n) × P k)
      at true (k, inside, holds) =
          let h : k < n = rw (← long) inside in
          (k, h, subst P (get_or-range_with_len 0 n k 0 h ∙ zero-add k) (holds 0))
      at false none = λ (k, h, p). none k 0 (omega arith) (omega (arith, long)) (rw (get_or-range_with_len 0 n k 0 h, zero-add) p)

  -- `find`: the lowest number that has P
  pub found_first : {g : Mut F (Bor ℕ × Unit {0}) Bool} (r : Option ℕ) → (xs : List ℕ) × (j : F) × YieldsThen nat_range_steps (record { start = 0; end = n }) xs r u × FoldsTo (λ p x q. CalledAt g p x false q) f xs j × MatchOption r ⊤ (λ x. (h : F) × CalledAt g j x true h) → ((x : ℕ) (b : Bool) (q : F) → CalledAt g f x b q → (q ≡ f) × Tells b (P x)) → Found (λ v. (v < n) × P v) r
  found_first r ran tells = at r (first_from_Range (record { start = 0; end = n }) u f r P (λ x. P x → ⊥) ran (λ x q k. (tells x true q k).1) (λ x q k. tells x false q k))
    where
      at : (o : Option ℕ) → MatchOption o ((k : ℕ) → 0 ≤ k → k < n → P k → ⊥) (λ i. (0 ≤ i) × (i < n) × P i × ((k : ℕ) → 0 ≤ k → k < i → P k → ⊥)) → Found (λ v. (v < n) × P v) o
      at None none = λ v found. none v (omega arith) found.0 found.1
      at (Some i) first = record { here = (first.1, first.2); none_below = λ v h found. first.3 v (omega arith) h found.1 }

  -- the same for a closure that looks for the numbers without P: all of them have it, or the lowest one without it is found
  pub lowest_without : {g : Mut F (Bor ℕ × Unit {0}) Bool} (r : Option ℕ) → (xs : List ℕ) × (j : F) × YieldsThen nat_range_steps (record { start = 0; end = n }) xs r u × FoldsTo (λ p x q. CalledAt g p x false q) f xs j × MatchOption r ⊤ (λ x. (h : F) × CalledAt g j x true h) → ((x : ℕ) (b : Bool) (q : F) → CalledAt g f x b q → (q ≡ f) × MatchBool b (P x → ⊥) (P x)) → MatchOption r ((k : ℕ) → k < n → P k) (LowestWithout P 0 n)
  lowest_without r ran lacks = at r (first_from_Range (record { start = 0; end = n }) u f r (λ x. P x → ⊥) P ran (λ x q k. (lacks x true q k).1) (λ x q k. lacks x false q k))
    where
      at : (o : Option ℕ) → MatchOption o ((k : ℕ) → 0 ≤ k → k < n → P k) (λ i. (0 ≤ i) × (i < n) × (P i → ⊥) × ((k : ℕ) → 0 ≤ k → k < i → P k)) → MatchOption o ((k : ℕ) → k < n → P k) (LowestWithout P 0 n)
      at None all = λ k h. all k (omega arith) h
      at (Some i) first = record { from_start = first.0; before_end = first.1; lacks = first.2; below_have = first.3 }

-- ---- `0..=n`

first_and_rest : (start n m next : ℕ) → m + 1 ≡ n → (m ≡ 0) ⊎ (next ≡ start + 1) → range_with_len start n ≡ start ∷ range_with_len next m
first_and_rest start n m next e (inl none) = rw (← e, none) refl
first_and_rest start n m next e (inr follows) = rw (← e, add-one, follows) refl

none_left : (a b : ℕ) (over : Bool) → (over ≡ true) → range_inclusive_len (λ x y. y - x) a b over ≡ 0
none_left a b over e = ap (range_inclusive_len (λ x y. y - x) a b) e

all_left : (a b n : ℕ) (over : Bool) → a ≡ 0 → b ≡ n → over ≡ false → range_inclusive_len (λ x y. y - x) a b over ≡ n + 1
all_left a b n over begins ends more = rw (begins, ends, more) (omega arith)

pub YieldsList-from_range_inclusive : {s : RangeInclusive ℕ} (n : ℕ) → range_inclusive_start s ≡ 0 → range_inclusive_end s ≡ n → range_inclusive_exhausted s ≡ false → YieldsList (range_inclusive_steps (λ x y. y - x) (λ x y. y ≡ x + 1)) (λ x. x) s (range_with_len 0 (n + 1))
YieldsList-from_range_inclusive {s} n begins ends more =
    let long = all_left (range_inclusive_start s) (range_inclusive_end s) n (range_inclusive_exhausted s) begins ends more in
    subst (YieldsList (range_inclusive_steps (λ x y. y - x) (λ x y. y ≡ x + 1)) (λ x. x) s) (ap (λ a. range_with_len a (range_inclusive_left (λ x y. y - x) s)) begins ∙ ap (range_with_len 0) long) (YieldsList-from_shown (range_inclusive_steps (λ x y. y - x) (λ x y. y ≡ x + 1)) (λ x. x) shown none some s)
  where
    shown : RangeInclusive ℕ → List ℕ
    shown s = range_with_len (range_inclusive_start s) (range_inclusive_left (λ x y. y - x) s)

    none : (s t : RangeInclusive ℕ) → range_inclusive_steps (λ x y. y - x) (λ x y. y ≡ x + 1) s None t → length (shown s) ≡ 0
    none s t e = ap (λ k. length (range_with_len (range_inclusive_start s) k)) e.1.0

    some : (s : RangeInclusive ℕ) (x : ℕ) (t : RangeInclusive ℕ) → range_inclusive_steps (λ x y. y - x) (λ x y. y ≡ x + 1) s (Some x) t → shown s ≡ x ∷ shown t
    some s x t e = first_and_rest (range_inclusive_start s) (range_inclusive_left (λ x y. y - x) s) (range_inclusive_left (λ x y. y - x) t) (range_inclusive_start t) e.1.1 over ∙ ap (λ k. k ∷ shown t) (sym e.1.0)
      where
        over : (range_inclusive_left (λ x y. y - x) t ≡ 0) ⊎ (range_inclusive_start t ≡ range_inclusive_start s + 1)
        over = elim (cases_Bool (range_inclusive_exhausted t)) [
          | inl spent ↦ inl (none_left (range_inclusive_start t) (range_inclusive_end t) (range_inclusive_exhausted t) spent)
          | inr on ↦ inr (e.1.2 on)
        ]
