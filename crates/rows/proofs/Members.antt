-- What stands where in a list, and lists in dictionary order.
use Rattle.std.proofs.Common.{◌≡◌, ℕ, zero, suc, ◌+◌, ◌≤◌, nat_eq, ◌⊎◌, List, [], ◌∷◌, ◌++◌, map, length, Decides, Some, option_map, sym, refl, ap, ◌∙◌, inl, inr, arith}
use Rattle.std.specs.List.{slice_get}
use Rattle.std.proofs.lemmas.Bool.{cases_Bool, cond-true, cond-false}
use Rattle.std.proofs.lemmas.Option.{same_Some, slice_get-map}
use Rattle.game.specs.Dictionary.{Before}
use Rattle.std.specs.Cmp.Lexicographic.{pointwise}
use Rattle.std.proofs.lemmas.Slice.Eq.{slice_eq-Decides}
use Rattle.std.proofs.lemmas.Bool.Decides.{Decides-eqb}
use Rattle.rows.specs.Rows.{place}

pub nth_left : {X : Type 0} (xs ys : List X) (i : ℕ) (x : X) → slice_get xs i ≡ Some x → slice_get (xs ++ ys) i ≡ Some x
nth_left [] ys i x e = absurd cc
nth_left (y ∷ xs) ys zero x e = e
nth_left (y ∷ xs) ys (suc i) x e = nth_left xs ys i x e

pub nth_right : {X : Type 0} (xs ys : List X) (i n : ℕ) → n ≡ length xs + i → slice_get (xs ++ ys) n ≡ slice_get ys i
nth_right [] ys i n e = ap (λ m. slice_get ys m) (omega arith)
nth_right (x ∷ xs) ys i zero e = absurd (omega arith)
nth_right (x ∷ xs) ys i (suc n) e = nth_right xs ys i n (omega arith)

-- a member of two lists joined stands in the first or in the second
pub nth_joined : {X : Type 0} (xs ys : List X) (i : ℕ) (x : X) → slice_get (xs ++ ys) i ≡ Some x →
    (slice_get xs i ≡ Some x) ⊎ ((m : ℕ) × (i ≡ length xs + m) × (slice_get ys m ≡ Some x))
nth_joined [] ys i x e = inr (i, omega arith, e)
nth_joined (y ∷ xs) ys zero x e = inl e
nth_joined (y ∷ xs) ys (suc i) x e = elim (nth_joined xs ys i x e) [
  | inl l ↦ inl l
  | inr r ↦ inr (r.0, (let h = r.1 in omega arith), r.2)
]

pub nth_map : {X Y : Type 0} (f : X → Y) (xs : List X) (i : ℕ) (x : X) → slice_get xs i ≡ Some x → slice_get (map f xs) i ≡ Some (f x)
nth_map f xs i x e = slice_get-map f xs i ∙ ap (option_map f) e

pub nth_mapped : {X Y : Type 0} (f : X → Y) (xs : List X) (i : ℕ) (y : Y) → slice_get (map f xs) i ≡ Some y →
    (x : X) × (slice_get xs i ≡ Some x) × (y ≡ f x)
nth_mapped f [] i y e = absurd cc
nth_mapped f (x ∷ xs) zero y e = (x, refl, sym (same_Some (f x) y e))
nth_mapped f (x ∷ xs) (suc i) y e = nth_mapped f xs i y e

same_is : (xs ys : List ℕ) → Decides (pointwise nat_eq xs ys) (xs ≡ ys)
same_is xs ys = slice_eq-Decides Decides-eqb xs ys _ refl

-- the place of a member is the first at which it stands
pub place_finds : (L : List (List ℕ)) (xs : List ℕ) (k : ℕ) → slice_get L k ≡ Some xs →
    (place xs L ≤ k) × (slice_get L (place xs L) ≡ Some xs)
place_finds [] xs k e = absurd cc
place_finds (ys ∷ L) xs zero e =
    let here : place xs (ys ∷ L) ≡ 0 = cond-true (pointwise nat_eq xs ys) 0 _ ((same_is xs ys).1 (sym (same_Some ys xs e))) in
    rw here (omega arith, e)
place_finds (ys ∷ L) xs (suc k) e = elim (cases_Bool (pointwise nat_eq xs ys)) [
  | inl t ↦
      let here : place xs (ys ∷ L) ≡ 0 = cond-true (pointwise nat_eq xs ys) 0 _ t in
      rw here (omega arith, ap Some (sym ((same_is xs ys).0 t)))
  | inr f ↦
      let on : place xs (ys ∷ L) ≡ suc (place xs L) = cond-false (pointwise nat_eq xs ys) 0 _ f in
      let h = place_finds L xs k e in
      rw on (omega arith, h.1)
]

pub before_not_itself : (xs : List ℕ) → Before xs xs → ⊥
before_not_itself [] b = b
before_not_itself (x ∷ xs) (inl h) = omega arith
before_not_itself (x ∷ xs) (inr h) = before_not_itself xs h.1

pub before_not_both : (xs ys : List ℕ) → Before xs ys → Before ys xs → ⊥
before_not_both [] [] b c = b
before_not_both [] (y ∷ ys) b c = c
before_not_both (x ∷ xs) [] b c = b
before_not_both (x ∷ xs) (y ∷ ys) (inl h) (inl k) = omega arith
before_not_both (x ∷ xs) (y ∷ ys) (inl h) (inr k) = let e = k.0 in omega arith
before_not_both (x ∷ xs) (y ∷ ys) (inr h) (inl k) = let e = h.0 in omega arith
before_not_both (x ∷ xs) (y ∷ ys) (inr h) (inr k) = before_not_both xs ys h.1 k.1
