-- Ladders: what kinds of heights have in common. Climbing a ladder is sound whatever its rungs are.
use Rattle.std.specs.Prelude.{◌≡◌, ℕ, ◌+◌, ◌/◌, ◌%◌, ◌<◌, ◌≤◌, Bool, true, false, ◌⊎◌, ◌≢◌, nat_le}
use Rattle.heights.specs.Climb.{lost, step_of, climb}

-- A ladder: which values are its rungs, their order, the top; for each priority p a rougher comparison; and the climb from a rung by a
-- priority. Each rung has a number, and the numbers are below a bound.
pub record Ladder (Value : Type 0) : Type 0 where
  pub is_rung : Value → Bool
  pub at_most : Value → Value → Bool
  pub top : Value
  pub roughly : ℕ → Value → Value → Bool
  pub climbs : Value → ℕ → Value
  pub number : Value → ℕ
  pub bound : ℕ

abbrev pub Rung : {Value : Type 0} → Ladder Value → Value → Type 0
Rung l x = l.is_rung x ≡ true

-- y is at least as high as x in the comparison of priority p, and strictly higher if p is odd.
abbrev pub Reaches : {Value : Type 0} → Ladder Value → ℕ → Value → Value → Type 0
Reaches l p x y = (l.roughly p x y ≡ true) × (p % 2 ≡ 1 → l.roughly p y x ≡ false)

-- The laws, for priorities up to a limit. The rungs are finitely many, in a total order with a top. Each comparison is total and
-- transitive, never reverses the order, and is the rougher the higher the priority. A climb keeps the top; from any other rung it leads
-- to the least rung that is reached, the top if none below it is.
pub record LadderLaws {Value : Type 0} (limit : ℕ) (l : Ladder Value) : Type 0 where
  pub finite : (x : Value) → Rung l x → l.number x < l.bound
  pub numbered : (x y : Value) → Rung l x → Rung l y → l.at_most y x ≡ false → l.number x < l.number y
  pub total : (x y : Value) → Rung l x → Rung l y → (l.at_most x y ≡ true) ⊎ (l.at_most y x ≡ true)
  pub transitive : (x y z : Value) → Rung l x → Rung l y → Rung l z → l.at_most x y ≡ true → l.at_most y z ≡ true → l.at_most x z ≡ true
  pub antisymmetric : (x y : Value) → Rung l x → Rung l y → l.at_most x y ≡ true → l.at_most y x ≡ true → x ≡ y
  pub top_rung : Rung l l.top
  pub below_top : (x : Value) → Rung l x → l.at_most x l.top ≡ true
  pub roughly_total : (p : ℕ) (x y : Value) → p ≤ limit → Rung l x → Rung l y → (l.roughly p x y ≡ true) ⊎ (l.roughly p y x ≡ true)
  pub roughly_transitive : (p : ℕ) (x y z : Value) → p ≤ limit → Rung l x → Rung l y → Rung l z → l.roughly p x y ≡ true → l.roughly p y z ≡ true → l.roughly p x z ≡ true
  pub never_reverses : (p : ℕ) (x y : Value) → p ≤ limit → Rung l x → Rung l y → l.at_most x y ≡ true → l.roughly p x y ≡ true
  pub rougher : (p q : ℕ) (x y : Value) → p ≤ q → q ≤ limit → Rung l x → Rung l y → l.roughly p x y ≡ true → l.roughly q x y ≡ true
  pub climb_rung : (x : Value) (p : ℕ) → p ≤ limit → Rung l x → Rung l (l.climbs x p)
  pub climb_keeps_top : (p : ℕ) → p ≤ limit → l.climbs l.top p ≡ l.top
  pub climb_reaches : (x : Value) (p : ℕ) → p ≤ limit → Rung l x → (x ≢ l.top) → (l.climbs x p ≢ l.top) → Reaches l p x (l.climbs x p)
  pub climb_least : (x y : Value) (p : ℕ) → p ≤ limit → Rung l x → Rung l y → (x ≢ l.top) → Reaches l p x y → l.at_most (l.climbs x p) y ≡ true

-- What a move of priority p from height x to height y keeps: both are rungs, x is below the top, and the climb from y by p is at most x.
pub record Keeps {Value : Type 0} (limit : ℕ) (l : Ladder Value) (x y : Value) (p : ℕ) : Type 0 where
  pub low : p ≤ limit
  pub rung_from : Rung l x
  pub rung_to : Rung l y
  pub not_top : x ≡ l.top → ⊥
  pub climbed : l.at_most (l.climbs y p) x ≡ true

-- The heights from 0 to T = n^(r+1), lost heights at the top: in the comparison of priority p they are divided by its step.
abbrev pub counters : ℕ → ℕ → Ladder ℕ
counters n r = record {
  is_rung = λ x. nat_le x (lost n r);
  at_most = nat_le;
  top = lost n r;
  roughly = λ p x y. nat_le (x / step_of n p) (y / step_of n p);
  climbs = climb n r;
  number = λ x. x;
  bound = lost n r + 1;
}
