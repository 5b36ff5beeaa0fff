-- Subgames: a set of positions and a bound of the priorities, such that each position keeps an arc.
use Rattle.std.proofs.Common.{◌≡◌, ℕ, ◌<◌, ◌≤◌, Bool, true, false, cond, not, ◌&&◌, ◌⊎◌, length, get_or, Some, inl, inr, arith}
use Rattle.std.proofs.lemmas.Bool.{cond-true, cond-false}
use Rattle.std.proofs.lemmas.Option.{slice_get-get_or, slice_get_within, get_or_from_slice_get}
use Rattle.toolkit.proofs.Search.{seek}
use Rattle.game.specs.declared.Arc.{Arc}
use Rattle.game.specs.Game.{Game, arc_at}
use Rattle.game.proofs.Arcs.{arc_there, arc_from}

-- the arc of that number; past the arcs its value has no meaning
abbrev pub arc : Game → ℕ → ℕ → Arc
arc g v k = get_or (g.arcs v) k (record { target = 0; priority = 0 })

unfoldable pub to : Game → ℕ → ℕ → ℕ
to g v k = (arc g v k).target

unfoldable pub priority : Game → ℕ → ℕ → ℕ
priority g v k = (arc g v k).priority

-- an arc of a position that is there is what the question for it gives
pub arc_known : (g : Game) (v k : ℕ) → v < g.size → k < length (g.arcs v) → arc_at g v k ≡ Some (arc g v k)
arc_known g v k h l = arc_from g v k (arc g v k) h (slice_get-get_or (g.arcs v) k (record { target = 0; priority = 0 }) l)

pub arc_is : (g : Game) (v k : ℕ) (a : Arc) → arc_at g v k ≡ Some a → (k < length (g.arcs v)) × (arc g v k ≡ a)
arc_is g v k a e = let there = (arc_there g v k a e).1 in (slice_get_within (g.arcs v) k a there, get_or_from_slice_get (g.arcs v) k a _ there)

-- an arc between positions of the set, of a priority below the bound
pub record Live (g : Game) (set : ℕ → Bool) (bound v k : ℕ) : Type 0 where
  pub from_inside : set v ≡ true
  pub is_arc : k < length (g.arcs v)
  pub to_inside : set (to g v k) ≡ true
  pub low : priority g v k < bound

pub record Subgame (g : Game) (set : ℕ → Bool) (bound : ℕ) : Type 0 where
  pub exists : (v : ℕ) → set v ≡ true → v < g.size
  pub goes_on : (v : ℕ) → set v ≡ true → (k : ℕ) × Live g set bound v k

module _ (g : Game) (set : ℕ → Bool) (bound : ℕ) (v : ℕ) where
  live_or_not : (k : ℕ) → Live g set bound v k ⊎ (Live g set bound v k → ⊥)
  live_or_not k = grind arith

  -- a live arc of one sort, or all of them are of the other
  pub seek_live : {P Q : ℕ → Type 0} → ((k : ℕ) → P k ⊎ Q k) → ((k : ℕ) × Live g set bound v k × P k) ⊎ ((k : ℕ) → Live g set bound v k → Q k)
  seek_live {P} {Q} look =
      elim (seek {P = λ k. Live g set bound v k × P k} {Q = λ k. Live g set bound v k → Q k} (length (g.arcs v)) (λ k h. at k)) [
        | inl found ↦ inl (found.0, found.2.0, found.2.1)
        | inr all ↦ inr (λ k l. all k l.is_arc l)
      ]
    where
      at : (k : ℕ) → (Live g set bound v k × P k) ⊎ (Live g set bound v k → Q k)
      at k = elim (live_or_not k) [
        | inr dead ↦ inr (λ l. absurd (dead l))
        | inl l ↦ elim (look k) [ inl p ↦ inl (l, p) | inr q ↦ inr (λ l. q) ]
      ]

-- the first set without the second
pub minus : (ℕ → Bool) → (ℕ → Bool) → ℕ → Bool
minus all some v = all v && not (some v)

module _ (all some : ℕ → Bool) (v : ℕ) where
  pub minus_parts : minus all some v ≡ true → (all v ≡ true) × (some v ≡ false)
  unfolding minus
  minus_parts e = grind arith

  pub minus_from : all v ≡ true → some v ≡ false → minus all some v ≡ true
  unfolding minus
  minus_from a b = grind arith

-- what is live in a smaller subgame is live in the greater
pub live_wider : (g : Game) (set less : ℕ → Bool) (bound lower v k : ℕ) → lower ≤ bound → Live g (minus set less) lower v k → Live g set bound v k
live_wider g set less bound lower v k h l = record {
  from_inside = (minus_parts set less v l.from_inside).0;
  is_arc = l.is_arc;
  to_inside = (minus_parts set less (to g v k) l.to_inside).0;
  low = let low = l.low in omega arith;
}

-- and the other way, where neither end is taken out and the priority fits
pub live_narrower : (g : Game) (set less : ℕ → Bool) (bound lower v k : ℕ) → Live g set bound v k → less v ≡ false → less (to g v k) ≡ false → priority g v k < lower → Live g (minus set less) lower v k
live_narrower g set less bound lower v k l a b h = record {
  from_inside = minus_from set less v l.from_inside a;
  is_arc = l.is_arc;
  to_inside = minus_from set less (to g v k) l.to_inside b;
  low = h;
}

-- the one function inside the set, the other outside
pub merged : {A : Type 0} → (ℕ → Bool) → (ℕ → A) → (ℕ → A) → ℕ → A
merged set f h v = cond (set v) (f v) (h v)

module _ {A : Type 0} (set : ℕ → Bool) (f h : ℕ → A) (v : ℕ) where
  pub merged_inside : set v ≡ true → merged set f h v ≡ f v
  unfolding merged
  merged_inside e = cond-true (set v) (f v) (h v) e

  pub merged_outside : set v ≡ false → merged set f h v ≡ h v
  unfolding merged
  merged_outside e = cond-false (set v) (f v) (h v) e
