-- Groups of positions that reach one another: they are small in a small game, and no larger where arcs are swapped or held.
use Rattle.std.proofs.Common.{◌≡◌, ℕ, zero, suc, ◌^◌, ◌<◌, ◌≤◌, Bool, true, ◌&&◌, eqb, List, [], ◌∷◌, map, Some, Option, refl, ap, inl, inr, arith}
use Rattle.std.specs.List.{slice_get}
use Rattle.std.proofs.lemmas.Bool.{and_parts, and_from, or_cases, or_left, or_right, eqb-true, eq-eqb, both_ways}
use Rattle.std.proofs.lemmas.Option.{none-some, same_Some}
use Rattle.game.specs.declared.Arc.{Arc}
use Rattle.game.specs.Game.{Game}
use Rattle.game.specs.Layers.{swapped, raised, restricted, entry_at, held}
use Rattle.game.proofs.Layers.{restricted_cases}
use Rattle.toolkit.specs.Finite.{count}
use Rattle.toolkit.specs.Reachability.{reach}
use Rattle.toolkit.proofs.Counting.{count_at_most, count_monotone}
use Rattle.toolkit.proofs.Reachability.{reach_monotone}
use Rattle.determinacy.proofs.Swap.{swapped_size}
use Rattle.register_theory.specs.Groups.{leads_to, in_group, SmallGroups}

pub leads_from_nth : (arcs : List Arc) (i : ℕ) (a : Arc) → slice_get arcs i ≡ Some a → leads_to arcs a.target ≡ true
leads_from_nth [] i a e = absurd (none-some a e)
leads_from_nth (b ∷ arcs) zero a e = or_left (eqb b.target a.target) (leads_to arcs a.target) (eq-eqb b.target a.target (ap (λ (c : Arc). c.target) (same_Some b a e)))
leads_from_nth (b ∷ arcs) (suc i) a e = or_right (eqb b.target a.target) (leads_to arcs a.target) (leads_from_nth arcs i a e)

-- fewer edges make no group larger
fewer_together : (n : ℕ) (edges wider : ℕ → ℕ → Bool) → ((a b : ℕ) → edges a b ≡ true → wider a b ≡ true) → (v : ℕ) →
    count n (λ u. reach n edges v u && reach n edges u v) ≤ count n (λ u. reach n wider v u && reach n wider u v)
fewer_together n edges wider more v =
    count_monotone n (λ u. reach n edges v u && reach n edges u v) (λ u. reach n wider v u && reach n wider u v) (λ u l e.
    let parts = and_parts (reach n edges v u) (reach n edges u v) e in
    and_from (reach n wider v u) (reach n wider u v) (reach_monotone n edges wider more v u parts.0) (reach_monotone n edges wider more u v parts.1))

-- few positions are small groups
pub few_small : (r : ℕ) (g : Game) → g.size < 2 ^ r → SmallGroups r g
few_small r g few v h = let l = count_at_most g.size (in_group g v) in omega arith

leads_below : (arcs : List Arc) (w : ℕ) → leads_to (map raised arcs) w ≡ true → leads_to arcs w ≡ true
leads_below [] w e = e
leads_below (a ∷ arcs) w e = elim (or_cases (eqb a.target w) (leads_to (map raised arcs) w) e) [
  | inl here ↦ or_left (eqb a.target w) (leads_to arcs w) here
  | inr later ↦ or_right (eqb a.target w) (leads_to arcs w) (leads_below arcs w later)
]

pub swapped_small : (r : ℕ) (g : Game) → g.top < 250 → SmallGroups r g → SmallGroups r (swapped g)
swapped_small r g low small v h = rw (swapped_size g low) (
    let l = small v (rw (swapped_size g low) at h) in
    let fewer = fewer_together g.size (λ a b. leads_to (map raised (g.arcs a)) b) (λ a b. leads_to (g.arcs a) b) (λ a b. leads_below (g.arcs a) b) v in
    omega arith)

restricted_leads : (o : Option ℕ) (xs : List Arc) (w : ℕ) → leads_to (restricted o xs) w ≡ true → leads_to xs w ≡ true
restricted_leads o xs w e = elim (restricted_cases o xs) [
  | inl same ↦ rw same at e
  | inr (i, a, _, there, one) ↦ elim (or_cases (eqb a.target w) (leads_to [] w) (rw one at e)) [
    | inl here ↦ rw (← eqb-true a.target w here) (leads_from_nth xs i a there)
    | inr none ↦ absurd (both_ways (leads_to [] w) refl none)
  ]
]

pub held_small : (r : ℕ) (entries : List (Option ℕ)) (g : Game) → SmallGroups r g → SmallGroups r (held entries g)
held_small r entries g small v h =
    let l = small v h in
    let fewer = fewer_together g.size (λ a b. leads_to (restricted (entry_at entries a) (g.arcs a)) b) (λ a b. leads_to (g.arcs a) b) (λ a b. restricted_leads (entry_at entries a) (g.arcs a) b) v in
    omega arith
