-- A closed walk with highest priority q: a move of priority q, and ways there and back by moves of priority at most q.
use Rattle.std.proofs.Common.{◌≡◌, ℕ, ◌<◌, ◌≤◌, Bool, true, ◌&&◌, List, [], ◌∷◌, ◌++◌, Decides, sym, refl, ap, ◌∙◌, subst, arith}
use Rattle.std.proofs.lemmas.Bool.{and_parts, and_from}
use Rattle.game.specs.Game.{Game, Lawful}
use Rattle.game.specs.Plans.{Plan, Follows, Walk, highest}
use Rattle.game.specs.Plans.Walk.{step}
use Rattle.toolkit.specs.Reachability.{reach}
use Rattle.toolkit.proofs.Reachability.{moves_from_reach, reach_from_moves}
use Rattle.toolkit.proofs.Walks.{highest_append, highest_at_most, walk_joined, walk_mapped, walk_below, walk_peak, peak_low}
use Rattle.plans.specs.declared.relation.Relation.{Relation}
use Rattle.plans.specs.Relations.{related, GivenBy, SomeCloses}
use Rattle.plans.specs.Findings.{MovesBetween, HasMoves, ClosedWalkAt}
use Rattle.plans.proofs.Following.{move_from_inside, walk_from_inside, move_to_inside}

not_empty : (ps qs : List ℕ) (q : ℕ) → (first : ℕ) × (rest : List ℕ) × (ps ++ q ∷ qs ≡ first ∷ rest)
not_empty [] qs q = (q, qs, refl)
not_empty (p ∷ ps) qs q = (p, ps ++ q ∷ qs, refl)

-- Moves of priority at most q.
abbrev Low : Game → Plan → ℕ → ℕ → ℕ → ℕ → Type 0
Low g s q u w p = Follows g s u w p × (p ≤ q)

low_follows : (g : Game) (s : Plan) (q a b p : ℕ) → Low g s q a b p → Follows g s a b p
low_follows g s q a b p m = m.0

-- A move of priority q from a position that v reaches to one that reaches v.
pub record Circle (g : Game) (s : Plan) (n q : ℕ) (edge : ℕ → ℕ → Bool) (v : ℕ) : Type 0 where
  pub from : ℕ
  pub to : ℕ
  pub move : Follows g s from to q
  pub there : reach n edge v from ≡ true
  pub back : reach n edge to v ≡ true

module _ (g : Game) (s : Plan) (laws : Lawful g) (n q : ℕ) (few : g.size ≤ n) (edge : ℕ → ℕ → Bool) (exact : (u w : ℕ) → u < n → w < n → Decides (edge u w) (MovesBetween g s 0 q u w)) where
  low_is_edge : (u w p : ℕ) → Low g s q u w p → (u < n) × (w < n) × (edge u w ≡ true)
  low_is_edge u w p m =
      let from_inside = move_from_inside g s m.0 in
      let to_inside = move_to_inside g s laws m.0 in
      let hu : u < n = omega arith in
      let hw : w < n = omega arith in
      (hu, hw, (exact u w hu hw).1 (record { priority = p; move = m.0; not_lower = omega arith; not_higher = m.1 }))

  edge_is_low : (u w : ℕ) → u < n → w < n → edge u w ≡ true → (p : ℕ) × Low g s q u w p
  edge_is_low u w hu hw e = let m = (exact u w hu hw).0 e in (m.priority, (m.move, m.not_higher))

  pub circle_from_walk : (v : ℕ) → ClosedWalkAt g s q v → Circle g s n q edge v
  circle_from_walk v closed =
      let peak = walk_peak closed.walk in
      let low = peak_low peak in
      let top : peak.top ≡ q = peak.is_highest ∙ closed.is_highest in
      let begins = walk_from_inside g s closed.walk in
      let to_inside = move_to_inside g s laws peak.move in
      record {
        from = peak.from;
        to = peak.to;
        move = rw top at peak.move;
        there = reach_from_moves n edge {Move = Low g s q} low_is_edge (omega arith) (walk_below q (omega arith) peak.walk_before);
        back = reach_from_moves n edge {Move = Low g s q} low_is_edge (omega arith) (walk_below q (omega arith) peak.walk_behind);
      }

  pub walk_from_circle : (v : ℕ) → Circle g s n q edge v → ClosedWalkAt g s q v
  walk_from_circle v circle =
      let one = moves_from_reach n edge {Move = Low g s q} edge_is_low v circle.from circle.there in
      let two = moves_from_reach n edge {Move = Low g s q} edge_is_low circle.to v circle.back in
      let low_one = highest_at_most q (λ a b p (m : Low g s q a b p). m.1) one.1 in
      let low_two = highest_at_most q (λ a b p (m : Low g s q a b p). m.1) two.1 in
      let walk = walk_joined (walk_mapped (low_follows g s q) one.1) (step circle.move (walk_mapped (low_follows g s q) two.1)) in
      let (first, rest, is) = not_empty one.0 two.0 q in
      let top = highest_append one.0 (q ∷ two.0) in
      record {
        first = first;
        rest = rest;
        walk = subst (λ ps. Walk (Follows g s) v v ps) is walk;
        is_highest = sym (ap highest is) ∙ (omega arith);
      }

-- The same by relations between positions below 16.
module _ (g : Game) (s : Plan) (laws : Lawful g) (few : g.size ≤ 16) (q : ℕ) (low peaks reached : Relation) (exact : HasMoves g s 0 q low) (tops : HasMoves g s q q peaks) (closure : GivenBy reached (reach 16 (related low))) where
  pub walk_from_closes : (v : ℕ) → v < 16 → SomeCloses reached peaks v → ClosedWalkAt g s q v
  walk_from_closes v hv (u, hu, (w, hw, e)) =
      let parts = and_parts (related peaks u w) (related reached v u && related reached w v) e in
      let ways = and_parts (related reached v u) (related reached w v) parts.1 in
      let m = (tops u w hu hw).0 parts.0 in
      let is : m.priority ≡ q = let l = m.not_lower in let h = m.not_higher in omega arith in
      walk_from_circle g s laws 16 q few (related low) exact v (record {
        from = u;
        to = w;
        move = rw is at m.move;
        there = sym (closure v u hv hu) ∙ ways.0;
        back = sym (closure w v hw hv) ∙ ways.1;
      })

  pub closes_from_walk : (v : ℕ) → ClosedWalkAt g s q v → SomeCloses reached peaks v
  closes_from_walk v closed =
      let circle = circle_from_walk g s laws 16 q few (related low) exact v closed in
      let u = circle.from in
      let w = circle.to in
      let inside_v = walk_from_inside g s closed.walk in
      let inside_u = move_from_inside g s circle.move in
      let inside_w = move_to_inside g s laws circle.move in
      let hv : v < 16 = omega arith in
      let hu : u < 16 = omega arith in
      let hw : w < 16 = omega arith in
      let top = (tops u w hu hw).1 (record { priority = q; move = circle.move; not_lower = omega arith; not_higher = omega arith }) in
      (u, hu, (w, hw, and_from (related peaks u w) (related reached v u && related reached w v) top (and_from (related reached v u) (related reached w v) (closure v u hv hu ∙ circle.there) (closure w v hw hv ∙ circle.back))))
