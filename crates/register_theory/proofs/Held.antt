-- With arcs held the layer still stands.
use Rattle.std.proofs.Common.{◌≡◌, ℕ, zero, suc, ◌≤◌, true, ◌&&◌, leb, List, length, Option, refl, ap, inl, inr, arith}
use Rattle.std.proofs.lemmas.List.{length-append, length-map}
use Rattle.std.proofs.lemmas.Bool.{and_parts, and_from, leb-true, le-leb}
use Rattle.game.specs.declared.Player.{Player}
use Rattle.game.specs.declared.Player.TheVariants.{Even, Odd}
use Rattle.game.specs.declared.Arc.{Arc}
use Rattle.game.specs.Game.{Game}
use Rattle.game.specs.Layers.{swapped, raised, restricted, entry_at, held}
use Rattle.game.proofs.Layers.{restricted_cases}
use Rattle.std.proofs.lemmas.Option.{slice_get_within}
use Rattle.registers.specs.Layer.{arcs_below, arc_total, stands}
use Rattle.register_theory.specs.First.{solved_for, Solvable}
use Rattle.register_theory.proofs.Groups.{held_small}

-- what is left of the arcs is no more
pub restricted_fewer : (o : Option ℕ) (xs : List Arc) → length (restricted o xs) ≤ length xs
restricted_fewer o xs = elim (restricted_cases o xs) [
  | inl same ↦ rw same (omega arith)
  | inr (i, a, _, there, one) ↦ let l = slice_get_within xs i a there in rw one (omega arith)
]

pub fewer_arcs : (g h : Game) → ((v : ℕ) → length (h.arcs v) ≤ length (g.arcs v)) → (m : ℕ) → length (arcs_below h m) ≤ length (arcs_below g m)
fewer_arcs g h fewer zero = omega arith
fewer_arcs g h fewer (suc m) =
    let a = length-append (arcs_below g m) (g.arcs m) in
    let b = length-append (arcs_below h m) (h.arcs m) in
    let more = fewer_arcs g h fewer m in
    let here = fewer m in
    omega arith

-- with no more arcs the layer still stands
fewer_stands : (r : ℕ) (g h : Game) → h.size ≡ g.size → h.top ≡ g.top → ((v : ℕ) → length (h.arcs v) ≤ length (g.arcs v)) → stands r g ≡ true → stands r h ≡ true
fewer_stands r g h sizes tops fewer e =
    let one = and_parts (leb 1 r && leb r 5) (leb g.size 16 && leb g.top 9 && leb (arc_total g) 64) e in
    let two = and_parts (leb g.size 16 && leb g.top 9) (leb (arc_total g) 64) one.1 in
    let three = and_parts (leb g.size 16) (leb g.top 9) two.0 in
    let few = leb-true g.size 16 three.0 in
    let low = leb-true g.top 9 three.1 in
    let arcs = leb-true (arc_total g) 64 two.1 in
    let l = fewer_arcs g h fewer h.size in
    let same = ap (λ m. length (arcs_below g m)) sizes in
    and_from (leb 1 r && leb r 5) (leb h.size 16 && leb h.top 9 && leb (arc_total h) 64) one.0
    (and_from (leb h.size 16 && leb h.top 9) (leb (arc_total h) 64)
    (and_from (leb h.size 16) (leb h.top 9) (le-leb h.size 16 (omega arith)) (le-leb h.top 9 (omega arith)))
    (le-leb (arc_total h) 64 (omega arith)))

module _ (r : ℕ) (entries : List (Option ℕ)) (g : Game) where
  held_stands : (player : Player) → stands r (solved_for player g) ≡ true → stands r (solved_for player (held entries g)) ≡ true
  held_stands Even e = fewer_stands r g (held entries g) refl refl (λ v. restricted_fewer (entry_at entries v) (g.arcs v)) e
  held_stands Odd e = fewer_stands r (swapped g) (swapped (held entries g)) refl refl (λ v.
      let a = length-map (restricted (entry_at entries v) (g.arcs v)) raised in
      let b = length-map (g.arcs v) raised in
      let l = restricted_fewer (entry_at entries v) (g.arcs v) in
      omega arith) e

  pub held_solvable_lem : (player : Player) → Solvable r g player → Solvable r (held entries g) player
  held_solvable_lem player solvable = record {
    swaps = solvable.swaps;
    layer_stands = held_stands player solvable.layer_stands;
    small = held_small r entries g solvable.small;
  }
