-- The due height: bounded, and monotone in the heights.
use Rattle.std.proofs.Common.{◌≡◌, ℕ, ◌+◌, ◌*◌, ◌<◌, ◌≤◌, List, [], ◌∷◌, map, length, get_or, refl, ap, ◌∙◌, arith}
use Rattle.std.specs.List.{AllByRecursion as All}
use Rattle.std.proofs.lemmas.List.Elements.{All-from_get_or, recursion_from_All}
use Rattle.std.proofs.lemmas.Option.{slice_get-get_or}
use Rattle.std.proofs.ByRecursion.{All-weaker}
use Rattle.game.specs.declared.Player.{Player}
use Rattle.game.specs.declared.Player.TheVariants.{Even, Odd}
use Rattle.game.specs.declared.Arc.{Arc}
use Rattle.game.specs.Game.{Game, Lawful}
use Rattle.game.proofs.Arcs.{arc_from}
use Rattle.heights.specs.Climb.{lost, climb}
use Rattle.heights.specs.Heights.{least, greatest, asked, due_for, due}
use Rattle.heights.proofs.Climb.{climb_at_most, climb_monotone}

-- the arc leads to a position, by a priority up to the top
abbrev pub Inside : Game → Arc → Type 0
Inside g a = (a.target < g.size) × (a.priority ≤ g.top)

-- as does each arc of a lawful game
pub arc_inside : (g : Game) → Lawful g → (v k : ℕ) (d : Arc) → v < g.size → k < length (g.arcs v) → Inside g (get_or (g.arcs v) k d)
arc_inside g lawful v k d there inside =
    let a = get_or (g.arcs v) k d in
    let at = arc_from g v k a there (slice_get-get_or (g.arcs v) k d inside) in
    (lawful.target_inside v k a at, lawful.priority_low v k a at)

arcs_inside : (g : Game) → Lawful g → (v : ℕ) → v < g.size → All (Inside g) (g.arcs v)
arcs_inside g lawful v there =
    let d : Arc = record { target = 0; priority = 0 } in
    recursion_from_All (Inside g) (g.arcs v) (All-from_get_or (Inside g) (g.arcs v) d (λ i h. arc_inside g lawful v i d there h))

pub least_at_most : (limit : ℕ) (xs : List ℕ) → least limit xs ≤ limit
least_at_most limit [] = omega arith
least_at_most limit (x ∷ xs) = omega (arith, least_at_most limit xs)

module _ (n r : ℕ) (some : 1 ≤ n) where
  asked_at_most : (h : ℕ → ℕ) (a : Arc) → a.priority ≤ 2 * r + 1 → asked n r h a ≤ lost n r
  asked_at_most h a low = climb_at_most n r a.priority some (omega arith) (h a.target)

  asked_monotone : (h k : ℕ → ℕ) (a : Arc) → a.priority ≤ 2 * r + 1 → h a.target ≤ k a.target → asked n r h a ≤ asked n r k a
  asked_monotone h k a low below = climb_monotone n r a.priority some (omega arith) (h a.target) (k a.target) below

  greatest_at_most : (h : ℕ → ℕ) (arcs : List Arc) → All (λ (a : Arc). a.priority ≤ 2 * r + 1) arcs → greatest (map (asked n r h) arcs) ≤ lost n r
  greatest_at_most h [] low = omega arith
  greatest_at_most h (a ∷ arcs) low = let here = asked_at_most h a low.0 in let more = greatest_at_most h arcs low.1 in omega arith

  due_for_at_most : (player : Player) (h : ℕ → ℕ) (arcs : List Arc) → All (λ (a : Arc). a.priority ≤ 2 * r + 1) arcs → due_for player (lost n r) (map (asked n r h) arcs) ≤ lost n r
  due_for_at_most Even h arcs low = least_at_most (lost n r) (map (asked n r h) arcs)
  due_for_at_most Odd h arcs low = greatest_at_most h arcs low

due_for_monotone : (n r : ℕ) (player : Player) (limit : ℕ) (h k : ℕ → ℕ) (arcs : List Arc) → All (λ (a : Arc). asked n r h a ≤ asked n r k a) arcs → due_for player limit (map (asked n r h) arcs) ≤ due_for player limit (map (asked n r k) arcs)
due_for_monotone n r Even limit h k [] below = omega arith
due_for_monotone n r Even limit h k (a ∷ arcs) below = let here = below.0 in let more = due_for_monotone n r Even limit h k arcs below.1 in omega arith
due_for_monotone n r Odd limit h k [] below = omega arith
due_for_monotone n r Odd limit h k (a ∷ arcs) below = let here = below.0 in let more = due_for_monotone n r Odd limit h k arcs below.1 in omega arith

-- the due height looks at the targets alone, which are positions
asked_same : (n r : ℕ) (h k : ℕ → ℕ) (arcs : List Arc) → All (λ (a : Arc). h a.target ≡ k a.target) arcs → map (asked n r h) arcs ≡ map (asked n r k) arcs
asked_same n r h k [] same = refl
asked_same n r h k (a ∷ arcs) same =
    ap (λ x. climb n r x a.priority ∷ map (asked n r h) arcs) same.0 ∙ ap (λ xs. asked n r k a ∷ xs) (asked_same n r h k arcs same.1)

pub due_same : (n r : ℕ) (g : Game) → Lawful g → (h k : ℕ → ℕ) → ((v : ℕ) → v < g.size → h v ≡ k v) → (v : ℕ) → v < g.size → due n r g h v ≡ due n r g k v
due_same n r g lawful h k same v there =
    let targets = All-weaker (Inside g) (λ (a : Arc). h a.target ≡ k a.target) (λ a e. same a.target e.0) (g.arcs v) (arcs_inside g lawful v there) in
    ap (due_for (g.mover v) (lost n r)) (asked_same n r h k (g.arcs v) targets)

module _ (n r : ℕ) (g : Game) (some : 1 ≤ n) (lawful : Lawful g) (low : g.top ≤ 2 * r + 1) where
  pub due_at_most : (h : ℕ → ℕ) (v : ℕ) → v < g.size → due n r g h v ≤ lost n r
  due_at_most h v there =
      let lows = All-weaker (Inside g) (λ (a : Arc). a.priority ≤ 2 * r + 1) (λ a e. let p = e.1 in omega arith) (g.arcs v) (arcs_inside g lawful v there) in
      due_for_at_most n r some (g.mover v) h (g.arcs v) lows

  pub due_monotone : (h k : ℕ → ℕ) → ((v : ℕ) → v < g.size → h v ≤ k v) → (v : ℕ) → v < g.size → due n r g h v ≤ due n r g k v
  due_monotone h k below v there =
      let grows = All-weaker (Inside g) (λ (a : Arc). asked n r h a ≤ asked n r k a) (λ a e. let p = e.1 in asked_monotone n r some h k a (omega arith) (below a.target e.0)) (g.arcs v) (arcs_inside g lawful v there) in
      due_for_monotone n r (g.mover v) (lost n r) h k (g.arcs v) grows
