-- What the question for an arc says, both ways.
use Rattle.std.proofs.Common.{◌≡◌, ℕ, ◌<◌, length, Some, arith}
use Rattle.std.specs.List.{slice_get}
use Rattle.std.proofs.lemmas.Bool.Decides.{nat_tests}
use Rattle.game.specs.declared.Arc.{Arc}
use Rattle.game.specs.Game.{Game, arc_count_at, arc_at}

-- where the answer is an arc, the position is there, and so is the arc
pub arc_there : (g : Game) (v i : ℕ) (a : Arc) → arc_at g v i ≡ Some a → (v < g.size) × (slice_get (g.arcs v) i ≡ Some a)
arc_there g v i a e = grind (arith, nat_tests)

pub arc_from : (g : Game) (v i : ℕ) (a : Arc) → v < g.size → slice_get (g.arcs v) i ≡ Some a → arc_at g v i ≡ Some a
arc_from g v i a h e = grind (arith, nat_tests)

pub count_there : (g : Game) (v n : ℕ) → arc_count_at g v ≡ Some n → (v < g.size) × (length (g.arcs v) ≡ n)
count_there g v n e = grind (arith, nat_tests)
