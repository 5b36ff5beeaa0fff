-- The due height as a fold over what the arcs ask.
use Rattle.std.proofs.Common.{◌≡◌, ℕ, ◌<◌, ltb, List, [], ◌∷◌, drop, Some, fold, min, max, ◌∙◌, arith}
use Rattle.std.proofs.lemmas.Bool.{cond-true, lt-ltb}
use Rattle.std.specs.Iterator.{YieldsFirst}
use Rattle.std.proofs.lemmas.Iterator.{YieldsList}
use Rattle.std.proofs.lemmas.Iterator.Consumers.{YieldsList-from_first}
use Rattle.std.proofs.lemmas.Bool.Decides.{nat_tests}
use Rattle.game.specs.declared.Player.{Player}
use Rattle.game.specs.declared.Player.TheVariants.{Even, Odd}
use Rattle.game.specs.Game.{Game, mover_at}
use Rattle.arena.specs.declared.arcs.Arcs.{Arcs}
use Rattle.arena.specs.Arcs.{arcs_from}
use Rattle.heights.specs.Heights.{due_for}
use Rattle.heights.specs.Replies.{better}
use Rattle.heights.proofs.Due.{least_at_most}

-- the iterator over a position's arcs yields them all
pub arcs_yielded : {A : Type 0} (game : A → Game) {s : Arcs A} (g : Game) (v : ℕ) → v < g.size → arcs_from (game s.arena.now) s.position s.next ≡ arcs_from g v 0 → YieldsList (YieldsFirst (λ (t : Arcs A). arcs_from (game t.arena.now) t.position t.next)) (λ x. x) s (g.arcs v)
arcs_yielded game g v there e =
    YieldsList-from_first (λ x. x) (λ t. arcs_from (game t.arena.now) t.position t.next) (g.arcs v) (e ∙ cond-true (ltb v g.size) (drop 0 (g.arcs v)) [] (lt-ltb v g.size there))

pub mover_is : (g : Game) (v : ℕ) (player : Player) → v < g.size → Some player ≡ mover_at g v → player ≡ g.mover v
mover_is g v player there e = grind (arith, nat_tests)

-- of more heights the mover takes the better in turn
better_in_turn : (player : Player) (limit a : ℕ) (xs : List ℕ) → better player a (due_for player limit []) ≡ a → fold (better player) a xs ≡ better player a (due_for player limit xs)
better_in_turn Even limit a [] h = omega arith
better_in_turn Even limit a (x ∷ xs) h = omega (arith, better_in_turn Even limit (min a x) xs (omega arith))
better_in_turn Odd limit a [] h = omega arith
better_in_turn Odd limit a (x ∷ xs) h = omega (arith, better_in_turn Odd limit (max a x) xs (omega arith))

-- from what is due where no arc asks anything
pub due_by_fold : (player : Player) (limit : ℕ) (xs : List ℕ) → fold (better player) (due_for player limit []) xs ≡ due_for player limit xs
due_by_fold Even limit xs = omega (arith, better_in_turn Even limit limit xs (omega arith), least_at_most limit xs)
due_by_fold Odd limit xs = omega (arith, better_in_turn Odd limit 0 xs (omega arith))
