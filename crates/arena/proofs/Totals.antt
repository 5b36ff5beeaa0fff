-- The arcs of a game are few enough to be counted.
use Rattle.std.proofs.Common.{ℕ, ◌^◌, ◌<◌, ◌≤◌, inl, inr, arith}
use Rattle.std.specs.List.{range_with_len}
use Rattle.std.proofs.lemmas.Bool.{cases_lt, lt-ltb, le-ltb}
use Rattle.std.proofs.lemmas.List.Sums.{sum_by-le}
use Rattle.std.proofs.lemmas.List.FromFn.{length-range_with_len}
use Rattle.game.specs.Game.{Game, Lawful}
use Rattle.arena.specs.Totals.{arcs_at, arcs_in}

few_at : (g : Game) → Lawful g → (v : ℕ) → arcs_at g v ≤ 64
few_at g laws v = elim (cases_lt v g.size) [
  | inl h ↦ rw (lt-ltb v g.size h) (laws.few_arcs v h)
  | inr h ↦ rw (le-ltb v g.size h) (omega arith)
]

pub arcs_fit : (g : Game) → Lawful g → arcs_in g < 2 ^ 64
arcs_fit g laws =
    let all = range_with_len 0 g.size in
    let low = sum_by-le (arcs_at g) 64 all (λ k d h. few_at g laws _) in
    let long = length-range_with_len 0 g.size in
    let few = laws.few_positions in
    omega arith
