-- The layer has least closed heights: the sweeps end in them.
use Rattle.std.proofs.Common.{◌≡◌, ℕ, ◌+◌, ◌*◌, ◌≤◌, true, List, length, replicate, sym, subst, inl, inr, zero-mul, arith}
use Rattle.std.proofs.lemmas.List.{length-replicate}
use Rattle.std.proofs.lemmas.Bool.{cases_lt, cond-true}
use Rattle.game.specs.Game.{Game, Lawful}
use Rattle.heights.specs.Heights.{LeastClosed}
use Rattle.heights.specs.Sweeps.{height_in}
use Rattle.heights.proofs.Sweeping.{sweeps_end_lem}
use Rattle.registers.specs.Layer.{arc_total, row_count, stands, layer, no_positions}
use Rattle.registers.specs.Laws.{registers_lawful}
use Rattle.register_theory.specs.Kept.{HeightsExist}

-- over no positions any heights are the least
least_of_none : (n r : ℕ) (g : Game) → g.size ≡ 0 → LeastClosed n r g (λ v. 0)
least_of_none n r g none = record {
  closed = record { bounded = λ v h. absurd (omega arith); enough = λ v h. absurd (omega arith) };
  below_others = λ k closed v h. absurd (omega arith);
}

-- a layer over no positions has none
no_places : (r : ℕ) (g : Game) → g.size ≡ 0 → (g.size + arc_total g) * row_count r g ≡ 0
no_places r g none = rw none (zero-mul (row_count r g))

some_places : (r : ℕ) (g : Game) → Lawful (layer r g) → 1 ≤ g.size → (h : ℕ → ℕ) × LeastClosed g.size r (layer r g) h
some_places r g laws some =
    let cells : List ℕ = replicate (layer r g).size 0 in
    let long : length cells ≡ (layer r g).size = length-replicate (layer r g).size 0 in
    let all = sweeps_end_lem g.size r (layer r g) some laws (omega arith) cells (omega arith) in
    (height_in all.ends.0, all.least all.ends.0 all.ends.1 all.ends.2)

pub heights_exist : (r : ℕ) (g : Game) → Lawful g → stands r g ≡ true → HeightsExist r g
heights_exist r g lawful e =
    let over = cond-true (stands r g) (layer r g) no_positions e in
    let laws : Lawful (layer r g) = subst Lawful over (registers_lawful r g lawful) in
    let exist : (h : ℕ → ℕ) × LeastClosed g.size r (layer r g) h = elim (cases_lt 0 g.size) [
      | inl some ↦ some_places r g laws some
      | inr none ↦ ((λ v. 0), least_of_none g.size r (layer r g) (no_places r g (omega arith)))
    ] in
    subst (λ l. (h : ℕ → ℕ) × LeastClosed g.size r l h) (sym over) exist
