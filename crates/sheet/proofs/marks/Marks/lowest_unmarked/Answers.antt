use Rattle.std.proofs.Common.{rules, ◌≡◌, ℕ, ◌+◌, ◌<◌, ◌≤◌, true, false, get_or, Some, None, Option, MatchOption}
use Rattle.std.proofs.lemmas.Iterator.{first_from_Range}
use Rattle.game.specs.Lowest.{LowestWithout}
use Rattle.sheet.proofs.marks.Marks.lowest_unmarked.Goals as goal

lowest : (A : Type 0) (P : ℕ → Type 0) (start end : ℕ) (r : Option ℕ) → MatchOption r A (λ i. (start ≤ i) × (i < end) × (P i → ⊥) × ((k : ℕ) → start ≤ k → k < i → P k)) → MatchOption r A (LowestWithout P start end)
lowest A P start end None h = h
lowest A P start end (Some i) h = record { from_start = h.0; before_end = h.1; lacks = h.2; below_have = h.3 }

pub returns : goal.returns
returns c =
    let marked = λ (k : ℕ). get_or c.args.self.now.marked k false ≡ true in
    lowest _ marked 1 (c.args.records + 1) c.find.result (first_from_Range (record { start = 1; end = c.args.records + 1 }) c.find.new.self _ c.find.result (λ k. marked k → ⊥) marked c.find.ensures.ran (λ x q k. search rules) (λ x q k. search rules))
