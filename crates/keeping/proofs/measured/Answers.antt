use Rattle.std.proofs.Common.{◌≡◌, ℕ, ◌*◌, ◌<◌, false, ltb, get_or, sym, ap, ◌∙◌, subst₂, arith}
use Rattle.game.specs.Game.{Game}
use Rattle.heights.specs.Climb.{lost}
use Rattle.heights.specs.Replies.{Found}
use Rattle.keeping.proofs.Serving.{rows_told, zeros_there, keeping_tells}
use Rattle.keeping.proofs.measured.Goals as goal

pub below-positions-requires-clause-room : goal.below-positions-requires-clause-room
below-positions-requires-clause-room g c = λ v h.
    let game = g.A.Arena.game c.args.arena.now in
    let same = ap (λ (l : Game). l.size) c.requires.over in
    let told = rows_told c.args.r game _ _ c.top.ensures (sym c.unwrap-rows.ensures ∙ c.row_count.ensures) in
    let there = zeros_there c.args.r game c.unwrap-rows.result told (omega arith) v (omega arith) in
    omega arith

pub returns-clause-told : goal.returns-clause-told
returns-clause-told g c =
    let game = g.A.Arena.game c.args.arena.now in
    let same = ap (λ (l : Game). l.size) c.requires.over in
    let told = rows_told c.args.r game _ _ c.top.ensures (sym c.unwrap-rows.ensures ∙ c.row_count.ensures) in
    let found = subst₂ (λ n (l : Game). Found n c.args.r l c.args.cells.now c.least_heights.new.cells c.unwrap-raises.result) c.size-size.ensures c.requires.over (rw c.unwrap-raises.ensures at c.least_heights.ensures) in
    let limit = c.lost_height.ensures ∙ ap (λ n. lost n c.args.r) c.size-size.ensures in
    let flags = subst₂ (λ n l. (v : ℕ) → v < n → get_or c.below-positions.result v false ≡ ltb (get_or c.least_heights.new.cells (v * c.unwrap-rows.result) 0) l) c.size-size.ensures limit c.below-positions.ensures in
    keeping_tells c.args.r game c.unwrap-rows.result told c.args.cells.now c.least_heights.new.cells _ (omega arith) (omega arith) found flags
