use Rattle.std.proofs.Common.{ap, ◌∙◌, fold, map, rules}
use Rattle.std.proofs.lemmas.Iterator.{YieldsList-from_map}
use Rattle.std.proofs.lemmas.Iterator.Adapters.{serves_from_places}
use Rattle.std.proofs.lemmas.Iterator.Consumers.{YieldsList-at, fold_from_yields_List}
use Rattle.heights.specs.Climb.{lost}
use Rattle.heights.specs.Heights.{asked, due_for}
use Rattle.heights.specs.Sweeps.{height_in}
use Rattle.heights.specs.Replies.{better}
use Rattle.heights.proofs.Asking.{arcs_yielded, mover_is, due_by_fold}
use Rattle.heights.proofs.Due.{arc_inside}
use Rattle.heights.proofs.sweeps.Ascent.due.Goals as goal

pub fold-requires-clause-can : goal.fold-requires-clause-can
fold-requires-clause-can g c =
    let s = c.args.self.now in
    let game = g.A.Arena.game s.arena.now in
    let yielded = arcs_yielded g.A.Arena.game game c.args.v c.requires c.of.ensures in (
      tt,
      serves_from_places (YieldsList-at c.map.ensures.source yielded) (λ x q k. search rules) (λ x k h e.
          let inside = rw (← e) at (arc_inside game (g.A.Arena.lawful s.arena.now) c.args.v k x c.requires h) in
          search rules),
    )

pub returns : goal.returns
returns g c =
    let s = c.args.self.now in
    let game = g.A.Arena.game s.arena.now in
    let mover = c.in-Some.mover in
    let limit = lost s.scale.n s.scale.r in
    let asks = asked s.scale.n s.scale.r (height_in s.cells.now) in
    let heights = map asks (game.arcs c.args.v) in
    let yielded = arcs_yielded g.A.Arena.game game c.args.v c.requires c.of.ensures in
    let folded = fold_from_yields_List _ (better mover) c.unasked.result c.fold.result c.fold.ensures.ran (YieldsList-from_map _ asks (YieldsList-at c.map.ensures.source yielded) c.map.ensures.closure (λ x r q k. search rules)) (λ a x b q k. search rules) in
    folded
    ∙ ap (λ a. fold (better mover) a heights) c.unasked.ensures
    ∙ due_by_fold mover limit heights
    ∙ ap (λ m. due_for m limit heights) (mover_is game c.args.v mover c.requires c.in-Some.ensures)
