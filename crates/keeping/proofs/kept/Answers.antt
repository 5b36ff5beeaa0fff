use Rattle.std.proofs.Common.{refl, sym, ap, ◌∙◌}
use Rattle.game.specs.Game.{Game}
use Rattle.keeping.proofs.Serving.{not_served}
use Rattle.keeping.proofs.kept.Goals as goal

pub returns-then-not-served : goal.returns-then-not-served
returns-then-not-served g c =
    let game = g.A.Arena.game c.args.arena.now in
    let used = c.size-used.ensures ∙ ap (λ (l : Game). l.size) c.over-layer.ensures in
    (not_served c.args.r game c.args.cells.now c.size-used.result used (sym c.if-not-served.true ∙ c.served.ensures), refl)
