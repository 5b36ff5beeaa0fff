use Rattle.std.proofs.Common.{rules, ◌^◌, refl, arith}
use Rattle.std.specs.List.{range_with_len}
use Rattle.std.proofs.lemmas.Iterator.{YieldsList-from_range, YieldsList-from_map}
use Rattle.std.proofs.lemmas.Iterator.Consumers.{YieldsList-at, sum_by_from_yields_List, fits_by_from_yields_list}
use Rattle.arena.specs.Totals.{arcs_at}
use Rattle.arena.proofs.Totals.{arcs_fit}
use Rattle.arena.proofs.total.arc_total.Goals as goal

pub sum-requires-clause-fits : goal.sum-requires-clause-fits
sum-requires-clause-fits g c =
    let game = g.A.Arena.game c.args.arena.now in
    fits_by_from_yields_list (arcs_at game) (range_with_len 0 game.size) c.map.result (2 ^ 64) (YieldsList-from_map _ (arcs_at game) (YieldsList-at c.map.ensures.source (YieldsList-from_range 0 c.size.result game.size refl (omega (arith, c.size.ensures)))) c.map.ensures.closure (λ x r q k. search rules)) (arcs_fit game (g.A.Arena.lawful c.args.arena.now))

pub returns : goal.returns
returns g c =
    let game = g.A.Arena.game c.args.arena.now in
    sum_by_from_yields_List (arcs_at game) (range_with_len 0 game.size) c.map.result c.sum.result c.sum.ensures.ran (YieldsList-from_map _ (arcs_at game) (YieldsList-at c.map.ensures.source (YieldsList-from_range 0 c.size.result game.size refl (omega (arith, c.size.ensures)))) c.map.ensures.closure (λ x r q k. search rules))
