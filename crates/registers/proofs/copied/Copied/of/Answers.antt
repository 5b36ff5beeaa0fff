use Rattle.std.proofs.Common.{◌≡◌, length, lit<, sym, ap, ◌∙◌, add-one, arith}
use Rattle.std.proofs.lemmas.List.{length-append}
use Rattle.registers.specs.Layer.{arcs_below}
use Rattle.registers.proofs.Taking.{positions_counted, position_more, arcs_added, too_many, copy_spans, copy_inside, copy_fits, copy_alike}
use Rattle.registers.proofs.copied.Copied.of.Goals as goal

pub push-requires : goal.push-requires
push-requires g c =
    let long = ap length c.loop-v.invariant.0 ∙ positions_counted (g.A.Arena.game c.args.arena.now) c.loop-v.v in
    (lit< tt, omega arith)

pub returns-in_err-ok : goal.returns-in_err-ok
returns-in_err-ok g c =
    rw c.from_residual.ensures
    (too_many g.A.Arena.game (g.A.Arena.game c.args.arena.now) c.loop-v.v (omega arith) c.of.result c.loop-v.arcs.items c.extend.new.self.items c.of.ensures c.loop-v.invariant.1 c.extend.result c.in_err-ok.ensures.variant c.extend.ensures.full c.extend.ensures.one_more)

pub loop-v-preserved : goal.loop-v-preserved
loop-v-preserved g c =
    let game = g.A.Arena.game c.args.arena.now in
    let v = c.loop-v.v in
    let all = arcs_added g.A.Arena.game game v (omega arith) c.of.result c.loop-v.arcs.items c.extend.new.self.items c.of.ensures c.loop-v.invariant.1 c.extend.result c.in_ok-ok.ensures.variant c.extend.ensures.ran in
    let before = ap length c.loop-v.invariant.1 in
    let after = ap length (all ∙ ap (arcs_below game) (add-one v)) in
    let more = length-append (arcs_below game v) (game.arcs v) in (
      position_more game v c.loop-v.positions.items c.push.new.self.items c.unwrap-mover.result _ _ c.loop-v.invariant.0 c.push.ensures.items (sym c.unwrap-mover.ensures ∙ c.mover.ensures) (omega arith) (omega arith),
      all,
      omega arith,
    )

pub invariant_of-result : goal.invariant_of-result
invariant_of-result g c =
    let game = g.A.Arena.game c.args.arena.now in
    let end : c.loop-v.v ≡ game.size = omega arith in
    let (placed, listed, few) = rw end at c.loop-v.invariant in
    let spans = copy_spans game (g.A.Arena.lawful c.args.arena.now) in
    let inside = copy_inside game (g.A.Arena.lawful c.args.arena.now) in
    let long = ap length placed ∙ positions_counted game game.size in
    record {
      few = omega arith;
      low = omega arith;
      narrow = few;
      spans = rw (placed, listed) spans;
      inside = rw (placed, listed, c.top-top.ensures) inside;
    }

pub returns : goal.returns
returns g c =
    let game = g.A.Arena.game c.args.arena.now in
    let laws = g.A.Arena.lawful c.args.arena.now in
    let end : c.loop-v.v ≡ game.size = omega arith in
    let (placed, listed, few) = rw end at c.loop-v.invariant in
    (copy_fits game laws (omega arith) (omega arith) (rw (← listed) few), rw (placed, listed, c.top-top.ensures) (copy_alike game laws))
