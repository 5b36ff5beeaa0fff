use Rattle.std.proofs.Common.{lit<, arith}
use Rattle.rows.proofs.Numbering.{rows_counted_lem}
use Rattle.registers.specs.Arcs.{few_rows}
use Rattle.registers.proofs.Reading.{moves_more}
use Rattle.registers.proofs.moves.Moves.new.Goals as goal

pub push-requires : goal.push-requires
push-requires c =
    let h = few_rows c.args.shape.registers c.args.shape.top c.args.shape.few c.requires in
    let n = rows_counted_lem c.args.shape.registers c.args.shape.top in
    (lit< tt, omega arith)

pub moves_of-requires : goal.moves_of-requires
moves_of-requires c =
    let n = rows_counted_lem c.args.shape.registers c.args.shape.top in
    let low = c.requires in
    record {
      there = omega arith;
      low = omega arith;
    }

pub loop-k-preserved : goal.loop-k-preserved
loop-k-preserved c =
    let shape = c.args.shape in
    let (long, each) = c.loop-k.invariant in (
      omega arith,
      rw c.push.ensures.items (moves_more shape.registers shape.top c.loop-k.by_row.items c.moves_of.result each (rw long c.moves_of.ensures)),
    )

pub invariant_of-result : goal.invariant_of-result
invariant_of-result c =
    let n = rows_counted_lem c.args.shape.registers c.args.shape.top in
    let (long, each) = c.loop-k.invariant in
    record {
      low = c.requires;
      counted = omega arith;
      each = each;
    }
