use Rattle.std.proofs.Common.{arith, rules}
use Rattle.heights.proofs.Running.{found_from}
use Rattle.heights.proofs.sweeps.least_heights.Goals as goal

pub returns : goal.returns
returns g c =
    let found = found_from c.args.n c.args.r (g.A.Arena.game c.args.arena.now) c.args.cells.now (g.A.Arena.lawful c.args.arena.now) (record {
      some_base = omega arith;
      low_base = omega arith;
      some_registers = omega arith;
      few_registers = omega arith;
      low_top = omega arith;
      enough_cells = omega arith;
    }) c.new.ensures.n c.new.ensures.r c.size-size.ensures c.clear.ensures c.settle.ensures.swept in
    search rules
