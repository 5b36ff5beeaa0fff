use Rattle.std.proofs.Common.{◌∙◌, arith}
use Rattle.rows.proofs.Binomials.{entry_is}
use Rattle.rows.proofs.table.entry.Goals as goal

pub returns-clause-value : goal.returns-clause-value
returns-clause-value c =
    let whole = c.table.ensures.whole in
    c.from.ensures ∙ entry_is c.table.result.now c.table.ensures.lawful c.args.a c.args.b (omega arith) c.requires.right
