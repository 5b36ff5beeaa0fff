use Rattle.sheet.proofs.Laws.{described_few, described_lawful}
use Rattle.sheet.proofs.read.table_of.Goals as goal

pub invariant_of-result : goal.invariant_of-result
invariant_of-result c =
    let (chains, fits, same) = c.in_ok-positions.ensures in
    rw same record { few = described_few fits; lawful = described_lawful fits }
