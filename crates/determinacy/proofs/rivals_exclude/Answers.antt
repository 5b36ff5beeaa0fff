use Rattle.determinacy.proofs.Regions.{rivals_exclude_lem}
use Rattle.determinacy.proofs.rivals_exclude.Goals as goal

pub returns : goal.returns
returns c = rivals_exclude_lem
