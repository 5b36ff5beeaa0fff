use Rattle.determinacy.proofs.Regions.{region_won_lem}
use Rattle.determinacy.proofs.region_won.Goals as goal

pub returns : goal.returns
returns c = region_won_lem
