use Rattle.determinacy.proofs.Regions.{each_belongs}
use Rattle.determinacy.proofs.positions_belong.Goals as goal

pub returns : goal.returns
returns c = each_belongs
