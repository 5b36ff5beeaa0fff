use Rattle.game.specs.declared.Player.TheVariants.{Even}
use Rattle.determinacy.proofs.Disjoint.{disjoint}
use Rattle.determinacy.proofs.regions_disjoint.Goals as goal

pub returns : goal.returns
returns c = λ g lawful. disjoint g Even
