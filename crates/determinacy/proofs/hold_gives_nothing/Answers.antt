use Rattle.determinacy.proofs.Hold.{gives_nothing}
use Rattle.determinacy.proofs.hold_gives_nothing.Goals as goal

pub returns : goal.returns
returns c = gives_nothing
