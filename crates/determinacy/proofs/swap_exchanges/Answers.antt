use Rattle.determinacy.proofs.Swap.{exchanged}
use Rattle.determinacy.proofs.swap_exchanges.Goals as goal

pub returns : goal.returns
returns c = λ g player lawful low. exchanged g player low
