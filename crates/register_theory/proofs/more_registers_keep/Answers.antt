use Rattle.register_theory.proofs.More.{still_kept}
use Rattle.register_theory.proofs.more_registers_keep.Goals as goal

pub returns : goal.returns
returns c = still_kept
