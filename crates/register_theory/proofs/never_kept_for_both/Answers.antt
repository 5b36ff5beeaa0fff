use Rattle.register_theory.proofs.Sound.{never_both}
use Rattle.register_theory.proofs.never_kept_for_both.Goals as goal

pub returns : goal.returns
returns c = never_both
