use Rattle.case_theory.proofs.Complete.{some_reply}
use Rattle.case_theory.proofs.Unique.{one_reply}
use Rattle.case_theory.proofs.replies_complete.Goals as goal

pub returns : goal.returns
returns c = record { some = some_reply; one = one_reply }
