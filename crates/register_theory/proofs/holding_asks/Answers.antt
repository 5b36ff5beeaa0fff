use Rattle.register_theory.proofs.First.{keeps_all_exact}
use Rattle.register_theory.proofs.holding_asks.Goals as goal

pub returns : goal.returns
returns c = λ r entries g player lawful own. keeps_all_exact entries g player lawful own r
