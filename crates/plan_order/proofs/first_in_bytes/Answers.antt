use Rattle.plan_order.proofs.Order.{first_in_bytes_lem}
use Rattle.plan_order.proofs.first_in_bytes.Goals as goal

pub returns : goal.returns
returns c = first_in_bytes_lem
