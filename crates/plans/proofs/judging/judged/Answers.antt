use Rattle.plans.proofs.judging.judged.Goals as goal

pub returns : goal.returns
returns g c = let (formed, arena, bytes) = c.in_ok-plan.ensures in (formed, rw (arena, bytes) at c.mark.ensures)
