use mathlib.Core.Path.{refl}
use Rattle.game.proofs.Loops.{lone_loops_decided_lem}
use Rattle.plans.proofs.Worked.{worked_plans}
use Rattle.case_rules.specs.Binary.{log2}
use Rattle.worked.proofs.worked_examples.Goals as goal

pub returns : goal.returns
unfolding log2
returns c = record {
  rows = (refl, refl, refl, refl, refl, refl);
  climbs = (refl, refl, refl, refl, refl);
  measures = (refl, refl, refl, refl, refl);
  plans = worked_plans;
  loops = lone_loops_decided_lem;
}
