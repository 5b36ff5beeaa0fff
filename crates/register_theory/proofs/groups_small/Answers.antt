use Rattle.register_theory.proofs.Groups.{few_small, swapped_small, held_small}
use Rattle.register_theory.proofs.groups_small.Goals as goal

pub returns : goal.returns
returns c = record { few = few_small; swap = swapped_small; hold = held_small }
