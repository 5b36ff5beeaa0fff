use Rattle.std.proofs.Common.{refl}
use Rattle.game.specs.declared.Player.TheVariants.{Even, Odd}
use Rattle.determinacy.specs.Example.{example, even_plan, odd_plan}
use Rattle.determinacy.proofs.Regions.{belongs_from}
use Rattle.determinacy.proofs.Example.{example_lawful, even_wins, odd_wins}
use Rattle.determinacy.proofs.example_decided.Goals as goal

pub returns : goal.returns
returns c = record {
  lawful = example_lawful;
  wins = (even_wins, odd_wins);
  evens = (belongs_from example Even 0 (even_plan, even_wins, refl, refl), belongs_from example Even 2 (even_plan, even_wins, refl, refl));
  odds = (belongs_from example Odd 1 (odd_plan, odd_wins, refl, refl), belongs_from example Odd 3 (odd_plan, odd_wins, refl, refl));
}
