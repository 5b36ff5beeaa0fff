-- A table as a list of sites, and the game that such a list is.
use Rattle.std.specs.Prelude.{ℕ, List, [], map, length, replicate, vec_items, slice_index_or}
use Rattle.game.specs.declared.Player.{Player}
use Rattle.game.specs.declared.Player.TheVariants.{Even}
use Rattle.game.specs.declared.Arc.{Arc}
use Rattle.game.specs.Game.{Game}
use Rattle.arena.specs.declared.named.Name.{Name}
use Rattle.table.specs.declared.position.Position.{Position}

-- One position: who moves there, what it is called, and its arcs in order.
pub record Site : Type 0 where
  pub mover : Player
  pub name : Name
  pub arcs : List Arc

-- What stands where there is no position.
abbrev pub nowhere : Site
nowhere = record { mover = Even; name = record { bytes = replicate 4 0 }; arcs = [] }

-- The game of a list of sites: position v is site v, and top is 7.
abbrev pub game_of : List Site → Game
game_of sites = record {
  size = length sites;
  top = 7;
  mover = λ v. (slice_index_or sites v nowhere).mover;
  arcs = λ v. (slice_index_or sites v nowhere).arcs;
}

abbrev pub names_of : List Site → ℕ → Name
names_of sites v = (slice_index_or sites v nowhere).name

-- The sites that a table's positions are.
abbrev pub site_of : Position → Site
site_of p = record { mover = p.mover; name = p.name; arcs = vec_items p.arcs }

abbrev pub sites_of : List Position → List Site
sites_of ps = map site_of ps
