-- The sites of a table, and that its game keeps the laws.
use Rattle.std.specs.Prelude.{List, vec_items}
use Rattle.game.specs.Game.{Lawful}
use Rattle.table.specs.declared.table.Table.{Table}
use Rattle.table.specs.Sites.{Site, sites_of, game_of}

abbrev pub sites : Table → List Site
sites t = sites_of (vec_items t.positions)

pub table_lawful : (t : Table) → Lawful (game_of (sites t))
table_lawful t = t.lawful
