-- What reading a sheet into a table does.
use Rattle.std.specs.Prelude.{◌≡◌, ℕ, List, Ok, Err, Result}
use Rattle.table.specs.declared.table.Table.{Table}
use Rattle.table.specs.Tables.{sites}
use Rattle.sheet.specs.declared.fault.ReadFault.{ReadFault}
use Rattle.sheet.specs.declared.fault.ReadFault.TheVariants.{Refused, Memory}
use Rattle.sheet.specs.Chains.{Describes}
use Rattle.sheet.specs.Refusals.{Refuses}

-- From the old table to the new one: it holds what the sheet describes; or the sheet is refused, or there was no memory, and the
-- table is as it was.
abbrev pub Reads : List ℕ → Table → Result (Unit {0}) ReadFault → Table → Type 0
Reads s old (Ok done) new = Describes s (sites new)
Reads s old (Err (Refused fault)) new = Refuses s fault × (new ≡ old)
Reads s old (Err Memory) new = new ≡ old
