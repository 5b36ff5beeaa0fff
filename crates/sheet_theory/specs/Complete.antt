-- The numbered faults leave no sheet out and none in twice.
use Rattle.std.specs.Prelude.{◌≡◌, ℕ, ◌⊎◌, List}
use Rattle.table.specs.Sites.{Site}
use Rattle.sheet.specs.declared.fault.SheetFault.{SheetFault}
use Rattle.sheet.specs.Chains.{Describes}
use Rattle.sheet.specs.Refusals.{Refuses}

-- A sheet fits the layout exactly when no fault applies, and then it describes one arena; otherwise one fault applies.
pub record FaultsComplete : Type 0 where
  pub read_or_refused : (s : List ℕ) → ((sites : List Site) × Describes s sites) ⊎ ((fault : SheetFault) × Refuses s fault)
  pub not_both : (s : List ℕ) (sites : List Site) (fault : SheetFault) → Describes s sites → Refuses s fault → ⊥
  pub one_arena : (s : List ℕ) (a b : List Site) → Describes s a → Describes s b → a ≡ b
  pub one_fault : (s : List ℕ) (a b : SheetFault) → Refuses s a → Refuses s b → a ≡ b
