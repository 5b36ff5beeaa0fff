-- The question for a name.
use Rattle.std.specs.Prelude.{ℕ, cond, Some, None, Option, nat_lt}
use Rattle.arena.specs.declared.named.Name.{Name}

-- The name of each position below the size, "absent" elsewhere.
abbrev pub name_at : ℕ → (ℕ → Name) → ℕ → Option Name
name_at size names v = cond (nat_lt v size) (Some (names v)) None
