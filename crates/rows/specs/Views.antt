-- The row that the code holds, as a list, and what may be asked for.
use Rattle.std.specs.Prelude.{ℕ, ◌+◌, Bool, ◌&&◌, List, length, take, Option, option_map, nat_le, nat_lt}
use Rattle.rows.specs.Choose.{choose}
use Rattle.rows.specs.declared.row.Row.{Row}

-- The contents of a row, the last register's first.
abbrev pub contents_of : Row → List ℕ
contents_of s = take s.registers s.contents

-- The contents of a row that may be absent.
abbrev pub found : Option Row → Option (List ℕ)
found o = option_map contents_of o

-- Rows have 1 to 5 registers and contents up to 10.
abbrev pub some_registers : ℕ → Bool
some_registers r = nat_le 1 r && nat_le r 5

abbrev pub in_range : ℕ → ℕ → Bool
in_range r top = some_registers r && nat_le top 10

-- There is a row number k.
abbrev pub is_number : ℕ → ℕ → ℕ → Bool
is_number r top k = in_range r top && nat_lt k (choose (top + r) r)

-- There is a register j in the row.
abbrev pub has_register : ℕ → List ℕ → Bool
has_register j xs = nat_le 1 j && nat_le j (length xs)
