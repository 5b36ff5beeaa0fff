-- The games of the layers that stand over any game: swap and hold.
use Rattle.std.specs.Prelude.{ℕ, ◌+◌, cond, List, [], ◌∷◌, map, Some, None, Option, nat_lt, slice_index_or}
use Rattle.std.specs.List.{slice_get}
use Rattle.game.specs.declared.Arc.{Arc}
use Rattle.game.specs.Game.{Game, rival}

-- Swap: the movers exchanged, each priority and top one higher. Over a game with top 250 it has no positions, and top 0.
abbrev pub raised : Arc → Arc
raised a = record { target = a.target; priority = a.priority + 1 }

abbrev pub swapped : Game → Game
swapped g = record {
  size = cond (nat_lt g.top 250) g.size 0;
  top = cond (nat_lt g.top 250) (g.top + 1) 0;
  mover = λ v. rival (g.mover v);
  arcs = λ v. map raised (g.arcs v);
}

-- What an entry leaves of a position's arcs: the arc that it numbers, alone; all of them where it is free or numbers none.
abbrev pub alone : Option Arc → List Arc → List Arc
alone None xs = xs
alone (Some a) xs = a ∷ []

abbrev pub restricted : Option ℕ → List Arc → List Arc
restricted None xs = xs
restricted (Some i) xs = alone (slice_get xs i) xs

-- The entry of a position: only positions below 16 have one.
abbrev pub entry_at : List (Option ℕ) → ℕ → Option ℕ
entry_at entries v = cond (nat_lt v 16) (slice_index_or entries v None) None

-- Hold: each position has the arcs that its entry leaves; all else is as below.
abbrev pub held : List (Option ℕ) → Game → Game
held entries g = record {
  size = g.size;
  top = g.top;
  mover = g.mover;
  arcs = λ v. restricted (entry_at entries v) (g.arcs v);
}
