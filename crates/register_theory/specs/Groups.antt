-- Groups of positions that reach one another.
use Rattle.std.specs.Prelude.{ℕ, ◌^◌, ◌<◌, Bool, false, ◌&&◌, ◌||◌, List, [], ◌∷◌, ◌==◌}
use Rattle.game.specs.declared.Arc.{Arc}
use Rattle.game.specs.Game.{Game}
use Rattle.toolkit.specs.Finite.{count}
use Rattle.toolkit.specs.Reachability.{reach}

-- One of the arcs leads to w.
abbrev pub leads_to : List Arc → ℕ → Bool
leads_to [] w = false
leads_to (a ∷ arcs) w = a.target == w || leads_to arcs w

-- u and v reach one another along arcs.
abbrev pub in_group : Game → ℕ → ℕ → Bool
in_group g v u = reach g.size (λ a b. leads_to (g.arcs a) b) v u && reach g.size (λ a b. leads_to (g.arcs a) b) u v

-- Every group has fewer than 2^r positions.
abbrev pub SmallGroups : ℕ → Game → Type 0
SmallGroups r g = (v : ℕ) → v < g.size → count g.size (in_group g v) < 2 ^ r
