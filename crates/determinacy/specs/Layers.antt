-- What swap and hold do to winning plans.
use Rattle.std.specs.Prelude.{◌≡◌, ℕ, ◌<◌, Bool, true, cond, ◌↔◌, List, length, is_some, Some, None, Option, nat_lt}
use Rattle.std.specs.Option.{unwrap_or}
use Rattle.game.specs.declared.Player.{Player}
use Rattle.game.specs.declared.Arc.{Arc}
use Rattle.game.specs.Game.{Game}
use Rattle.game.specs.Layers.{swapped, held, entry_at}
use Rattle.game.specs.Plans.{Plan, Wins, Winnable}

abbrev pub plan : Player → (ℕ → Bool) → (ℕ → ℕ) → Plan
plan player claims choice = record { player = player; claims = claims; choice = choice }

-- The same claims and choices win for the one player on the game and for the other on the swapped game.
abbrev pub Exchanged : Game → Player → Player → Type 0
Exchanged g one other = (claims : ℕ → Bool) (choice : ℕ → ℕ) → Wins g (plan one claims choice) ↔ Wins (swapped g) (plan other claims choice)

-- The number of the arc that an entry holds: none where the entry is free or numbers none of the arcs.
abbrev pub held_number : Option ℕ → List Arc → Option ℕ
held_number None xs = None
held_number (Some i) xs = cond (nat_lt i (length xs)) (Some i) None

abbrev pub held_at : List (Option ℕ) → Game → ℕ → Option ℕ
held_at entries g v = held_number (entry_at entries v) (g.arcs v)

-- Only positions where the player moves have an entry.
abbrev pub OwnEntries : List (Option ℕ) → Game → Player → Type 0
OwnEntries entries g player = (v i : ℕ) → v < g.size → entry_at entries v ≡ Some i → g.mover v ≡ player

-- The plan chooses the held arc at each claimed position of its player that has one.
abbrev pub Agrees : List (Option ℕ) → Game → Plan → Type 0
Agrees entries g s = (v i : ℕ) → s.claims v ≡ true → g.mover v ≡ s.player → held_at entries g v ≡ Some i → s.choice v ≡ i

-- A held arc is the only one of its position on the held game, so its number there is 0.
abbrev pub renumbered : List (Option ℕ) → Game → Plan → Plan
renumbered entries g s = plan s.player s.claims (λ v. cond (is_some (held_at entries g v)) 0 (s.choice v))

-- Back again: the held arc's own number where there is one.
abbrev pub numbered_back : List (Option ℕ) → Game → Plan → Plan
numbered_back entries g s = plan s.player s.claims (λ v. unwrap_or (held_at entries g v) (s.choice v))

-- Holding the entries gives the player no position that the player could not win before.
abbrev pub GivesNothing : List (Option ℕ) → Game → Player → Type 0
GivesNothing entries g player = (v : ℕ) → Winnable (held entries g) player v → Winnable g player v
