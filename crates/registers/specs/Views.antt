-- The games that the layer and its parts are, and the arcs by what the layer holds.
use Rattle.std.specs.Prelude.{◌≡◌, ℕ, ◌+◌, ◌*◌, ◌/◌, ◌%◌, ◌<◌, ◌≤◌, true, false, length, Some, None, Option, slice_index_or}
use Rattle.std.specs.Option.{option_map}
use Rattle.game.specs.declared.Arc.{Arc}
use Rattle.game.specs.Game.{Game, Lawful}
use Rattle.registers.specs.declared.copied.Copied.{Copied}
use Rattle.registers.specs.declared.registers.Layer.{Layer}
use Rattle.registers.specs.declared.registers.Registers.{Registers}
use Rattle.registers.specs.declared.row_moves.Step.{Step}
use Rattle.registers.specs.declared.spot.Spot.{Spot}
use Rattle.registers.specs.declared.spot.Spot.TheVariants.{AtPosition, AtArc}
use Rattle.registers.specs.Layer.{layer, no_arc, no_positions}
use Rattle.registers.specs.Copies.{copied, fits, Alike, copied_lawful, all_arcs}
use Rattle.registers.specs.Tables.{updated_at, step_at}
use Rattle.registers.specs.Laws.{layer_lawful, no_positions_lawful}

-- The game below, as it was copied.
abbrev pub below_of : Copied → Game
below_of s = copied s.top s.positions.items s.arcs.items

-- What copying a game gives: a copy exactly where the game fits.
abbrev pub Taken : Game → Option Copied → Type 0
Taken g None = fits g ≡ false
Taken g (Some s) = (fits g ≡ true) × Alike g (below_of s)

-- The game of a layer; where there is no layer it has no positions.
abbrev pub layer_game : Layer → Game
layer_game s = layer s.moves.shape.registers (below_of s.below)

abbrev pub layer_of : Option Layer → Game
layer_of None = no_positions
layer_of (Some s) = layer_game s

-- The game of the registers.
abbrev pub game_of : Registers → Game
game_of s = layer_of s.layer

-- How many rows there are, and how many places, each with every row: the positions below, and behind them the arcs below.
abbrev pub row_total : Layer → ℕ
row_total s = length s.moves.by_row.items

abbrev pub place_total : Layer → ℕ
place_total s = length s.below.positions.items + length s.below.arcs.items

-- Where position x of the layer stands; absent where it has no such position.
abbrev pub StandsAt : Layer → ℕ → Option Spot → Type 0
StandsAt s x None = place_total s ≤ x / row_total s
StandsAt s x (Some (AtPosition v row)) = (v < length s.below.positions.items) × (v ≡ x / row_total s) × (row ≡ x % row_total s)
StandsAt s x (Some (AtArc e row)) = (e < length s.below.arcs.items) × (length s.below.positions.items + e ≡ x / row_total s) × (row ≡ x % row_total s)

-- The arc to arc e of the game below from row k, with the row updated.
abbrev pub enter_arc : Layer → ℕ → ℕ → Arc
enter_arc s e k = record {
  target = (length s.below.positions.items + e) * row_total s + updated_at s.moves.shape.registers s.moves.shape.top k (slice_index_or s.below.arcs.items e no_arc).priority;
  priority = 0;
}

-- Arc j at arc e of the game below and row k: it goes on to the target of e by step j.
abbrev pub leave_arc : Layer → ℕ → ℕ → ℕ → Option Arc
leave_arc s e k j = option_map (λ (step : Step). record {
  target = (slice_index_or s.below.arcs.items e no_arc).target * row_total s + step.row;
  priority = step.priority;
}) (step_at s.moves.shape.registers s.moves.shape.top k j)

below_lawful : (s : Copied) → Lawful (below_of s)
below_lawful s = copied_lawful s.spans s.top s.few s.low s.narrow s.inside

-- the layer keeps the laws
pub layer_game_lawful : (s : Layer) → Lawful (layer_game s)
layer_game_lawful s =
    let b = s.below in
    layer_lawful s.moves.shape.registers (below_of b) (below_lawful b) (record {
      some = s.moves.shape.some;
      few = s.moves.shape.few;
      small = b.few;
      low = b.low;
      narrow = rw (all_arcs b.spans b.top) b.narrow;
    })

layers_lawful : (o : Option Layer) → Lawful (layer_of o)
layers_lawful None = no_positions_lawful
layers_lawful (Some s) = layer_game_lawful s

pub game_lawful : (s : Registers) → Lawful (game_of s)
game_lawful s = layers_lawful s.layer
