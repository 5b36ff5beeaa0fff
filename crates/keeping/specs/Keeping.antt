-- What the call answers that says which positions are kept.
use Rattle.std.specs.Prelude.{◌≡◌, ℕ, ◌<◌, ◌≤◌, true, false, ◌↔◌, List, length, Some, None, Option, slice_index_or}
use Rattle.game.specs.Game.{Game}
use Rattle.heights.specs.Sweeps.{zeroed}
use Rattle.heights.specs.Replies.{Found}
use Rattle.registers.specs.Layer.{stands, registers}
use Rattle.register_theory.specs.Kept.{Kept}
use Rattle.keeping.specs.declared.answer.Keeping.{Keeping}

-- Which calls are served: the arena has positions, the layer stands, and there is a cell for each of its positions.
pub record Served (r : ℕ) (g : Game) (cells : List ℕ) : Type 0 where
  pub some_position : 1 ≤ g.size
  pub layer_stands : stands r g ≡ true
  pub enough_cells : (registers r g).size ≤ length cells

-- The flags say which positions are kept, and the raises are those of the sweeps over the layer from all zeros.
pub record Told (r : ℕ) (g : Game) (cells : List ℕ) (k : Keeping) : Type 0 where
  pub served : Served r g cells
  pub flags : (v : ℕ) → v < g.size → (slice_index_or k.positions v false ≡ true) ↔ Kept r g v
  pub swept : (last : List ℕ) × Found g.size r (registers r g) cells last k.raises

-- Absent, and the cells untouched, exactly where the call is not served; else the layer's cells are zero and the others untouched.
abbrev pub Reply : ℕ → Game → List ℕ → List ℕ → Option Keeping → Type 0
Reply r g before after None = (Served r g before → ⊥) × (after ≡ before)
Reply r g before after (Some k) = Told r g before k × (after ≡ zeroed (registers r g).size before)
