-- The seven calls with all that they bring, the replies with what the buffers then hold, and the states of a case.
use Rattle.std.specs.Prelude.{ℕ, List, [], replicate, None, Option}
use Rattle.game.specs.declared.Player.{Player}
use Rattle.game.specs.Game.{Game}
use Rattle.game.specs.Layers.{held}
use Rattle.plans.specs.declared.mark.Mark.{Mark}
use Rattle.case_rules.specs.Outcomes.{Outcome}

-- hold: position and arc. free: position. solve: registers wanted, and cells. verdict: position. issue: player, output and cells. check: the plan's bytes.
pub data Call : Type 0 where
  to_hold : ℕ → ℕ → Call
  to_free : ℕ → Call
  to_solve : ℕ → List ℕ → Call
  to_reopen : Call
  to_verdict : ℕ → Call
  to_issue : ℕ → List ℕ → List ℕ → Call
  to_check : List ℕ → Call

-- A refusal has a number and a place.
pub data Answer : Type 0 where
  done : Answer
  solved : Outcome → Answer
  told : Option Player → Answer
  written : ℕ → Answer
  marked : Mark → Answer
  refused : ℕ → ℕ → Answer

-- What is answered, and what the output and the cells that the call brought hold afterwards; nothing where it brought none.
pub record Reply : Type 0 where
  pub answer : Answer
  pub output : List ℕ
  pub cells : List ℕ

abbrev pub plain : Answer → Reply
plain a = record { answer = a; output = []; cells = [] }

-- The output and the cells as the call brings them.
abbrev pub output_of : Call → List ℕ
output_of (to_hold v a) = []
output_of (to_free v) = []
output_of (to_solve wanted cells) = []
output_of to_reopen = []
output_of (to_verdict v) = []
output_of (to_issue player output cells) = output
output_of (to_check plan) = []

abbrev pub cells_of : Call → List ℕ
cells_of (to_hold v a) = []
cells_of (to_free v) = []
cells_of (to_solve wanted cells) = cells
cells_of to_reopen = []
cells_of (to_verdict v) = []
cells_of (to_issue player output cells) = cells
cells_of (to_check plan) = []

-- The state of a case: its 16 entries, and the outcome where it is solved.
pub record State : Type 0 where
  pub entries : List (Option ℕ)
  pub outcome : Option Outcome

abbrev pub unsolved : List (Option ℕ) → State
unsolved entries = record { entries = entries; outcome = None }

-- A case as it is opened: nothing is held.
abbrev pub opened : State
opened = unsolved (replicate 16 None)

-- The arena as held.
abbrev pub as_held : Game → State → Game
as_held g s = held s.entries g
