-- Any list of calls on one case, from its opening on.
use Rattle.std.specs.Prelude.{List, [], ◌∷◌}
use Rattle.game.specs.Game.{Game}
use Rattle.case_rules.specs.Calls.{Call, Reply, State, opened}
use Rattle.case_rules.specs.Answers.{Answers}

-- A call of the list with its reply, and the states of the case before and after it.
pub record Event : Type 0 where
  pub call : Call
  pub reply : Reply
  pub before : State
  pub after : State

-- The events of a case opened on g, the newest first, and the state that they lead to.
pub data Run (g : Game) : List Event → State → Type 0 where
  opening : Run g [] opened
  calling : {events : List Event} {s : State} → Run g events s → (c : Call) (r : Reply) (t : State) → Answers g s c r t → Run g (record { call = c; reply = r; before = s; after = t } ∷ events) t
