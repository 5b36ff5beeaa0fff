-- What holds at every point of any list of calls, in the words of plans and winning.
use Rattle.std.specs.Prelude.{◌≡◌, ℕ, ◌+◌, ◌*◌, ◌^◌, ◌<◌, ◌≤◌, true, ◌⊎◌, ◌↔◌, List, ◌∷◌, ◌++◌, length, take, Some, ◌≢◌, None}
use Rattle.std.specs.List.{AllByRecursion}
use Rattle.game.specs.declared.Player.{Player}
use Rattle.game.specs.Game.{Game}
use Rattle.game.specs.Layers.{entry_at}
use Rattle.game.specs.Plans.{Wins, Belongs}
use Rattle.plans.specs.declared.mark.Mark.TheVariants.{Passes}
use Rattle.plans.specs.Bytes.{plan_of, WellFormed}
use Rattle.case_rules.specs.Limits.{within, needed, cells_for}
use Rattle.case_rules.specs.Outcomes.{Outcome, FirstWinning}
use Rattle.case_rules.specs.Calls.{Call, Reply, State, as_held}
use Rattle.case_rules.specs.Calls.Call.{to_hold, to_free, to_verdict, to_issue, to_check}
use Rattle.case_rules.specs.Calls.Answer.{done, solved, told, written, marked}
use Rattle.case_rules.specs.Answers.{numbered, may_stand, Answers}
use Rattle.case_rules.specs.Runs.{Event, Run}

-- The event is one of the list, with the newer ones before it and the older ones after it.
abbrev pub Among : List Event → List Event → Event → List Event → Type 0
Among events newer e older = events ≡ newer ++ e ∷ older

-- Every verdict that a solve gives to a player is true on the arena as held: the position belongs to that player. A full solve leaves no position open.
-- The raises are at most 2 · cells(used) · n^(used+1).
pub record SolveTrue (g : Game) (s : State) (o : Outcome) : Type 0 where
  pub belongs : (player : Player) (v : ℕ) → o.verdicts v ≡ Some player → Belongs (as_held g s) player v
  pub none_open : (v : ℕ) → o.full ≡ true → v < g.size → o.verdicts v ≢ None
  pub few_raises : o.raises ≤ 2 * cells_for g o.used * g.size ^ (o.used + 1)

-- What issue replies on a full solve, given a player, output and cells enough: a winning plan of the player, claiming exactly the positions with that
-- player's verdict; every other such plan comes later in dictionary order.
pub record Enough (g : Game) (player : ℕ) (output cells : List ℕ) (o : Outcome) : Type 0 where
  pub full : o.full ≡ true
  pub is_player : player ≤ 1
  pub output_enough : g.size + 2 ≤ length output
  pub cells_enough : cells_for g (needed g) ≤ length cells

pub record PlanGiven (g : Game) (e : Event) (player : ℕ) (o : Outcome) : Type 0 where
  pub replied : e.reply.answer ≡ written (g.size + 2)
  pub first_winning : FirstWinning (as_held g e.before) (numbered player) (λ v. o.verdicts v ≡ Some (numbered player)) (take (g.size + 2) e.reply.output)

-- What each call of the list keeps.
pub record Sound (g : Game) (e : Event) : Type 0 where
  pub solve_true : (o : Outcome) → e.after.outcome ≡ Some o → SolveTrue g e.after o
  pub verdict_true : (player : Player) (v : ℕ) → e.call ≡ to_verdict v → e.reply.answer ≡ told (Some player) → Belongs (as_held g e.before) player v
  pub check_exact : (plan : List ℕ) → e.call ≡ to_check plan → within g ≡ true → WellFormed (as_held g e.before) plan → (e.reply.answer ≡ marked Passes) ↔ Wins (as_held g e.before) (plan_of g.size plan)
  pub issue_first : (player : ℕ) (output cells : List ℕ) (o : Outcome) → e.call ≡ to_issue player output cells → e.before.outcome ≡ Some o → Enough g player output cells o → PlanGiven g e player o

-- Two solves under the same holds: what the one with no more registers used gives to a player, the other gives to that player.
abbrev pub GivenAgain : Event → Event → Type 0
GivenAgain e f =
    (o p : Outcome) → e.reply.answer ≡ solved o → f.reply.answer ≡ solved p → ((v : ℕ) → entry_at e.before.entries v ≡ entry_at f.before.entries v) → o.used ≤ p.used →
    (player : Player) (v : ℕ) → o.verdicts v ≡ Some player → p.verdicts v ≡ Some player

-- The event is an unrefused hold or free at the position.
abbrev pub Settles : ℕ → Event → Type 0
Settles v e = (e.reply.answer ≡ done) × (((a : ℕ) × (e.call ≡ to_hold v a)) ⊎ (e.call ≡ to_free v))

-- The position is held at the arc: the last unrefused hold or free there is a hold at that arc.
pub record HeldAt (events : List Event) (v a : ℕ) : Type 0 where
  pub newer : List Event
  pub older : List Event
  pub hold : Event
  pub among : Among events newer hold older
  pub unrefused : hold.reply.answer ≡ done
  pub holds : hold.call ≡ to_hold v a
  pub none_later : AllByRecursion (λ e. Settles v e → ⊥) newer

-- The outcome is that of the last solve.
pub record LastSolve (events : List Event) (o : Outcome) : Type 0 where
  pub newer : List Event
  pub older : List Event
  pub solve : Event
  pub among : Among events newer solve older
  pub gave : solve.reply.answer ≡ solved o
  pub none_later : AllByRecursion (λ e. (p : Outcome) → e.reply.answer ≢ solved p) newer

-- What holds of a list of calls and of the state that they lead to.
pub record Promises (g : Game) (events : List Event) (s : State) : Type 0 where
  pub each_sound : AllByRecursion (Sound g) events
  pub given_again : (e f : Event) (a b c d : List Event) → Among events a e b → Among events c f d → GivenAgain e f
  pub held_as_told : (v a : ℕ) → (entry_at s.entries v ≡ Some a) ↔ HeldAt events v a
  pub last_solve : (o : Outcome) → s.outcome ≡ Some o → LastSolve events o

-- Every list of calls on a case opened on g keeps the promises.
abbrev pub Trust : Game → Type 0
Trust g = (events : List Event) (s : State) → Run g events s → Promises g events s

-- Wherever a call may stand it has a reply, and only one.
abbrev pub SomeReply : Game → Type 0
SomeReply g = (s : State) (c : Call) → may_stand s.outcome c ≡ true → (r : Reply) × (t : State) × Answers g s c r t

abbrev pub OneReply : Game → Type 0
OneReply g = (s t u : State) (c : Call) (q r : Reply) → Answers g s c q t → Answers g s c r u → (q ≡ r) × (t ≡ u)
