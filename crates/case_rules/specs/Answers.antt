-- What each call on a case answers, and the state that it leaves.
use Rattle.std.specs.Prelude.{◌≡◌, ℕ, ◌+◌, Bool, true, false, cond, List, length, take, drop, Some, None, Option, ◌==◌, nat_le, nat_lt, slice_set}
use Rattle.game.specs.declared.Player.{Player}
use Rattle.game.specs.declared.Player.TheVariants.{Even, Odd}
use Rattle.game.specs.Game.{Game}
use Rattle.game.specs.Plans.{Belongs}
use Rattle.heights.specs.Sweeps.{zeroed}
use Rattle.plans.specs.declared.fault.PlanFault.{PlanFault}
use Rattle.plans.specs.Judging.{FormedAndMarked}
use Rattle.plans.specs.Refusals.{number_of, place_of, Refuses}
use Rattle.case_rules.specs.Limits.{within, needed, cells_for}
use Rattle.case_rules.specs.Outcomes.{Outcome, Solves, FirstWinning}
use Rattle.case_rules.specs.Calls.{Call, Answer, Reply, plain, output_of, cells_of, State, unsolved, as_held}
use Rattle.case_rules.specs.Calls.Call.{to_hold, to_free, to_solve, to_reopen, to_verdict, to_issue, to_check}
use Rattle.case_rules.specs.Calls.Answer.{done, solved, told, written, marked, refused}

-- hold, free and solve stand on a case; reopen, verdict and issue on a solved one; check on either.
abbrev pub on_unsolved : Call → Bool
on_unsolved (to_hold v a) = true
on_unsolved (to_free v) = true
on_unsolved (to_solve wanted cells) = true
on_unsolved to_reopen = false
on_unsolved (to_verdict v) = false
on_unsolved (to_issue player output cells) = false
on_unsolved (to_check plan) = true

abbrev pub on_solved : Call → Bool
on_solved (to_hold v a) = false
on_solved (to_free v) = false
on_solved (to_solve wanted cells) = false
on_solved to_reopen = true
on_solved (to_verdict v) = true
on_solved (to_issue player output cells) = true
on_solved (to_check plan) = true

abbrev pub may_stand : Option Outcome → Call → Bool
may_stand None c = on_unsolved c
may_stand (Some o) c = on_solved c

-- A refusal: its number and its place. A test that fails gives its refusal; one that succeeds leaves it to the rest.
pub record Refusal : Type 0 where
  pub number : ℕ
  pub place : ℕ

abbrev pub testing : Bool → ℕ → ℕ → Option Refusal → Option Refusal
testing test number place rest = cond test rest (Some (record { number = number; place = place }))

abbrev pub outcome_is_full : Option Outcome → Bool
outcome_is_full None = false
outcome_is_full (Some o) = o.full

-- The first refusal that applies, in the order in which a call tests them. What plans are refused for stands with check.
abbrev pub refusal : Game → State → Call → Option Refusal
refusal g s (to_hold v a) = testing (within g) 10 0 (testing (nat_lt v g.size) 11 v (testing (nat_lt a (length (g.arcs v))) 12 v None))
refusal g s (to_free v) = testing (within g) 10 0 (testing (nat_lt v g.size) 11 v None)
refusal g s (to_solve wanted cells) = None
refusal g s to_reopen = None
refusal g s (to_verdict v) = testing (within g) 10 0 (testing (nat_lt v g.size) 11 v None)
refusal g s (to_issue player output cells) = testing (within g) 10 0 (testing (nat_le player 1) 13 0 (testing (outcome_is_full s.outcome) 14 0
    (testing (nat_le (g.size + 2) (length output)) 15 (g.size + 2) (testing (nat_le (cells_for g (needed g)) (length cells)) 16 (cells_for g (needed g)) None))))
refusal g s (to_check plan) = testing (within g) 10 0 None

-- A refused call answers number and place, writes to no buffer and changes nothing.
abbrev pub Refused : State → Call → Refusal → Reply → State → Type 0
Refused s c f r t = (r ≡ record { answer = refused f.number f.place; output = output_of c; cells = cells_of c }) × (t ≡ s)

-- The cells after a solve: the first that it used are zero, none where no registers were used.
abbrev pub cleared_after : Game → ℕ → List ℕ → List ℕ
cleared_after g used cells = cond (used == 0) cells (zeroed (cells_for g used) cells)

-- solve: the state after it has the outcome, which is also the answer.
abbrev pub SolvedSo : Game → List (Option ℕ) → ℕ → List ℕ → Reply → Option Outcome → Type 0
SolvedSo g entries wanted cells r None = ⊥
SolvedSo g entries wanted cells r (Some o) =
    Solves g entries wanted (length cells) o × (r ≡ record { answer = solved o; output = output_of (to_solve wanted cells); cells = cleared_after g o.used cells })

-- verdict: what the last solve gave.
abbrev pub ToldSo : Option Outcome → ℕ → Reply → Type 0
ToldSo None v r = ⊥
ToldSo (Some o) v r = r ≡ plain (told (o.verdicts v))

-- issue: the first winning plan that claims exactly what belongs to the player, before the rest of the output; the cells that it may have used are zero.
abbrev pub numbered : ℕ → Player
numbered n = cond (n == 0) Even Odd

pub record Issued (g h : Game) (player : ℕ) (output cells : List ℕ) (r : Reply) : Type 0 where
  pub count : r.answer ≡ written (g.size + 2)
  pub plan : FirstWinning h (numbered player) (Belongs h (numbered player)) (take (g.size + 2) r.output)
  pub rest : drop (g.size + 2) r.output ≡ drop (g.size + 2) output
  pub cleared : r.cells ≡ zeroed (cells_for g (needed g)) cells

-- check: the mark of the plan that the bytes are on the arena as held, or why they are none.
abbrev pub CheckedSo : Game → List ℕ → Answer → Type 0
CheckedSo h plan done = ⊥
CheckedSo h plan (solved o) = ⊥
CheckedSo h plan (told verdict) = ⊥
CheckedSo h plan (written count) = ⊥
CheckedSo h plan (marked mark) = FormedAndMarked h plan mark
CheckedSo h plan (refused number place) = (fault : PlanFault) × Refuses h plan fault × (number ≡ number_of fault) × (place ≡ place_of fault)

-- What a call answers that is not refused, and the state after it.
abbrev pub Serves : Game → State → Call → Reply → State → Type 0
Serves g s (to_hold v a) r t = (r ≡ plain done) × (t ≡ unsolved (slice_set s.entries v (Some a)))
Serves g s (to_free v) r t = (r ≡ plain done) × (t ≡ unsolved (slice_set s.entries v None))
Serves g s (to_solve wanted cells) r t = (t.entries ≡ s.entries) × SolvedSo g s.entries wanted cells r t.outcome
Serves g s to_reopen r t = (r ≡ plain done) × (t ≡ unsolved s.entries)
Serves g s (to_verdict v) r t = ToldSo s.outcome v r × (t ≡ s)
Serves g s (to_issue player output cells) r t = Issued g (as_held g s) player output cells r × (t ≡ s)
Serves g s (to_check plan) r t = (r ≡ plain r.answer) × CheckedSo (as_held g s) plan r.answer × (t ≡ s)

abbrev pub Replies : Game → State → Call → Reply → State → Option Refusal → Type 0
Replies g s c r t None = Serves g s c r t
Replies g s c r t (Some f) = Refused s c f r t

-- The call may stand in the state, and this is its reply and the state that it leaves.
abbrev pub Answers : Game → State → Call → Reply → State → Type 0
Answers g s c r t = (may_stand s.outcome c ≡ true) × Replies g s c r t (refusal g s c)
