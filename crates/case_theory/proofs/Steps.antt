-- What one call keeps of the state of a case, and what its reply tells.
use Rattle.std.proofs.Common.{◌≡◌, ℕ, ◌+◌, ◌<◌, Bool, true, cond, ltb, ◌⊎◌, List, length, get_or, set, Some, None, Option, sym, refl, ap, ◌∙◌, subst, inl, inr, arith}
use Rattle.std.proofs.lemmas.List.{length-set, get_or-set_same, get_or-set_other}
use Rattle.std.proofs.lemmas.Bool.{cases_Bool, cases_eq, cond-true, cond-false, lt-ltb, ltb-true}
use Rattle.std.proofs.lemmas.Option.{none-some, same_Some}
use Rattle.game.specs.Game.{Game}
use Rattle.game.specs.Layers.{entry_at}
use Rattle.case_rules.specs.Limits.{within}
use Rattle.case_rules.specs.Outcomes.{Outcome, Solves}
use Rattle.case_rules.specs.Calls.{Call, Answer, Reply, plain, State, unsolved, opened, as_held}
use Rattle.case_rules.specs.Calls.Call.{to_hold, to_free, to_solve, to_reopen, to_verdict, to_issue, to_check}
use Rattle.case_rules.specs.Calls.Answer.{done, solved, told, written, marked, refused}
use Rattle.case_rules.specs.Answers.{Refusal, testing, refusal, Refused, SolvedSo, ToldSo, Issued, CheckedSo, Serves, Replies, Answers}
use Rattle.case_rules.specs.Runs.{Event}
use Rattle.case_rules.specs.Promises.{Settles}
use Rattle.case_theory.proofs.Sizes.{within_says}

-- A call is refused, and changes nothing, or served.
pub answered : (g : Game) (s t : State) (c : Call) (r : Reply) → Answers g s c r t → ((f : Refusal) × (refusal g s c ≡ Some f) × Refused s c f r t) ⊎ ((refusal g s c ≡ None) × Serves g s c r t)
answered g s t c r (_, replies) = by (refusal g s c) refl replies
  where
    by : (o : Option Refusal) → refusal g s c ≡ o → Replies g s c r t o → ((f : Refusal) × (refusal g s c ≡ Some f) × Refused s c f r t) ⊎ ((refusal g s c ≡ None) × Serves g s c r t)
    by None e serves = inr (e, serves)
    by (Some f) e refuses = inl (f, e, refuses)

-- the first test of those that leave no refusal succeeded, and so did the rest
pub tested : (test : Bool) (number place : ℕ) (rest : Option Refusal) → testing test number place rest ≡ None → (test ≡ true) × (rest ≡ None)
tested test number place rest e = elim (cases_Bool test) [
  | inl holds ↦ (holds, sym (cond-true test rest _ holds) ∙ e)
  | inr fails ↦ absurd (none-some _ (sym e ∙ cond-false test rest _ fails))
]

pub testing_true : (test : Bool) (number place : ℕ) (rest : Option Refusal) → test ≡ true → testing test number place rest ≡ rest
testing_true test number place rest e = cond-true test rest _ e

-- What holds of the state at every point: there are 16 entries, and an outcome is that of a solve under them.
pub record Sane (g : Game) (s : State) : Type 0 where
  pub whole : length s.entries ≡ 16
  pub solved_so : (o : Outcome) → s.outcome ≡ Some o → (wanted room : ℕ) × Solves g s.entries wanted room o

pub opened_sane : (g : Game) → Sane g opened
opened_sane g = record { whole = refl; solved_so = λ o e. absurd (none-some o e) }

unsolved_sane : (g : Game) (entries : List (Option ℕ)) → length entries ≡ 16 → Sane g (unsolved entries)
unsolved_sane g entries long = record { whole = long; solved_so = λ o e. absurd (none-some o e) }

served_sane : (g : Game) (s t : State) (c : Call) (r : Reply) → Sane g s → Serves g s c r t → Sane g t
served_sane g s t (to_hold v a) r sane (_, next) = subst (Sane g) (sym next) (unsolved_sane g _ (length-set s.entries v (Some a) ∙ sane.whole))
served_sane g s t (to_free v) r sane (_, next) = subst (Sane g) (sym next) (unsolved_sane g _ (length-set s.entries v None ∙ sane.whole))
served_sane g s t (to_solve wanted cells) r sane (same, so) = record {
  whole = ap length same ∙ sane.whole;
  solved_so = λ o e. (wanted, length cells, subst (λ xs. Solves g xs wanted (length cells) o) (sym same) (subst (SolvedSo g s.entries wanted cells r) e so).0);
}
served_sane g s t to_reopen r sane (_, next) = subst (Sane g) (sym next) (unsolved_sane g s.entries sane.whole)
served_sane g s t (to_verdict v) r sane (_, next) = subst (Sane g) (sym next) sane
served_sane g s t (to_issue player output cells) r sane (_, next) = subst (Sane g) (sym next) sane
served_sane g s t (to_check plan) r sane (_, _, next) = subst (Sane g) (sym next) sane

pub stays_sane : (g : Game) (s t : State) (c : Call) (r : Reply) → Sane g s → Answers g s c r t → Sane g t
stays_sane g s t c r sane answers = elim (answered g s t c r answers) [
  | inl (_, _, (_, next)) ↦ subst (Sane g) (sym next) sane
  | inr (_, serves) ↦ served_sane g s t c r sane serves
]

-- answers of two kinds are not the same
abbrev pub kind : Answer → ℕ
kind done = 0
kind (solved o) = 1
kind (told verdict) = 2
kind (written count) = 3
kind (marked mark) = 4
kind (refused number place) = 5

pub unlike : (a x y : Answer) → a ≡ x → a ≡ y → (kind x ≡ kind y → ⊥) → ⊥
unlike a x y one two apart = apart (ap kind (sym one ∙ two))

solved_same : (o p : Outcome) → solved o ≡ solved p → o ≡ p
solved_same o p e = cc

solved_or_not : (a : Answer) → ((p : Outcome) × (a ≡ solved p)) ⊎ ((p : Outcome) → a ≡ solved p → ⊥)
solved_or_not done = inr (λ p e. unlike done done (solved p) refl e (λ z. omega arith))
solved_or_not (solved o) = inl (o, refl)
solved_or_not (told verdict) = inr (λ p e. unlike (told verdict) (told verdict) (solved p) refl e (λ z. omega arith))
solved_or_not (written count) = inr (λ p e. unlike (written count) (written count) (solved p) refl e (λ z. omega arith))
solved_or_not (marked mark) = inr (λ p e. unlike (marked mark) (marked mark) (solved p) refl e (λ z. omega arith))
solved_or_not (refused number place) = inr (λ p e. unlike (refused number place) (refused number place) (solved p) refl e (λ z. omega arith))

-- The answer of a solve: its outcome is that of a solve under the entries, and the one that the call leaves.
module _ (g : Game) (s t : State) (r : Reply) where
  abbrev pub Gave : Outcome → Type 0
  Gave o = ((wanted room : ℕ) × Solves g s.entries wanted room o) × (t.outcome ≡ Some o)

  not_done : (o : Outcome) → r ≡ plain done → r.answer ≡ solved o → ⊥
  not_done o is e = unlike r.answer done (solved o) (ap (λ (y : Reply). y.answer) is) e (λ z. omega arith)

  not_told : (q : Option Outcome) (v : ℕ) (o : Outcome) → ToldSo q v r → r.answer ≡ solved o → ⊥
  not_told None v o so e = so
  not_told (Some p) v o so e = unlike r.answer (told (p.verdicts v)) (solved o) (ap (λ (y : Reply). y.answer) so) e (λ z. omega arith)

  not_written : (player : ℕ) (output cells : List ℕ) (o : Outcome) → Issued g (as_held g s) player output cells r → r.answer ≡ solved o → ⊥
  not_written player output cells o so e = unlike r.answer (written (g.size + 2)) (solved o) so.count e (λ z. omega arith)

  gave_so : (q : Option Outcome) → t.outcome ≡ q → (wanted : ℕ) (cells : List ℕ) (o : Outcome) → SolvedSo g s.entries wanted cells r q → r.answer ≡ solved o → Gave o
  gave_so None left wanted cells o so e = absurd so
  gave_so (Some p) left wanted cells o (solves, is) e =
      let same = solved_same p o (sym (ap (λ (y : Reply). y.answer) is) ∙ e) in
      ((wanted, length cells, subst (Solves g s.entries wanted (length cells)) same solves), left ∙ ap Some same)

  served_gave : (c : Call) (o : Outcome) → Serves g s c r t → r.answer ≡ solved o → Gave o
  served_gave (to_hold v a) o (is, _) e = absurd (not_done o is e)
  served_gave (to_free v) o (is, _) e = absurd (not_done o is e)
  served_gave (to_solve wanted cells) o (_, so) e = gave_so t.outcome refl wanted cells o so e
  served_gave to_reopen o (is, _) e = absurd (not_done o is e)
  served_gave (to_verdict v) o (so, _) e = absurd (not_told s.outcome v o so e)
  served_gave (to_issue player output cells) o (so, _) e = absurd (not_written player output cells o so e)
  served_gave (to_check plan) o (_, so, _) e = absurd (subst (CheckedSo (as_held g s) plan) e so)

  module _ (c : Call) where
    -- a refused call answers none of these
    pub refused_not : (f : Refusal) (a : Answer) → Refused s c f r t → r.answer ≡ a → (5 ≡ kind a → ⊥) → ⊥
    refused_not f a (is, _) e other = unlike r.answer (refused f.number f.place) a (ap (λ (y : Reply). y.answer) is) e other

    pub gave : Answers g s c r t → (o : Outcome) → r.answer ≡ solved o → Gave o
    gave answers o e = elim (answered g s t c r answers) [
      | inl (f, _, refuses) ↦ absurd (refused_not f (solved o) refuses e (λ z. omega arith))
      | inr (_, serves) ↦ served_gave c o serves e
    ]

-- where a case is solved after a call, the call gave the outcome, or it was there before
left_by : (g : Game) (s t : State) (c : Call) (r : Reply) (o : Outcome) → Serves g s c r t → t.outcome ≡ Some o → (r.answer ≡ solved o) ⊎ (s.outcome ≡ Some o)
left_by g s t (to_hold v a) r o (_, next) e = absurd (none-some o (sym (ap (λ (u : State). u.outcome) next) ∙ e))
left_by g s t (to_free v) r o (_, next) e = absurd (none-some o (sym (ap (λ (u : State). u.outcome) next) ∙ e))
left_by g s t (to_solve wanted cells) r o (_, so) e = inl (ap (λ (y : Reply). y.answer) (subst (SolvedSo g s.entries wanted cells r) e so).1)
left_by g s t to_reopen r o (_, next) e = absurd (none-some o (sym (ap (λ (u : State). u.outcome) next) ∙ e))
left_by g s t (to_verdict v) r o (_, next) e = inr (sym (ap (λ (u : State). u.outcome) next) ∙ e)
left_by g s t (to_issue player output cells) r o (_, next) e = inr (sym (ap (λ (u : State). u.outcome) next) ∙ e)
left_by g s t (to_check plan) r o (_, _, next) e = inr (sym (ap (λ (u : State). u.outcome) next) ∙ e)

pub outcome_from : (g : Game) (s t : State) (c : Call) (r : Reply) (o : Outcome) → Answers g s c r t → t.outcome ≡ Some o → (r.answer ≡ solved o) ⊎ ((s.outcome ≡ Some o) × ((p : Outcome) → r.answer ≡ solved p → ⊥))
outcome_from g s t c r o answers e = elim (solved_or_not r.answer) [
  | inl (p, gives) ↦ inl (gives ∙ ap solved (same_Some p o (sym (gave g s t r c answers p gives).1 ∙ e)))
  | inr none ↦ elim (answered g s t c r answers) [
    | inl (_, _, (_, next)) ↦ inr (sym (ap (λ (u : State). u.outcome) next) ∙ e, none)
    | inr (_, serves) ↦ elim (left_by g s t c r o serves e) [
      | inl gives ↦ absurd (none o gives)
      | inr before ↦ inr (before, none)
    ]
  ]
]

-- the position where a call holds or frees
settled_at : Call → Option ℕ
settled_at (to_hold v a) = Some v
settled_at (to_free v) = Some v
settled_at (to_solve wanted cells) = None
settled_at to_reopen = None
settled_at (to_verdict v) = None
settled_at (to_issue player output cells) = None
settled_at (to_check plan) = None

settles_at : (v : ℕ) (e : Event) → Settles v e → settled_at e.call ≡ Some v
unfolding settled_at
settles_at v e (_, inl (a, is)) = ap settled_at is
settles_at v e (_, inr is) = ap settled_at is

-- the entries after one is set
set_here : (entries : List (Option ℕ)) (v : ℕ) (x : Option ℕ) → v < 16 → length entries ≡ 16 → entry_at (set entries v x) v ≡ x
set_here entries v x low long = cond-true (ltb v 16) (get_or (set entries v x) v None) None (lt-ltb v 16 low) ∙ get_or-set_same entries v x None (omega arith)

set_elsewhere : (entries : List (Option ℕ)) (w v : ℕ) (x : Option ℕ) → (v ≡ w → ⊥) → entry_at (set entries w x) v ≡ entry_at entries v
set_elsewhere entries w v x apart = ap (λ y. cond (ltb v 16) y None) (get_or-set_other entries w v x None apart)

module _ (g : Game) (s t : State) (r : Reply) where
  -- The call holds an arc at the position, frees it, or leaves its entry alone.
  abbrev pub HoldsNow : Call → ℕ → Type 0
  HoldsNow c v = (a : ℕ) × (r.answer ≡ done) × (c ≡ to_hold v a) × (entry_at t.entries v ≡ Some a)

  abbrev pub FreesNow : Call → ℕ → Type 0
  FreesNow c v = (r.answer ≡ done) × (c ≡ to_free v) × (entry_at t.entries v ≡ None)

  abbrev pub event : Call → Event
  event c = record { call = c; reply = r; before = s; after = t }

  abbrev pub LeavesAlone : Call → ℕ → Type 0
  LeavesAlone c v = (Settles v (event c) → ⊥) × (entry_at t.entries v ≡ entry_at s.entries v)

  neither : (c : Call) (v : ℕ) → settled_at c ≡ None → t.entries ≡ s.entries → LeavesAlone c v
  neither c v none same = ((λ settles. none-some v (sym none ∙ settles_at v (event c) settles)), ap (λ xs. entry_at xs v) same)

  elsewhere : (c : Call) (w v : ℕ) (x : Option ℕ) → settled_at c ≡ Some w → (v ≡ w → ⊥) → t.entries ≡ set s.entries w x → LeavesAlone c v
  elsewhere c w v x at apart next = (
    λ settles. apart (sym (same_Some w v (sym at ∙ settles_at v (event c) settles))),
    ap (λ xs. entry_at xs v) next ∙ set_elsewhere s.entries w v x apart,
  )

  served_settles : (c : Call) (v : ℕ) → Sane g s → refusal g s c ≡ None → Serves g s c r t → HoldsNow c v ⊎ (FreesNow c v ⊎ LeavesAlone c v)
  unfolding settled_at
  served_settles (to_hold w a) v sane free (is, next) = elim (cases_eq v w) [
    | inl e ↦
        let one = tested (within g) 10 0 _ free in
        let two = tested (ltb w g.size) 11 w _ one.1 in
        let low = ltb-true w g.size two.0 in
        let few = (within_says g one.0).few in
        let here = set_here s.entries v (Some a) (omega arith) sane.whole in
        inl (a, ap (λ (y : Reply). y.answer) is, ap (λ x. to_hold x a) (sym e), ap (λ (u : State). entry_at u.entries v) next ∙ ap (λ x. entry_at (set s.entries x (Some a)) v) (sym e) ∙ here)
    | inr apart ↦ inr (inr (elsewhere (to_hold w a) w v (Some a) refl apart (ap (λ (u : State). u.entries) next)))
  ]
  served_settles (to_free w) v sane free (is, next) = elim (cases_eq v w) [
    | inl e ↦
        let one = tested (within g) 10 0 _ free in
        let two = tested (ltb w g.size) 11 w _ one.1 in
        let low = ltb-true w g.size two.0 in
        let few = (within_says g one.0).few in
        let here = set_here s.entries v None (omega arith) sane.whole in
        inr (inl (ap (λ (y : Reply). y.answer) is, ap to_free (sym e), ap (λ (u : State). entry_at u.entries v) next ∙ ap (λ x. entry_at (set s.entries x None) v) (sym e) ∙ here))
    | inr apart ↦ inr (inr (elsewhere (to_free w) w v None refl apart (ap (λ (u : State). u.entries) next)))
  ]
  served_settles (to_solve wanted cells) v sane free (same, _) = inr (inr (neither (to_solve wanted cells) v refl same))
  served_settles to_reopen v sane free (_, next) = inr (inr (neither to_reopen v refl (ap (λ (u : State). u.entries) next)))
  served_settles (to_verdict w) v sane free (_, next) = inr (inr (neither (to_verdict w) v refl (ap (λ (u : State). u.entries) next)))
  served_settles (to_issue player output cells) v sane free (_, next) = inr (inr (neither (to_issue player output cells) v refl (ap (λ (u : State). u.entries) next)))
  served_settles (to_check plan) v sane free (_, _, next) = inr (inr (neither (to_check plan) v refl (ap (λ (u : State). u.entries) next)))

  pub settles_or_not : (c : Call) (v : ℕ) → Sane g s → Answers g s c r t → HoldsNow c v ⊎ (FreesNow c v ⊎ LeavesAlone c v)
  settles_or_not c v sane answers = elim (answered g s t c r answers) [
    | inr (free, serves) ↦ served_settles c v sane free serves
    | inl (f, _, refuses) ↦ inr (inr (
      (λ settles. refused_not g s t r c f done refuses settles.0 (λ z. omega arith)),
      ap (λ (u : State). entry_at u.entries v) refuses.1,
    ))
  ]
