-- What each call keeps: verdicts are true, a plan passes check exactly when it wins, and issue gives the first winning plan.
use Rattle.std.proofs.Common.{◌≡◌, ℕ, ◌+◌, true, leb, ◌↔◌, List, length, Some, None, Option, sym, refl, ap, ◌∙◌, subst, inl, inr, arith}
use Rattle.std.proofs.lemmas.Bool.{le-leb}
use Rattle.std.proofs.lemmas.Option.{none-some}
use Rattle.game.specs.declared.Player.{Player}
use Rattle.game.specs.Game.{Game, Lawful}
use Rattle.game.specs.Plans.{Wins, Belongs}
use Rattle.plans.specs.declared.mark.Mark.TheVariants.{Passes}
use Rattle.plans.specs.Bytes.{plan_of, WellFormed}
use Rattle.plans.proofs.Complete.{faults_complete}
use Rattle.plans.proofs.Winning.{marks_complete}
use Rattle.case_rules.specs.Limits.{within, needed, cells_for}
use Rattle.case_rules.specs.Outcomes.{Outcome, FirstWinning}
use Rattle.case_rules.specs.Calls.{Call, Answer, Reply, State, as_held}
use Rattle.case_rules.specs.Calls.Call.{to_verdict, to_issue, to_check}
use Rattle.case_rules.specs.Calls.Answer.{done, solved, told, written, marked, refused}
use Rattle.case_rules.specs.Answers.{refusal, outcome_is_full, numbered, ToldSo, Issued, CheckedSo, Serves, Answers}
use Rattle.case_rules.specs.Promises.{SolveTrue, Enough, Sound}
use Rattle.case_theory.proofs.Outcomes.{verdict_belongs, none_open, few_raises, full_says, full_exact}
use Rattle.case_theory.proofs.Issuing.{belongs_exact, first_winning_alike}
use Rattle.case_theory.proofs.Steps.{answered, refused_not, event, testing_true, Sane, stays_sane}

told_same : (a b : Option Player) → told a ≡ told b → a ≡ b
told_same a b e = cc

-- a call for which no refusal applies is served
pub served : (g : Game) (s t : State) (c : Call) (r : Reply) → refusal g s c ≡ None → Answers g s c r t → Serves g s c r t
served g s t c r none answers = elim (answered g s t c r answers) [
  | inl (f, some, _) ↦ absurd (none-some f (sym none ∙ some))
  | inr (_, serves) ↦ serves
]

-- a winning plan has no other mark than that it passes, and no fault
passes_so : (h : Game) (plan : List ℕ) (a : Answer) → CheckedSo h plan a → WellFormed h plan → Wins h (plan_of h.size plan) → a ≡ marked Passes
passes_so h plan done so formed wins = absurd so
passes_so h plan (solved o) so formed wins = absurd so
passes_so h plan (told verdict) so formed wins = absurd so
passes_so h plan (written count) so formed wins = absurd so
passes_so h plan (marked mark) so formed wins = ap marked (marks_complete.one_mark h (plan_of h.size plan) mark Passes so.1 ((marks_complete.passing_is_winning h plan formed).1 wins))
passes_so h plan (refused number place) (fault, refuses, _, _) formed wins = absurd (faults_complete.not_both h plan fault formed refuses)

module _ (g : Game) (lawful : Lawful g) (s t : State) (r : Reply) (sane : Sane g s) where
  told_true : (player : Player) (v : ℕ) (q : Option Outcome) → s.outcome ≡ q → ToldSo q v r → r.answer ≡ told (Some player) → Belongs (as_held g s) player v
  told_true player v None is so e = absurd so
  told_true player v (Some o) is so e =
      let (_, _, solves) = sane.solved_so o is in
      verdict_belongs g lawful s.entries solves player v (told_same (o.verdicts v) (Some player) (sym (ap (λ (y : Reply). y.answer) so) ∙ e))

  verdict_true : (player : Player) (v : ℕ) → Answers g s (to_verdict v) r t → r.answer ≡ told (Some player) → Belongs (as_held g s) player v
  verdict_true player v answers e = elim (answered g s t (to_verdict v) r answers) [
    | inl (f, _, refuses) ↦ absurd (refused_not g s t r (to_verdict v) f (told (Some player)) refuses e (λ z. omega arith))
    | inr (_, (so, _)) ↦ told_true player v s.outcome refl so e
  ]

  check_exact : (plan : List ℕ) → Answers g s (to_check plan) r t → within g ≡ true → WellFormed (as_held g s) plan → (r.answer ≡ marked Passes) ↔ Wins (as_held g s) (plan_of g.size plan)
  check_exact plan answers inside formed =
      let so : CheckedSo (as_held g s) plan r.answer = (served g s t (to_check plan) r (testing_true (within g) 10 0 None inside) answers).1 in (
        λ e. (marks_complete.passing_is_winning (as_held g s) plan formed).0 (subst (CheckedSo (as_held g s) plan) e so).1,
        λ wins. passes_so (as_held g s) plan r.answer so formed wins,
      )

  -- with enough of everything issue is not refused
  issue_unrefused : (player : ℕ) (output cells : List ℕ) (o : Outcome) → s.outcome ≡ Some o → Enough g player output cells o → refusal g s (to_issue player output cells) ≡ None
  issue_unrefused player output cells o is enough =
      let (_, _, solves) = sane.solved_so o is in
      testing_true (within g) 10 0 _ (full_says g lawful s.entries solves enough.full).0 ∙
      testing_true (leb player 1) 13 0 _ (le-leb player 1 enough.is_player) ∙
      testing_true (outcome_is_full s.outcome) 14 0 _ (ap outcome_is_full is ∙ enough.full) ∙
      testing_true (leb (g.size + 2) (length output)) 15 (g.size + 2) _ (le-leb (g.size + 2) (length output) enough.output_enough) ∙
      testing_true (leb (cells_for g (needed g)) (length cells)) 16 (cells_for g (needed g)) None (le-leb (cells_for g (needed g)) (length cells) enough.cells_enough)

  issue_first : (player : ℕ) (output cells : List ℕ) (o : Outcome) → Answers g s (to_issue player output cells) r t → s.outcome ≡ Some o → Enough g player output cells o → Issued g (as_held g s) player output cells r
  issue_first player output cells o answers is enough =
      (served g s t (to_issue player output cells) r (issue_unrefused player output cells o is enough) answers).0

  -- what belongs to the player are the positions with the player's verdict
  plan_given : (player : Player) (o : Outcome) (bytes : List ℕ) → s.outcome ≡ Some o → o.full ≡ true → FirstWinning (as_held g s) player (Belongs (as_held g s) player) bytes → FirstWinning (as_held g s) player (λ v. o.verdicts v ≡ Some player) bytes
  plan_given player o bytes is full =
      let (_, _, solves) = sane.solved_so o is in
      first_winning_alike (as_held g s) player (Belongs (as_held g s) player) (λ v. o.verdicts v ≡ Some player) (λ v there.
      let mine = belongs_exact (as_held g s) player v there in
      let told = full_exact g lawful s.entries solves full player v there in
      (λ belongs. told.1 (mine.0 belongs), λ verdict. mine.1 (told.0 verdict))) bytes

  solve_true : Sane g t → (o : Outcome) → t.outcome ≡ Some o → SolveTrue g t o
  solve_true next o is =
      let (_, _, solves) = next.solved_so o is in
      record {
        belongs = verdict_belongs g lawful t.entries solves;
        none_open = none_open g lawful t.entries solves;
        few_raises = few_raises g lawful t.entries solves;
      }

  pub call_sound : (c : Call) → Answers g s c r t → Sound g (event g s t r c)
  call_sound c answers = record {
    solve_true = solve_true (stays_sane g s t c r sane answers);
    verdict_true = λ player v is e. verdict_true player v (so is) e;
    check_exact = λ plan is. check_exact plan (so is);
    issue_first = λ player output cells o is before enough. (
        let issued = issue_first player output cells o (so is) before enough in
        record { replied = issued.count; first_winning = plan_given (numbered player) o _ before enough.full issued.plan });
  }
    where
      so : {d : Call} → c ≡ d → Answers g s d r t
      so is = subst (λ (x : Call). Answers g s x r t) is answers
