-- Wherever a call may stand it has a reply.
use Rattle.std.proofs.Common.{◌≡◌, ℕ, zero, suc, ◌+◌, ◌*◌, ◌<◌, ◌≤◌, true, false, ◌&&◌, eqb, ◌⊎◌, List, ◌++◌, length, drop, set, Some, None, Option, sym, refl, subst, inl, inr, arith}
use Rattle.std.proofs.lemmas.List.{take_at, drop_at}
use Rattle.std.proofs.lemmas.Bool.{cases_lt, cases_eq, both_ways}
use Rattle.game.specs.declared.Player.{Player}
use Rattle.game.specs.declared.Player.TheVariants.{Even, Odd}
use Rattle.game.specs.Game.{Game, Lawful}
use Rattle.game.specs.Layers.{held}
use Rattle.game.proofs.Layers.{held_lawful}
use Rattle.heights.specs.Sweeps.{zeroed}
use Rattle.heights.specs.Climb.{lost}
use Rattle.heights.proofs.Taking.{sweeps_take_lem}
use Rattle.registers.specs.Layer.{row_count, registers}
use Rattle.register_theory.specs.First.{solved_for, KeptFor}
use Rattle.register_theory.proofs.Exist.{heights_exist}
use Rattle.register_theory.proofs.More.{kept_by_least}
use Rattle.plans.specs.Refusals.{number_of, place_of}
use Rattle.plans.proofs.Complete.{faults_complete}
use Rattle.plans.proofs.Winning.{marks_complete}
use Rattle.game.specs.Plans.{Belongs}
use Rattle.case_rules.specs.Limits.{within, needed, cells_for, Fitting, IsUsed}
use Rattle.case_rules.specs.Outcomes.{Outcome, Decides, Decided, RaisesFor, Raised, Solves}
use Rattle.case_rules.specs.Calls.{Call, Reply, plain, output_of, cells_of, State, unsolved, as_held}
use Rattle.case_rules.specs.Calls.Call.{to_hold, to_free, to_solve, to_reopen, to_verdict, to_issue, to_check}
use Rattle.case_rules.specs.Calls.Answer.{done, told, written, marked, refused}
use Rattle.case_rules.specs.Answers.{may_stand, Refusal, refusal, numbered, ToldSo, Issued, Serves, Replies, Answers}
use Rattle.case_rules.specs.Promises.{SomeReply}
use Rattle.case_theory.proofs.Sizes.{within_says, needed_says, solved_size}
use Rattle.case_theory.proofs.Outcomes.{lawful_for, standing, swept_lawful, swept_top, limits}
use Rattle.case_theory.proofs.Steps.{tested}
use Rattle.case_theory.proofs.Unique.{solve_reply}
use Rattle.case_theory.proofs.Issuing.{belongs_exact, first_winning_from, first_bytes}

-- the most registers that fit are found by going through the numbers
module _ (g : Game) (wanted room : ℕ) where
  fitting_or_not : (r : ℕ) → Fitting g wanted room r ⊎ (Fitting g wanted room r → ⊥)
  fitting_or_not r = elim (cases_lt wanted r) [
    | inl more ↦ inr (λ fits. (let l = fits.0 in omega arith))
    | inr few ↦ elim (cases_lt (needed g) r) [
      | inl more ↦ inr (λ fits. (let l = fits.1 in omega arith))
      | inr less ↦ elim (cases_eq r 0) [
        | inl none ↦ inl (few, less, inl none)
        | inr some ↦ elim (cases_lt room (cells_for g r)) [
          | inr fit ↦ inl (few, less, inr fit)
          | inl short ↦ inr (λ fits. elim fits.2 [ inl none ↦ some none | inr fit ↦ omega arith ])
        ]
      ]
    ]
  ]

  most_fitting : (n : ℕ) → (r : ℕ) × Fitting g wanted room r × ((q : ℕ) → q ≤ n → Fitting g wanted room q → q ≤ r)
  most_fitting zero = (0, (omega arith, omega arith, inl refl), λ q below _. below)
  most_fitting (suc n) = elim (fitting_or_not (suc n)) [
    | inl fits ↦ (suc n, fits, λ q below _. below)
    | inr not_fitting ↦
        let (r, fits, most) = most_fitting n in (
          r,
          fits,
          λ q below fits_q. elim (cases_eq q (suc n)) [
            | inl same ↦ absurd (not_fitting (subst (Fitting g wanted room) same fits_q))
            | inr apart ↦ most q (omega arith) fits_q
          ],
        )
  ]

  some_used : (r : ℕ) × IsUsed g wanted room r
  some_used = let (r, fits, most) = most_fitting (needed g) in (r, record { fitting = fits; most = λ q fits_q. most q fits_q.1 fits_q })

module _ (g : Game) (lawful : Lawful g) (entries : List (Option ℕ)) where
  module _ (r : ℕ) (some : 1 ≤ r) (few : r ≤ needed g) where
    -- the least heights tell whether a position is kept
    kept_or_not : (player : Player) (v : ℕ) → v < g.size → KeptFor r (held entries g) player v ⊎ (KeptFor r (held entries g) player v → ⊥)
    kept_or_not player v there =
        let h : Game = solved_for player (held entries g) in
        let stand = standing g lawful entries r some few player in
        let (height, least) = heights_exist r h (lawful_for g lawful entries player) stand in
        let size = solved_size entries g (limits g lawful entries r some few) player in
        let tells = kept_by_least r h stand height least v (omega arith) in
        elim (cases_lt (height (v * row_count r h)) (lost h.size r)) [
          | inl below ↦ inl (tells.1 below)
          | inr out ↦ inr (λ kept. (let below = tells.0 kept in omega arith))
        ]

    one_verdict : (v : ℕ) → v < g.size → (x : Option Player) × Decides r (held entries g) v x
    one_verdict v there = elim (kept_or_not Even v there) [
      | inl kept ↦ (Some Even, kept)
      | inr not_even ↦ elim (kept_or_not Odd v there) [
        | inl kept ↦ (Some Odd, kept)
        | inr not_odd ↦ (None, neither v not_even not_odd)
      ]
    ]
      where
        neither : (v : ℕ) → (KeptFor r (held entries g) Even v → ⊥) → (KeptFor r (held entries g) Odd v → ⊥) → (player : Player) → KeptFor r (held entries g) player v → ⊥
        neither v not_even not_odd Even = not_even
        neither v not_even not_odd Odd = not_odd

    verdict_at : (v : ℕ) → (x : Option Player) × (v < g.size → Decides r (held entries g) v x) × (g.size ≤ v → x ≡ None)
    verdict_at v = elim (cases_lt v g.size) [
      | inl there ↦ (let (x, says) = one_verdict v there in (x, (λ _. says), λ past. absurd (omega arith)))
      | inr past ↦ (None, (λ there. absurd (omega arith)), λ _. refl)
    ]

    all_verdicts : (verdicts : ℕ → Option Player) × Decided r (held entries g) verdicts
    all_verdicts = (
      λ v. (verdict_at v).0,
      record {
        by_registers = λ v _ there. (verdict_at v).1 there;
        by_none = λ v why. elim why [ inl none ↦ absurd (omega arith) | inr past ↦ (verdict_at v).2 past ];
      },
    )

    some_raises : (player : Player) → (k : ℕ) × RaisesFor r (held entries g) player k
    some_raises player =
        let one = (needed_says g (omega arith)).1 in
        let top = swept_top g lawful entries r some few player in
        sweeps_take_lem.some g.size r (registers r (solved_for player (held entries g))) one (swept_lawful g lawful entries r some few player) (omega arith)

  some_verdicts : (r : ℕ) → r ≤ needed g → (verdicts : ℕ → Option Player) × Decided r (held entries g) verdicts
  some_verdicts zero few = ((λ v. None), record { by_registers = λ v some there. absurd (omega arith); by_none = λ v _. refl })
  some_verdicts (suc r) few = all_verdicts (suc r) (omega arith) few

  all_raises : (r : ℕ) → r ≤ needed g → (k : ℕ) × Raised r (held entries g) k
  all_raises zero few = (0, refl)
  all_raises (suc r) few =
      let (even, for_even) = some_raises (suc r) (omega arith) few Even in
      let (odd, for_odd) = some_raises (suc r) (omega arith) few Odd in
      (even + odd, (even, odd, for_even, for_odd, refl))

  some_outcome : (wanted room : ℕ) → (o : Outcome) × Solves g entries wanted room o
  some_outcome wanted room =
      let (r, used) = some_used g wanted room in
      let (verdicts, decided) = some_verdicts r used.fitting.1 in
      let (raises, raised) = all_raises r used.fitting.1 in (
        record { used = r; needed = needed g; full = within g && eqb r (needed g); raises = raises; verdicts = verdicts },
        record { is_used = used; is_needed = refl; is_full = refl; decided = decided; raised = raised },
      )

some_telling : (q : Option Outcome) (v : ℕ) → may_stand q (to_verdict v) ≡ true → (r : Reply) × ToldSo q v r
some_telling None v stands = absurd (both_ways false refl stands)
some_telling (Some o) v stands = (plain (told (o.verdicts v)), refl)

module _ (g : Game) (lawful : Lawful g) (s : State) where
  some_issue : (player : ℕ) (output cells : List ℕ) → within g ≡ true → (r : Reply) × Issued g (as_held g s) player output cells r
  some_issue player output cells inside =
      let (bytes, formed, first) = first_bytes (as_held g s) (numbered player) (held_lawful s.entries g lawful) (within_says g inside).few in
      let long = formed.headed.whole in
      let plan = first_winning_from (as_held g s) (numbered player) (Belongs (as_held g s) (numbered player)) (belongs_exact (as_held g s) (numbered player)) bytes formed first in
      let rest : List ℕ = drop (g.size + 2) output in (
        record { answer = written (g.size + 2); output = bytes ++ rest; cells = zeroed (cells_for g (needed g)) cells },
        record { count = refl; plan = rw (take_at bytes rest (g.size + 2) long) plan; rest = drop_at bytes rest (g.size + 2) long; cleared = refl },
      )

  some_service : (c : Call) → may_stand s.outcome c ≡ true → refusal g s c ≡ None → (r : Reply) × (t : State) × Serves g s c r t
  some_service (to_hold v a) stands free = (plain done, unsolved (set s.entries v (Some a)), (refl, refl))
  some_service (to_free v) stands free = (plain done, unsolved (set s.entries v None), (refl, refl))
  some_service (to_solve wanted cells) stands free =
      let (o, solves) = some_outcome g lawful s.entries wanted (length cells) in (
        solve_reply g cells o,
        record { entries = s.entries; outcome = Some o },
        (refl, (solves, refl)),
      )
  some_service to_reopen stands free = (plain done, unsolved s.entries, (refl, refl))
  some_service (to_verdict v) stands free = let (r, so) = some_telling s.outcome v stands in (r, s, (so, refl))
  some_service (to_issue player output cells) stands free =
      let (r, so) = some_issue player output cells (tested (within g) 10 0 _ free).0 in
      (r, s, (so, refl))
  some_service (to_check plan) stands free = elim (faults_complete.formed_or_refused (as_held g s) plan) [
    | inl formed ↦
        let (mark, marks) = marks_complete.some_mark (as_held g s) plan (held_lawful s.entries g lawful) formed in
        (plain (marked mark), s, (refl, (formed, marks), refl))
    | inr (fault, refuses) ↦ (plain (refused (number_of fault) (place_of fault)), s, (refl, (fault, refuses, refl, refl), refl))
  ]

  some_answer : (c : Call) → may_stand s.outcome c ≡ true → (r : Reply) × (t : State) × Answers g s c r t
  some_answer c stands = by (refusal g s c) refl
    where
      by : (o : Option Refusal) → refusal g s c ≡ o → (r : Reply) × (t : State) × Answers g s c r t
      by None free =
          let (r, t, serves) = some_service c stands free in
          (r, t, (stands, subst (Replies g s c r t) (sym free) serves))
      by (Some f) e =
          let r : Reply = record { answer = refused f.number f.place; output = output_of c; cells = cells_of c } in
          (r, s, (stands, subst (Replies g s c r s) (sym e) (refl, refl)))

pub some_reply : (g : Game) → Lawful g → SomeReply g
some_reply g lawful s c stands = some_answer g lawful s c stands
