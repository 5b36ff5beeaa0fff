-- A call has one reply at most, and leaves one state.
use Rattle.std.proofs.Common.{◌≡◌, ℕ, zero, suc, ◌+◌, ◌<◌, ◌≤◌, ◌&&◌, eqb, List, [], ◌++◌, length, take, drop, Some, None, Option, sym, refl, ap, ◌∙◌, subst, inl, inr, arith}
use Rattle.std.proofs.lemmas.List.{take-append-drop}
use Rattle.std.proofs.lemmas.Bool.{cases_lt}
use Rattle.game.specs.declared.Player.{Player}
use Rattle.game.specs.declared.Player.TheVariants.{Even, Odd}
use Rattle.game.specs.Game.{Game, Lawful}
use Rattle.game.specs.Layers.{held}
use Rattle.rows.proofs.Members.{before_not_both}
use Rattle.heights.proofs.Taking.{sweeps_take_lem}
use Rattle.registers.specs.Layer.{registers}
use Rattle.register_theory.specs.First.{solved_for}
use Rattle.plans.specs.Bytes.{plan_of}
use Rattle.plans.specs.Refusals.{number_of, place_of}
use Rattle.plans.proofs.Complete.{faults_complete}
use Rattle.plans.proofs.Winning.{marks_complete}
use Rattle.game.specs.Plans.{Belongs}
use Rattle.case_rules.specs.Limits.{within, needed, IsUsed}
use Rattle.case_rules.specs.Outcomes.{Outcome, Decides, Decided, Raised, Solves, FirstWinning}
use Rattle.case_rules.specs.Calls.{Call, Answer, Reply, plain, State, as_held}
use Rattle.case_rules.specs.Calls.Call.{to_hold, to_free, to_solve, to_reopen, to_verdict, to_issue, to_check}
use Rattle.case_rules.specs.Calls.Answer.{done, solved, told, written, marked, refused}
use Rattle.case_rules.specs.Answers.{Refusal, refusal, numbered, cleared_after, SolvedSo, ToldSo, Issued, CheckedSo, Serves, Replies}
use Rattle.case_rules.specs.Promises.{OneReply}
use Rattle.case_theory.proofs.Outcomes.{decides_kept}

both : {A : Type 0} {x y z : A} → x ≡ z → y ≡ z → x ≡ y
both one two = one ∙ sym two

used_once : (g : Game) (wanted room r q : ℕ) → IsUsed g wanted room r → IsUsed g wanted room q → r ≡ q
used_once g wanted room r q one two =
    let l = two.most r one.fitting in
    let h = one.most q two.fitting in
    omega arith

raised_once : (r : ℕ) (h : Game) (a b : ℕ) → Raised r h a → Raised r h b → a ≡ b
raised_once zero h a b one two = both one two
raised_once (suc r) h a b (even, odd, for_even, for_odd, is) (even', odd', for_even', for_odd', is') =
    let evens = sweeps_take_lem.one h.size (suc r) (registers (suc r) (solved_for Even h)) even even' for_even for_even' in
    let odds = sweeps_take_lem.one h.size (suc r) (registers (suc r) (solved_for Odd h)) odd odd' for_odd for_odd' in
    omega arith

-- of two first plans neither is later
first_once : (h : Game) (player : Player) (Mine : ℕ → Type 0) (xs ys : List ℕ) → FirstWinning h player Mine xs → FirstWinning h player Mine ys → xs ≡ ys
first_once h player Mine xs ys one two = elim (one.first ys two.such) [
  | inl same ↦ sym same
  | inr later ↦ elim (two.first xs one.such) [
    | inl same ↦ same
    | inr earlier ↦ absurd (before_not_both xs ys later earlier)
  ]
]

-- what a solve replies
abbrev pub solve_reply : Game → List ℕ → Outcome → Reply
solve_reply g cells o = record { answer = solved o; output = []; cells = cleared_after g o.used cells }

module _ (g : Game) (lawful : Lawful g) (entries : List (Option ℕ)) where
  decides_once : (r v : ℕ) (x y : Option Player) → 1 ≤ r → r ≤ needed g → v < g.size → Decides r (held entries g) v x → Decides r (held entries g) v y → x ≡ y
  decides_once r v (Some player) y some few there one two = sym (decides_kept g lawful entries r some few player v y there two one)
  decides_once r v None (Some player) some few there one two = decides_kept g lawful entries r some few player v None there one two
  decides_once r v None None some few there one two = refl

  decided_once : (r : ℕ) (a b : ℕ → Option Player) → r ≤ needed g → Decided r (held entries g) a → Decided r (held entries g) b → (v : ℕ) → a v ≡ b v
  decided_once r a b few one two v = elim (cases_lt 0 r) [
    | inr none ↦ both (one.by_none v (inl (omega arith))) (two.by_none v (inl (omega arith)))
    | inl some ↦ elim (cases_lt v g.size) [
      | inr past ↦ both (one.by_none v (inr past)) (two.by_none v (inr past))
      | inl there ↦ decides_once r v (a v) (b v) some few there (one.by_registers v some there) (two.by_registers v some there)
    ]
  ]

  same_outcome : (o p : Outcome) → o.used ≡ p.used → o.needed ≡ p.needed → o.full ≡ p.full → o.raises ≡ p.raises → ((v : ℕ) → o.verdicts v ≡ p.verdicts v) → o ≡ p
  same_outcome o p used needed full raises verdicts = λ i. record { used = used i; needed = needed i; full = full i; raises = raises i; verdicts = λ v. verdicts v i }

  solves_once : (wanted room : ℕ) (o p : Outcome) → Solves g entries wanted room o → Solves g entries wanted room p → o ≡ p
  solves_once wanted room o p one two =
      let used = used_once g wanted room o.used p.used one.is_used two.is_used in
      let needs = both one.is_needed two.is_needed in
      same_outcome o p used needs
      (one.is_full ∙ ap (λ x. within g && eqb x o.needed) used ∙ ap (λ x. within g && eqb p.used x) needs ∙ sym two.is_full)
      (raised_once p.used (held entries g) o.raises p.raises (subst (λ r. Raised r (held entries g) o.raises) used one.raised) two.raised)
      (decided_once p.used o.verdicts p.verdicts two.is_used.fitting.1 (subst (λ r. Decided r (held entries g) o.verdicts) used one.decided) two.decided)

  solved_once : (wanted : ℕ) (cells : List ℕ) (q r : Reply) (x y : Option Outcome) → SolvedSo g entries wanted cells q x → SolvedSo g entries wanted cells r y → (q ≡ r) × (x ≡ y)
  solved_once wanted cells q r None y one two = absurd one
  solved_once wanted cells q r (Some o) None one two = absurd two
  solved_once wanted cells q r (Some o) (Some p) (one, is) (two, is') =
      let same = solves_once wanted (length cells) o p one two in
      (both is (is' ∙ ap (solve_reply g cells) (sym same)), ap Some same)

told_once : (o : Option Outcome) (v : ℕ) (q r : Reply) → ToldSo o v q → ToldSo o v r → q ≡ r
told_once None v q r one two = absurd one
told_once (Some o) v q r one two = both one two

same_reply : (q r : Reply) → q.answer ≡ r.answer → q.output ≡ r.output → q.cells ≡ r.cells → q ≡ r
same_reply q r answer output cells = λ i. record { answer = answer i; output = output i; cells = cells i }

issued_once : (g h : Game) (player : ℕ) (output cells : List ℕ) (q r : Reply) → Issued g h player output cells q → Issued g h player output cells r → q ≡ r
issued_once g h player output cells q r one two =
    let n : ℕ = g.size + 2 in
    let front = first_once h (numbered player) (Belongs h (numbered player)) (take n q.output) (take n r.output) one.plan two.plan in
    let back = both one.rest two.rest in
    same_reply q r (both one.count two.count)
    (sym (take-append-drop n q.output) ∙ ap (λ xs. xs ++ drop n q.output) front ∙ ap (λ xs. take n r.output ++ xs) back ∙ take-append-drop n r.output)
    (both one.cleared two.cleared)

-- a plan has one mark or one fault, and not both
checked_once : (h : Game) (plan : List ℕ) (x y : Answer) → CheckedSo h plan x → CheckedSo h plan y → x ≡ y
checked_once h plan done y one two = absurd one
checked_once h plan (solved o) y one two = absurd one
checked_once h plan (told verdict) y one two = absurd one
checked_once h plan (written count) y one two = absurd one
checked_once h plan (marked mark) done one two = absurd two
checked_once h plan (marked mark) (solved o) one two = absurd two
checked_once h plan (marked mark) (told verdict) one two = absurd two
checked_once h plan (marked mark) (written count) one two = absurd two
checked_once h plan (marked mark) (marked other) (_, one) (_, two) = ap marked (marks_complete.one_mark h (plan_of h.size plan) mark other one two)
checked_once h plan (marked mark) (refused number place) (formed, _) (fault, refuses, _, _) = absurd (faults_complete.not_both h plan fault formed refuses)
checked_once h plan (refused number place) done one two = absurd two
checked_once h plan (refused number place) (solved o) one two = absurd two
checked_once h plan (refused number place) (told verdict) one two = absurd two
checked_once h plan (refused number place) (written count) one two = absurd two
checked_once h plan (refused number place) (marked mark) (fault, refuses, _, _) (formed, _) = absurd (faults_complete.not_both h plan fault formed refuses)
checked_once h plan (refused number place) (refused number' place') (fault, refuses, is, at) (fault', refuses', is', at') =
    let same = faults_complete.one_fault h plan fault fault' refuses refuses' in
    let numbers : number ≡ number' = is ∙ ap number_of same ∙ sym is' in
    let places : place ≡ place' = at ∙ ap place_of same ∙ sym at' in
    λ i. refused (numbers i) (places i)

same_state : (t u : State) → t.entries ≡ u.entries → t.outcome ≡ u.outcome → t ≡ u
same_state t u entries outcome = λ i. record { entries = entries i; outcome = outcome i }

serves_once : (g : Game) → Lawful g → (s t u : State) (c : Call) (q r : Reply) → Serves g s c q t → Serves g s c r u → (q ≡ r) × (t ≡ u)
serves_once g lawful s t u (to_hold v a) q r (is, next) (is', next') = (both is is', both next next')
serves_once g lawful s t u (to_free v) q r (is, next) (is', next') = (both is is', both next next')
serves_once g lawful s t u (to_solve wanted cells) q r (same, so) (same', so') =
    let once = solved_once g lawful s.entries wanted cells q r t.outcome u.outcome so so' in
    (once.0, same_state t u (both same same') once.1)
serves_once g lawful s t u to_reopen q r (is, next) (is', next') = (both is is', both next next')
serves_once g lawful s t u (to_verdict v) q r (so, next) (so', next') = (told_once s.outcome v q r so so', both next next')
serves_once g lawful s t u (to_issue player output cells) q r (so, next) (so', next') = (issued_once g (as_held g s) player output cells q r so so', both next next')
serves_once g lawful s t u (to_check plan) q r (is, so, next) (is', so', next') =
    (is ∙ ap plain (checked_once (as_held g s) plan q.answer r.answer so so') ∙ sym is', both next next')

replies_once : (g : Game) → Lawful g → (s t u : State) (c : Call) (q r : Reply) (o : Option Refusal) → Replies g s c q t o → Replies g s c r u o → (q ≡ r) × (t ≡ u)
replies_once g lawful s t u c q r None one two = serves_once g lawful s t u c q r one two
replies_once g lawful s t u c q r (Some f) (is, next) (is', next') = (both is is', both next next')

pub one_reply : (g : Game) → Lawful g → OneReply g
one_reply g lawful s t u c q r (_, one) (_, two) = replies_once g lawful s t u c q r (refusal g s c) one two
