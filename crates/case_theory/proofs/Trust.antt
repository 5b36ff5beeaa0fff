-- Every list of calls keeps the promises.
use Rattle.std.proofs.Common.{◌≡◌, ℕ, ltb, ◌⊎◌, ◌↔◌, List, [], ◌∷◌, ◌++◌, get_or, replicate, Some, None, sym, refl, ap, ◌∙◌, subst, inl, inr, arith}
use Rattle.std.specs.List.{AllByRecursion as All}
use Rattle.std.proofs.lemmas.List.{get_or-replicate}
use Rattle.std.proofs.lemmas.Bool.{cases_lt, cond-true, cond-false, lt-ltb, le-ltb}
use Rattle.std.proofs.lemmas.Option.{none-some, same_Some}
use Rattle.game.specs.Game.{Game, Lawful}
use Rattle.game.specs.Layers.{entry_at}
use Rattle.case_rules.specs.Outcomes.{Outcome, Solves}
use Rattle.case_rules.specs.Calls.{Call, Reply, State, opened}
use Rattle.case_rules.specs.Calls.Call.{to_hold, to_free}
use Rattle.case_rules.specs.Calls.Answer.{done, solved}
use Rattle.case_rules.specs.Runs.{Event, Run}
use Rattle.case_rules.specs.Runs.Run.{opening, calling}
use Rattle.case_rules.specs.Promises.{Among, Sound, GivenAgain, Settles, HeldAt, LastSolve, Trust}
use Rattle.case_theory.proofs.Outcomes.{solves_same, verdict_again}
use Rattle.case_theory.proofs.Steps.{Sane, opened_sane, stays_sane, event, gave, outcome_from, HoldsNow, FreesNow, LeavesAlone, settles_or_not}
use Rattle.case_theory.proofs.Sound.{call_sound}

pub run_sane : (g : Game) {events : List Event} {s : State} → Run g events s → Sane g s
run_sane g opening = opened_sane g
run_sane g (calling {s = s} run c r t answers) = stays_sane g s t c r (run_sane g run) answers

-- one of a list has what all have
all_among : (P : Event → Type 0) (events newer : List Event) (e : Event) (older : List Event) → All P events → Among events newer e older → P e
all_among P events newer e older all among = in_order newer (subst (All P) among all)
  where
    in_order : (newer : List Event) → All P (newer ++ e ∷ older) → P e
    in_order [] (here, _) = here
    in_order (_ ∷ newer) (_, later) = in_order newer later

-- each answer of a solve is the outcome of one under the entries then
SolvedEvent : Game → Event → Type 0
SolvedEvent g e = (o : Outcome) → e.reply.answer ≡ solved o → (wanted room : ℕ) × Solves g e.before.entries wanted room o

module _ (g : Game) (lawful : Lawful g) where
  each_sound : {events : List Event} {s : State} → Run g events s → All (Sound g) events
  each_sound opening = tt
  each_sound (calling {s = s} run c r t answers) = (call_sound g lawful s t r (run_sane g run) c answers, each_sound run)

  each_solved : {events : List Event} {s : State} → Run g events s → All (SolvedEvent g) events
  unfolding SolvedEvent
  each_solved opening = tt
  each_solved (calling {s = s} run c r t answers) = ((λ o e. (gave g s t r c answers o e).0), each_solved run)

  given_again : (e f : Event) → SolvedEvent g e → SolvedEvent g f → GivenAgain e f
  unfolding SolvedEvent
  given_again e f one two o p gave_o gave_p same more player v won =
      let (_, _, solves) = one o gave_o in
      let (_, _, others) = two p gave_p in
      verdict_again g lawful f.before.entries (solves_same g e.before.entries f.before.entries same solves) others more player v won

  last_solve : {events : List Event} {s : State} → Run g events s → (o : Outcome) → s.outcome ≡ Some o → LastSolve events o
  last_solve opening o is = absurd (none-some o is)
  last_solve (calling {events} {s} run c r t answers) o is = elim (outcome_from g s t c r o answers is) [
    | inl gives ↦ record { newer = []; older = events; solve = event g s t r c; among = refl; gave = gives; none_later = tt }
    | inr (before, none) ↦
        let last = last_solve run o before in
        record {
          newer = event g s t r c ∷ last.newer;
          older = last.older;
          solve = last.solve;
          among = ap (λ es. event g s t r c ∷ es) last.among;
          gave = last.gave;
          none_later = (none, last.none_later);
        }
  ]

-- At the opening nothing is held.
nothing_held : (v : ℕ) → entry_at opened.entries v ≡ None
nothing_held v = elim (cases_lt v 16) [
  | inl low ↦ cond-true (ltb v 16) (get_or (replicate 16 None) v None) None (lt-ltb v 16 low) ∙ get_or-replicate 16 v None None low
  | inr past ↦ cond-false (ltb v 16) (get_or (replicate 16 None) v None) None (le-ltb v 16 past)
]

-- no event is among none
none_among : (newer : List Event) (e : Event) (older : List Event) → Among [] newer e older → ⊥
none_among [] e older among = let z : ◌≡◌ {A = ℕ} 0 1 = cc in omega arith
none_among (_ ∷ newer) e older among = let z : ◌≡◌ {A = ℕ} 0 1 = cc in omega arith

hold_same : (v a w b : ℕ) → to_hold v a ≡ to_hold w b → a ≡ b
hold_same v a w b e = cc

hold_not_free : (v a w : ℕ) → to_free w ≡ to_hold v a → ⊥
hold_not_free v a w e = let z : ◌≡◌ {A = ℕ} 0 1 = cc in omega arith

module _ (g : Game) (events : List Event) (s t : State) (c : Call) (r : Reply) (v a : ℕ) where
  -- one more call, by what it does to the entry of the position
  now_held : HoldsNow g s t r c v ⊎ (FreesNow g s t r c v ⊎ LeavesAlone g s t r c v) → (entry_at s.entries v ≡ Some a → HeldAt events v a) → entry_at t.entries v ≡ Some a → HeldAt (event g s t r c ∷ events) v a
  now_held (inl (b, unrefused, is, at)) before e = record {
    newer = [];
    older = events;
    hold = event g s t r c;
    among = refl;
    unrefused = unrefused;
    holds = is ∙ ap (to_hold v) (same_Some b a (sym at ∙ e));
    none_later = tt;
  }
  now_held (inr (inl (_, _, at))) before e = absurd (none-some a (sym at ∙ e))
  now_held (inr (inr (not_here, same))) before e =
      let last = before (sym same ∙ e) in
      record {
        newer = event g s t r c ∷ last.newer;
        older = last.older;
        hold = last.hold;
        among = ap (λ es. event g s t r c ∷ es) last.among;
        unrefused = last.unrefused;
        holds = last.holds;
        none_later = (not_here, last.none_later);
      }

  -- the last hold is this call
  held_here : HoldsNow g s t r c v ⊎ (FreesNow g s t r c v ⊎ LeavesAlone g s t r c v) → (r.answer ≡ done) → c ≡ to_hold v a → entry_at t.entries v ≡ Some a
  held_here (inl (b, _, is, at)) unrefused holds = at ∙ ap Some (hold_same v b v a (sym is ∙ holds))
  held_here (inr (inl (_, is, _))) unrefused holds = absurd (hold_not_free v a v (sym is ∙ holds))
  held_here (inr (inr (not_here, _))) unrefused holds = absurd (not_here (unrefused, inl (a, holds)))

  -- or an older one
  held_before : HoldsNow g s t r c v ⊎ (FreesNow g s t r c v ⊎ LeavesAlone g s t r c v) → (Settles v (event g s t r c) → ⊥) → entry_at s.entries v ≡ Some a → entry_at t.entries v ≡ Some a
  held_before (inl (b, unrefused, is, _)) none before = absurd (none (unrefused, inl (b, is)))
  held_before (inr (inl (unrefused, is, _))) none before = absurd (none (unrefused, inr is))
  held_before (inr (inr (_, same))) none before = same ∙ before

  module _ (now : HoldsNow g s t r c v ⊎ (FreesNow g s t r c v ⊎ LeavesAlone g s t r c v)) (before : HeldAt events v a → entry_at s.entries v ≡ Some a) (older : List Event) (hold : Event) (unrefused : hold.reply.answer ≡ done) (holds : hold.call ≡ to_hold v a) where
    still_held : (newer : List Event) → All (λ e. Settles v e → ⊥) newer → Among (event g s t r c ∷ events) newer hold older → entry_at t.entries v ≡ Some a
    still_held [] none among =
        let same : event g s t r c ≡ hold = cc in
        held_here now (ap (λ (e : Event). e.reply.answer) same ∙ unrefused) (ap (λ (e : Event). e.call) same ∙ holds)
    still_held (e ∷ newer) (here, none) among =
        let same : event g s t r c ≡ e = cc in
        let rest : events ≡ newer ++ hold ∷ older = cc in
        held_before now (subst (λ (x : Event). Settles v x → ⊥) (sym same) here) (before (record { newer = newer; older = older; hold = hold; among = rest; unrefused = unrefused; holds = holds; none_later = none }))

module _ (g : Game) where
  held_as_told : {events : List Event} {s : State} → Run g events s → (v a : ℕ) → (entry_at s.entries v ≡ Some a) ↔ HeldAt events v a
  held_as_told opening v a = (
    λ e. absurd (none-some a (sym (nothing_held v) ∙ e)),
    λ h. absurd (none_among h.newer h.hold h.older h.among),
  )
  held_as_told (calling {events} {s} run c r t answers) v a =
      let now = settles_or_not g s t r c v (run_sane g run) answers in (
        λ e. now_held g events s t c r v a now (held_as_told run v a).0 e,
        λ h. still_held g events s t c r v a now (held_as_told run v a).1 h.older h.hold h.unrefused h.holds h.newer h.none_later h.among,
      )

pub trust : (g : Game) → Lawful g → Trust g
trust g lawful events s run = record {
  each_sound = each_sound g lawful run;
  given_again = λ e f a b c d one two. (
      let all = each_solved g lawful run in
      given_again g lawful e f (all_among (SolvedEvent g) events a e b all one) (all_among (SolvedEvent g) events c f d all two));
  held_as_told = held_as_told g run;
  last_solve = last_solve g lawful run;
}
