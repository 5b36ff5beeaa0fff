-- Every well-formed plan has one mark, and passes exactly when it wins.
use Rattle.std.proofs.Common.{◌≡◌, ℕ, ◌%◌, ◌<◌, ◌≤◌, Bool, true, false, not, eqb, ltb, ◌⊎◌, ◌↔◌, List, ◌∷◌, ◌++◌, Some, None, Ok, Err, Decides, Option, Result, refl, ap, ◌∙◌, subst, inl, inr, arith, MatchResult}
use Rattle.std.proofs.lemmas.Bool.{cases_Bool, cases_eq, cases_lt, both_ways, and_parts, ltb-true, eqb-false, not-true}
use Rattle.game.specs.declared.Player.{Player}
use Rattle.game.specs.declared.Player.TheVariants.{Even, Odd}
use Rattle.game.specs.declared.Arc.{Arc}
use Rattle.game.specs.Game.{Game, Lawful, parity, rival}
use Rattle.game.specs.Plans.{Plan, Follows, Walk, Wins, highest}
use Rattle.toolkit.specs.Reachability.{reach}
use Rattle.toolkit.proofs.Search.{seek}
use Rattle.toolkit.proofs.Walks.{highest_append, walk_joined}
use Rattle.plans.specs.declared.fault.PlanFault.{PlanFault}
use Rattle.plans.specs.declared.mark.Mark.{Mark}
use Rattle.plans.specs.declared.mark.Mark.TheVariants.{Passes, Leaves, Loses}
use Rattle.plans.specs.Bytes.{choice_byte, plan_of, WellFormed}
use Rattle.plans.specs.Judging.{FormedAndMarked, Judges, WinningBytes}
use Rattle.plans.specs.Refusals.{Refuses}
use Rattle.plans.specs.Marks.{StepsOut, OnLosingWalk, Found, Marks}
use Rattle.plans.specs.Findings.{MovesBetween, ClosedWalkAt, LosingWalkAt}
use Rattle.plans.specs.Theorems.{MarksComplete}
use Rattle.plans.proofs.Following.{some_move_or_none, move_from_inside, move_to_inside, walk_from_inside}
use Rattle.plans.proofs.Circles.{Circle, circle_from_walk, walk_from_circle}
use Rattle.plans.proofs.Lows.{one_lowest, lowest_or_none, losing_found, losing_from_closed, none_loses}
use Rattle.plans.proofs.Complete.{not_both}

-- the other parity is the rival's
parity_or_rivals : (a : Player) (n : ℕ) → (n % 2 ≡ parity a) ⊎ (n % 2 ≡ parity (rival a))
parity_or_rivals Even n = elim (cases_eq (n % 2) 0) [ inl e ↦ inl e | inr apart ↦ inr (omega arith) ]
parity_or_rivals Odd n = elim (cases_eq (n % 2) 1) [ inl e ↦ inl e | inr apart ↦ inr (omega arith) ]

not_both_parities : (a : Player) (n : ℕ) → n % 2 ≡ parity a → n % 2 ≡ parity (rival a) → ⊥
not_both_parities Even n x y = omega arith
not_both_parities Odd n x y = omega arith

module _ (g : Game) (s : Plan) where
  moves_or_none : (low high u w : ℕ) → MovesBetween g s low high u w ⊎ (MovesBetween g s low high u w → ⊥)
  moves_or_none low high u w = elim (some_move_or_none g s (λ a. (a.target ≡ w) × (low ≤ a.priority) × (a.priority ≤ high)) leads u) [
    | inl (a, move, (to, l, h)) ↦ inl (record { priority = a.priority; move = rw to at move; not_lower = l; not_higher = h })
    | inr none ↦ inr (λ m. none (record { target = w; priority = m.priority }) m.move (refl, m.not_lower, m.not_higher))
  ]
    where
      leads : (a : Arc) → ((a.target ≡ w) × (low ≤ a.priority) × (a.priority ≤ high)) ⊎ ((a.target ≡ w) × (low ≤ a.priority) × (a.priority ≤ high) → ⊥)
      leads a = elim (cases_eq a.target w) [
        | inr apart ↦ inr (λ p. apart p.0)
        | inl to ↦ elim (cases_lt a.priority low) [
          | inl below ↦ inr (λ p. let l = p.1 in omega arith)
          | inr l ↦ elim (cases_lt high a.priority) [
            | inl above ↦ inr (λ p. let h = p.2 in omega arith)
            | inr h ↦ inl (to, l, h)
          ]
        ]
      ]

  steps_out_or_not : (v : ℕ) → StepsOut g s v ⊎ (StepsOut g s v → ⊥)
  steps_out_or_not v = elim (some_move_or_none g s (λ a. s.claims a.target ≡ false) (λ a. elim (cases_Bool (s.claims a.target)) [ inl claimed ↦ inr (λ out. both_ways (s.claims a.target) out claimed) | inr out ↦ inl out ]) v) [
    | inl (a, move, out) ↦ inl (record { to = a.target; priority = a.priority; move = move; unclaimed = out })
    | inr none ↦ inr (λ out. none (record { target = out.to; priority = out.priority }) out.move out.unclaimed)
  ]

  -- whether a move of priority at most q leads from u to w
  low_move : ℕ → ℕ → ℕ → Bool
  low_move q u w = elim (moves_or_none 0 q u w) [ inl m ↦ true | inr none ↦ false ]

  low_move_exact : (q u w : ℕ) → Decides (low_move q u w) (MovesBetween g s 0 q u w)
  unfolding low_move
  low_move_exact q u w = at (moves_or_none 0 q u w)
    where
      at : (d : MovesBetween g s 0 q u w ⊎ (MovesBetween g s 0 q u w → ⊥)) → Decides (elim d [ inl m ↦ true | inr none ↦ false ]) (MovesBetween g s 0 q u w)
      at (inl m) = (λ _. m, λ _. refl)
      at (inr none) = (λ e. absurd (both_ways false refl e), λ m. absurd (none m))

  module _ (laws : Lawful g) where
    circle_or_not : (q v : ℕ) → Circle g s g.size q (low_move q) v ⊎ (Circle g s g.size q (low_move q) v → ⊥)
    circle_or_not q v = elim (seek {P = λ u. (w : ℕ) × Closing u w} {Q = λ u. (w : ℕ) → w < g.size → Closing u w → ⊥} g.size (λ u hu. from u)) [
      | inl (u, _, (w, (m, there, back))) ↦ inl (record { from = u; to = w; move = m; there = there; back = back })
      | inr none ↦ inr (λ circle. none circle.from (move_from_inside g s circle.move) circle.to (move_to_inside g s laws circle.move) (circle.move, circle.there, circle.back))
    ]
      where
        Closing : ℕ → ℕ → Type 0
        Closing u w = Follows g s u w q × (reach g.size (low_move q) v u ≡ true) × (reach g.size (low_move q) w v ≡ true)

        closing : (u w : ℕ) → Closing u w ⊎ (Closing u w → ⊥)
        closing u w = elim (moves_or_none q q u w) [
          | inr none ↦ inr (λ found. none (record { priority = q; move = found.0; not_lower = omega arith; not_higher = omega arith }))
          | inl m ↦
              let is : m.priority ≡ q = let l = m.not_lower in let h = m.not_higher in omega arith in
              elim (cases_Bool (reach g.size (low_move q) v u)) [
                | inr out ↦ inr (λ found. both_ways _ out found.1)
                | inl there ↦ elim (cases_Bool (reach g.size (low_move q) w v)) [
                  | inr out ↦ inr (λ found. both_ways _ out found.2)
                  | inl back ↦ inl (rw is at m.move, there, back)
                ]
              ]
        ]

        from : (u : ℕ) → ((w : ℕ) × Closing u w) ⊎ ((w : ℕ) → w < g.size → Closing u w → ⊥)
        from u = elim (seek {P = Closing u} {Q = λ w. Closing u w → ⊥} g.size (λ w hw. closing u w)) [
          | inl (w, _, found) ↦ inl (w, found)
          | inr none ↦ inr none
        ]

    closed_or_not : (q v : ℕ) → ClosedWalkAt g s q v ⊎ (ClosedWalkAt g s q v → ⊥)
    closed_or_not q v = elim (circle_or_not q v) [
      | inl circle ↦ inl (walk_from_circle g s laws g.size q (omega arith) (low_move q) (λ u w hu hw. low_move_exact q u w) v circle)
      | inr none ↦ inr (λ closed. none (circle_from_walk g s laws g.size q (omega arith) (low_move q) (λ u w hu hw. low_move_exact q u w) v closed))
    ]

    -- the lowest position from which a closed walk has this highest priority
    pub closed_found : (q : ℕ) → (o : Option ℕ) × Found (ClosedWalkAt g s q) o
    closed_found q = lowest_or_none g.size (λ v h. closed_or_not q v) (λ v (closed : ClosedWalkAt g s q v). walk_from_inside g s closed.walk)

    -- the same where the priority has the wrong parity
    pub losing_at : (q : ℕ) → (o : Option ℕ) × Found (LosingWalkAt g s q) o
    losing_at q = elim (cases_eq (q % 2) (parity (rival s.player))) [
      | inl wrong ↦ ((closed_found q).0, losing_from_closed g s q (closed_found q).0 wrong (closed_found q).1)
      | inr right ↦ (None, none_loses g s q right)
    ]

    losing_or_none : (o : Option ℕ) × Found (OnLosingWalk g s) o
    losing_or_none = (_, losing_found g s laws (λ q. (losing_at q).0) (λ q. (losing_at q).1))

    leaving_found : (o : Option ℕ) × Found (StepsOut g s) o
    leaving_found = lowest_or_none g.size (λ v h. steps_out_or_not v) (λ v (out : StepsOut g s v). move_from_inside g s out.move)

    some_mark : (mark : Mark) × Marks g s mark
    some_mark = marked leaving_found.0 losing_or_none.0 leaving_found.1 losing_or_none.1
      where
        marked : (a b : Option ℕ) → Found (StepsOut g s) a → Found (OnLosingWalk g s) b → (mark : Mark) × Marks g s mark
        marked (Some p) b leaves loses = (Leaves p, leaves)
        marked None (Some p) leaves loses = (Loses p, (leaves, loses))
        marked None None leaves loses = (Passes, (leaves, loses))

  one_mark : (a b : Mark) → Marks g s a → Marks g s b → a ≡ b
  one_mark Passes Passes x y = refl
  one_mark Passes (Leaves p) x y = absurd (x.0 p y.here)
  one_mark Passes (Loses p) x y = absurd (x.1 p y.1.here)
  one_mark (Leaves p) Passes x y = absurd (y.0 p x.here)
  one_mark (Leaves p) (Leaves q) x y = ap Leaves (one_lowest x y)
  one_mark (Leaves p) (Loses q) x y = absurd (y.0 p x.here)
  one_mark (Loses p) Passes x y = absurd (y.1 p x.1.here)
  one_mark (Loses p) (Leaves q) x y = absurd (x.0 q y.here)
  one_mark (Loses p) (Loses q) x y = ap Loses (one_lowest x.1 y.1)

  passes_from_wins : Wins g s → Marks g s Passes
  passes_from_wins wins = (
    λ v out. both_ways (s.claims out.to) out.unclaimed (wins.stays_claimed v out.to out.priority out.move),
    λ v l. not_both_parities s.player (highest (l.first ∷ l.rest)) (wins.closed_walks v l.first l.rest l.walk) l.wrong,
  )

  -- a closed walk, begun elsewhere on it
  begun_anywhere : (u v p : ℕ) (ps qs : List ℕ) → Walk (Follows g s) u v ps → Walk (Follows g s) v u (p ∷ qs) → highest (ps ++ p ∷ qs) % 2 ≡ parity (rival s.player) → OnLosingWalk g s v
  begun_anywhere u v p ps qs there back wrong =
      let one = highest_append ps (p ∷ qs) in
      let two = highest_append (p ∷ qs) ps in
      let same : highest (p ∷ (qs ++ ps)) ≡ highest (ps ++ p ∷ qs) = omega arith in
      record { first = p; rest = qs ++ ps; walk = walk_joined back there; wrong = ap (λ n. n % 2) same ∙ wrong }

-- a claimed position of well-formed bytes is there, and its byte is not 255
claimed_is : (n : ℕ) (bytes : List ℕ) (v : ℕ) → (plan_of n bytes).claims v ≡ true → (v < n) × (choice_byte bytes v ≡ 255 → ⊥)
claimed_is n bytes v claimed =
    let parts = and_parts (ltb v n) (not (eqb (choice_byte bytes v) 255)) claimed in
    (ltb-true v n parts.0, eqb-false (choice_byte bytes v) 255 (not-true (eqb (choice_byte bytes v) 255) parts.1))

module _ (g : Game) (bytes : List ℕ) (formed : WellFormed g bytes) where
  wins_from_passes : Marks g (plan_of g.size bytes) Passes → Wins g (plan_of g.size bytes)
  wins_from_passes (inside, winning) = record {
    choice_is_arc = λ v claimed mine.
        let (there, apart) = claimed_is g.size bytes v claimed in
        elim ((formed.each_choice v there).own mine) [ inl unclaimed ↦ absurd (apart unclaimed) | inr arc ↦ arc ];
    claims_exist = λ v claimed. (claimed_is g.size bytes v claimed).0;
    stays_claimed = λ v w p m. elim (cases_Bool ((plan_of g.size bytes).claims w)) [
      | inl claimed ↦ claimed
      | inr out ↦ absurd (inside v (record { to = w; priority = p; move = m; unclaimed = out }))
    ];
    closed_walks = λ v p ps walk. elim (parity_or_rivals (plan_of g.size bytes).player (highest (p ∷ ps))) [
      | inl e ↦ e
      | inr wrong ↦ absurd (winning v (record { first = p; rest = ps; walk = walk; wrong = wrong }))
    ];
  }

  pub passing_is_winning : Marks g (plan_of g.size bytes) Passes ↔ Wins g (plan_of g.size bytes)
  passing_is_winning = (wins_from_passes, passes_from_wins g (plan_of g.size bytes))

pub marks_complete : MarksComplete
marks_complete = record {
  some_mark = λ g bytes laws formed. some_mark g (plan_of g.size bytes) laws;
  one_mark = one_mark;
  passing_is_winning = passing_is_winning;
  begun_anywhere = begun_anywhere;
}

pub judges_from_cases : (g : Game) (bytes : List ℕ) (r : Result Mark PlanFault) → g.size ≤ 16 → MatchResult r (FormedAndMarked g bytes) (Refuses g bytes) → Judges g bytes (Some r)
judges_from_cases g bytes (Ok mark) few marked = (few, marked)
judges_from_cases g bytes (Err fault) few refused = (few, refused)

-- what judging answers is "passes" exactly for the bytes of a winning plan
pub passes_exactly : (g : Game) (bytes : List ℕ) (r : Option (Result Mark PlanFault)) → Judges g bytes r → (r ≡ Some (Ok Passes)) ↔ WinningBytes g bytes
passes_exactly g bytes r judged = (wins, λ winning. passes r judged winning)
  where
    wins : r ≡ Some (Ok Passes) → WinningBytes g bytes
    wins e = let (few, (formed, passed)) = subst (Judges g bytes) e judged in (few, formed, (passing_is_winning g bytes formed).0 passed)

    passes : (o : Option (Result Mark PlanFault)) → Judges g bytes o → WinningBytes g bytes → o ≡ Some (Ok Passes)
    passes None many (few, _, _) = absurd (omega arith)
    passes (Some (Err fault)) (_, refused) (_, formed, _) = absurd (not_both g bytes fault formed refused)
    passes (Some (Ok mark)) (_, (formed, marked)) (_, _, winning) =
        ap (λ (m : Mark). Some (Ok m)) (one_mark g (plan_of g.size bytes) mark Passes marked ((passing_is_winning g bytes formed).1 winning))
