-- The moves that follow a plan, by the arcs of a position.
use Rattle.std.proofs.Common.{◌≡◌, ℕ, ◌<◌, ◌≤◌, Bool, true, false, MatchBool, ◌⊎◌, List, ◌∷◌, length, Some, None, Option, sym, refl, ap, ◌∙◌, inl, inr, arith}
use Rattle.std.proofs.lemmas.Bool.{cases_Bool, cases_eq, both_ways}
use Rattle.std.proofs.lemmas.Option.{slice_get_within, none-some, same_Some}
use Rattle.game.specs.declared.Player.{Player}
use Rattle.game.specs.declared.Player.TheVariants.{Even, Odd}
use Rattle.game.specs.declared.Arc.{Arc}
use Rattle.game.specs.Game.{Game, Lawful, rival, arc_at}
use Rattle.game.specs.Plans.{Plan, Follows, Walk}
use Rattle.game.specs.Plans.Walk.{step}
use Rattle.game.proofs.Arcs.{arc_there}
use Rattle.toolkit.proofs.Search.{seek}
use Rattle.plans.specs.Findings.{Tells, MovesBetween}
use Rattle.plans.specs.Marks.{StepsOut}

pub own_or_rivals : (a b : Player) → (a ≡ b) ⊎ (a ≡ rival b)
own_or_rivals Even Even = inl refl
own_or_rivals Even Odd = inr refl
own_or_rivals Odd Even = inr refl
own_or_rivals Odd Odd = inl refl

pub not_its_rival : (a : Player) → a ≡ rival a → ⊥
not_its_rival Even e = let z : ◌≡◌ {A = ℕ} 0 1 = cc in omega arith
not_its_rival Odd e = let z : ◌≡◌ {A = ℕ} 0 1 = cc in omega arith

same_arc : (a b : Arc) → a.target ≡ b.target → a.priority ≡ b.priority → a ≡ b
same_arc a b t p = ap (λ (n : ℕ). record { target = n; priority = a.priority }) t ∙ ap (λ (n : ℕ). record { target = b.target; priority = n }) p

-- Moves that follow the plan may leave position v by arc i: it is claimed, and the arc is the chosen one where the plan's player moves.
pub record MayTake (g : Game) (s : Plan) (v i : ℕ) : Type 0 where
  pub claimed : s.claims v ≡ true
  pub chosen : g.mover v ≡ s.player → i ≡ s.choice v

module _ (g : Game) (s : Plan) where
  may_take_or_not : (v i : ℕ) → MayTake g s v i ⊎ (MayTake g s v i → ⊥)
  may_take_or_not v i = elim (cases_Bool (s.claims v)) [
    | inr unclaimed ↦ inr (λ may. both_ways (s.claims v) unclaimed may.claimed)
    | inl claimed ↦ elim (cases_eq i (s.choice v)) [
      | inl chosen ↦ inl (record { claimed = claimed; chosen = λ _. chosen })
      | inr other ↦ elim (own_or_rivals (g.mover v) s.player) [
        | inl own ↦ inr (λ may. other (may.chosen own))
        | inr rivals ↦ inl (record { claimed = claimed; chosen = λ own. absurd (not_its_rival s.player (sym own ∙ rivals)) })
      ]
    ]
  ]

  pub follows_by : (v i : ℕ) (a : Arc) → MayTake g s v i → arc_at g v i ≡ Some a → Follows g s v a.target a.priority
  follows_by v i a may is = record { number = i; arc = a; claimed = may.claimed; is_arc = is; chosen = may.chosen; leads = refl; costs = refl }

  -- a move by an arc: its number, which the plan may take
  pub taken_by : (v : ℕ) (a : Arc) → Follows g s v a.target a.priority → (i : ℕ) × MayTake g s v i × (arc_at g v i ≡ Some a)
  taken_by v a m = (m.number, record { claimed = m.claimed; chosen = m.chosen }, rw (same_arc m.arc a m.leads m.costs) at m.is_arc)

  -- some following move from v is by an arc with P, or none is
  pub some_move_or_none : (P : Arc → Type 0) → ((a : Arc) → P a ⊎ (P a → ⊥)) → (v : ℕ) → ((a : Arc) × Follows g s v a.target a.priority × P a) ⊎ ((a : Arc) → Follows g s v a.target a.priority → P a → ⊥)
  some_move_or_none P decide v = elim (seek {P = λ i. (a : Arc) × MayTake g s v i × (arc_at g v i ≡ Some a) × P a} {Q = λ i. (a : Arc) → MayTake g s v i → arc_at g v i ≡ Some a → P a → ⊥} (length (g.arcs v)) (λ i h. at i (arc_at g v i) refl)) [
    | inl (i, _, (a, may, is, p)) ↦ inl (a, follows_by v i a may is, p)
    | inr none ↦ inr (λ a m p. let (i, may, is) = taken_by v a m in none i (slice_get_within (g.arcs v) i a (arc_there g v i a is).1) a may is p)
  ]
    where
      at : (i : ℕ) (o : Option Arc) → arc_at g v i ≡ o → ((a : Arc) × MayTake g s v i × (arc_at g v i ≡ Some a) × P a) ⊎ ((a : Arc) → MayTake g s v i → arc_at g v i ≡ Some a → P a → ⊥)
      at i None is = inr (λ a may some p. none-some a (sym is ∙ some))
      at i (Some a) is = elim (may_take_or_not v i) [
        | inr cannot ↦ inr (λ b may some p. cannot may)
        | inl may ↦ elim (decide a) [
          | inl p ↦ inl (a, may, is, p)
          | inr lacks ↦ inr (λ b _ some p. lacks (rw (same_Some a b (sym is ∙ some)) p))
        ]
      ]

  pub move_from_inside : {u w p : ℕ} → Follows g s u w p → u < g.size
  move_from_inside {u} m = (arc_there g u m.number m.arc m.is_arc).0

  pub walk_from_inside : {u w p : ℕ} {ps : List ℕ} → Walk (Follows g s) u w (p ∷ ps) → u < g.size
  walk_from_inside (step m walk) = move_from_inside m

  module _ (laws : Lawful g) where
    pub move_to_inside : {u w p : ℕ} → Follows g s u w p → w < g.size
    move_to_inside {u} m = rw (← m.leads) (laws.target_inside u m.number m.arc m.is_arc)

    pub move_low : {u w p : ℕ} → Follows g s u w p → p ≤ g.top
    move_low {u} m = rw (← m.costs) (laws.priority_low u m.number m.arc m.is_arc)

  -- what a search among the moves from v tells, for a test of arcs that lead out, or to w by a priority within bounds
  module _ {Yes No : Arc → Type 0} (v : ℕ) where
    pub tells_steps_out : (r : Bool) → MatchBool r ((a : Arc) × Follows g s v a.target a.priority × Yes a) ((a : Arc) → Follows g s v a.target a.priority → No a) → ((a : Arc) → Yes a → s.claims a.target ≡ false) → ((a : Arc) → No a → s.claims a.target ≡ true) → Tells r (StepsOut g s v)
    tells_steps_out true (a, move, passes) out inside = record { to = a.target; priority = a.priority; move = move; unclaimed = out a passes }
    tells_steps_out false none out inside = λ found.
        let a : Arc = record { target = found.to; priority = found.priority } in
        both_ways (s.claims found.to) found.unclaimed (inside a (none a found.move))

    pub tells_moves : (low high w : ℕ) (r : Bool) → MatchBool r ((a : Arc) × Follows g s v a.target a.priority × Yes a) ((a : Arc) → Follows g s v a.target a.priority → No a) → ((a : Arc) → Yes a → (a.target ≡ w) × (low ≤ a.priority) × (a.priority ≤ high)) → ((a : Arc) → No a → a.target ≡ w → low ≤ a.priority → a.priority ≤ high → ⊥) → Tells r (MovesBetween g s low high v w)
    tells_moves low high w true (a, move, passes) leads strays =
        let (to, not_lower, not_higher) = leads a passes in
        record { priority = a.priority; move = rw to at move; not_lower = not_lower; not_higher = not_higher }
    tells_moves low high w false none leads strays = λ m.
        let a : Arc = record { target = w; priority = m.priority } in
        strays a (none a m.move) refl m.not_lower m.not_higher
