-- The three plans on the game of two positions.
use Rattle.std.proofs.Common.{◌≡◌, ℕ, zero, suc, ◌%◌, ◌<◌, ◌⊎◌, List, [], ◌∷◌, Some, sym, refl, ap, ◌∙◌, inl, inr, arith, lit<, lit≤}
use Rattle.std.specs.List.{slice_get}
use Rattle.std.proofs.lemmas.Bool.{both_ways}
use Rattle.std.proofs.lemmas.Option.{none-some, same_Some}
use Rattle.game.specs.declared.Arc.{Arc}
use Rattle.game.specs.Game.{Game}
use Rattle.game.specs.Plans.{Plan, Follows, Walk, highest}
use Rattle.game.specs.Plans.Walk.{stay, step}
use Rattle.game.proofs.Arcs.{arc_there}
use Rattle.plans.specs.declared.mark.Mark.TheVariants.{Passes, Leaves, Loses}
use Rattle.plans.specs.Bytes.{plan_of, ChoiceFits, WellFormed}
use Rattle.plans.specs.Marks.{Marks}
use Rattle.plans.specs.Examples.{arc_to, roof, WorkedPlans}
use Rattle.plans.proofs.Winning.{passing_is_winning}

abbrev bytes : ℕ → List ℕ
bytes b = 0 ∷ 2 ∷ b ∷ 254 ∷ []

-- a byte for position 0 that is an arc's number or 255 makes a plan
formed : (b : ℕ) → (b ≡ 255) ⊎ (b < 2) → WellFormed roof (bytes b)
formed b fits = record { headed = record { whole = refl; player = lit≤ tt; positions = refl }; each_choice = each }
  where
    each : (v : ℕ) → v < 2 → ChoiceFits roof (bytes b) v
    each zero h = record { own = λ _. fits; other = λ e. let z : ◌≡◌ {A = ℕ} 0 1 = cc in absurd (omega arith) }
    each (suc zero) h = record { own = λ e. let z : ◌≡◌ {A = ℕ} 0 1 = cc in absurd (omega arith); other = λ _. inl refl }
    each (suc (suc v)) h = absurd (omega arith)

abbrev plan : ℕ → Plan
plan b = plan_of 2 (bytes b)

-- The three moves: by b = 0, by b = 1, and from 1.
abbrev Kind : ℕ → ℕ → ℕ → ℕ → Type 0
Kind b u w p = ((u ≡ 0) × (b ≡ 0) × (w ≡ 1) × (p ≡ 1)) ⊎ (((u ≡ 0) × (b ≡ 1) × (w ≡ 0) × (p ≡ 2)) ⊎ ((u ≡ 1) × (w ≡ 0) × (p ≡ 0)))

arc_is : {g : Game} {s : Plan} {u w p : ℕ} (m : Follows g s u w p) (x : Arc) → Some x ≡ Some m.arc → (w ≡ x.target) × (p ≡ x.priority)
arc_is m x e =
    let same = same_Some x m.arc e in
    (sym (ap (λ (a : Arc). a.target) same ∙ m.leads), sym (ap (λ (a : Arc). a.priority) same ∙ m.costs))

kind : (b u w p : ℕ) → Follows roof (plan b) u w p → Kind b u w p
kind b zero w p m = at m.number (m.chosen refl) (arc_there roof 0 m.number m.arc m.is_arc).1
  where
    at : (i : ℕ) → i ≡ b → slice_get (roof.arcs 0) i ≡ Some m.arc → Kind b 0 w p
    at zero e h = let is = arc_is m (arc_to 1 1) h in inl (refl, sym e, is.0, is.1)
    at (suc zero) e h = let is = arc_is m (arc_to 0 2) h in inr (inl (refl, sym e, is.0, is.1))
    at (suc (suc i)) e h = absurd (none-some m.arc h)
kind b (suc zero) w p m = at m.number (arc_there roof 1 m.number m.arc m.is_arc).1
  where
    at : (i : ℕ) → slice_get (roof.arcs 1) i ≡ Some m.arc → Kind b 1 w p
    at zero h = let is = arc_is m (arc_to 0 0) h in inr (inr (refl, is.0, is.1))
    at (suc i) h = absurd (none-some m.arc h)
kind b (suc (suc u)) w p m = let inside = (arc_there roof (suc (suc u)) m.number m.arc m.is_arc).0 in absurd (omega arith)

-- from 1 there is one move, whatever is chosen at 0
back : (b : ℕ) → Follows roof (plan b) 1 0 0
back b = record {
  number = 0;
  arc = arc_to 0 0;
  claimed = refl;
  is_arc = refl;
  chosen = λ e. let z : ◌≡◌ {A = ℕ} 0 1 = cc in absurd (omega arith);
  leads = refl;
  costs = refl;
}

even_walk : {u w : ℕ} {ps : List ℕ} → Walk (Follows roof (plan 1)) u w ps → highest ps % 2 ≡ 0
even_walk stay = refl
even_walk (step {u = u} {v = v} {p = p} m walk) = let is = kind 1 u v p m in let more = even_walk walk in omega arith

stays : Marks roof (plan 1) Passes
stays = (
  λ v out.
      let is = kind 1 v out.to out.priority out.move in
      let to : out.to ≡ 0 = omega arith in
      both_ways ((plan 1).claims 0) (rw to at out.unclaimed) refl,
  λ v l. let even = even_walk l.walk in let odd = l.wrong in omega arith,
)

goes : Marks roof (plan 0) (Loses 0)
goes = (
  λ v out. elim (kind 0 v out.to out.priority out.move) [
    | inl (_, _, to, _) ↦ both_ways ((plan 0).claims 1) (rw to at out.unclaimed) refl
    | inr (inl (_, no_choice, _, _)) ↦ omega arith
    | inr (inr (_, to, _)) ↦ both_ways ((plan 0).claims 0) (rw to at out.unclaimed) refl
  ],
  record {
    here = record { first = 1; rest = 0 ∷ []; walk = step there (step (back 0) stay); wrong = refl };
    none_below = λ v h _. omega arith;
  },
)
  where
    there : Follows roof (plan 0) 0 1 1
    there = record { number = 0; arc = arc_to 1 1; claimed = refl; is_arc = refl; chosen = λ _. refl; leads = refl; costs = refl }

goes_out : Marks roof (plan 255) (Leaves 1)
goes_out = record {
  here = record { to = 0; priority = 0; move = back 255; unclaimed = refl };
  none_below = λ v h out. let is = kind 255 v out.to out.priority out.move in omega arith;
}

pub worked_plans : WorkedPlans
worked_plans = record {
  stays = (formed 1 (inr (lit< tt)), stays);
  stays_wins = (passing_is_winning roof (bytes 1) (formed 1 (inr (lit< tt)))).0 stays;
  goes = (formed 0 (inr (lit< tt)), goes);
  goes_out = (formed 255 (inl refl), goes_out);
}
