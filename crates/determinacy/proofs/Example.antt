-- The game of four positions, decided from the definition of winning.
use Rattle.std.proofs.Common.{◌≡◌, ℕ, zero, suc, ◌%◌, ◌<◌, ◌≤◌, Bool, true, false, ◌⊎◌, List, [], ◌∷◌, length, get_or, Some, refl, ap, ◌∙◌, subst, inl, inr, arith, lit<, lit≤}
use Rattle.std.specs.List.{slice_get, AllByRecursion as All}
use Rattle.std.proofs.lemmas.Bool.{both_ways}
use Rattle.std.proofs.lemmas.List.{get_or_past}
use Rattle.std.proofs.lemmas.List.Elements.{All-get_or, All-from_recursion}
use Rattle.std.proofs.lemmas.Option.{slice_get_within, get_or_from_slice_get, none-some, same_Some}
use Rattle.toolkit.proofs.Walks.{walk_meets, highest_at_most, no_closed_walk}
use Rattle.game.specs.declared.Arc.{Arc}
use Rattle.game.specs.Game.{Lawful, arc_at, parity}
use Rattle.game.specs.Plans.{Plan, Follows, Walk, Wins, highest}
use Rattle.game.proofs.Arcs.{arc_there}
use Rattle.determinacy.specs.Example.{example, even_plan, odd_plan}

-- what holds of each arc of a list holds of the one that is read
all_nth : (P : Arc → Type 0) (xs : List Arc) (i : ℕ) (a : Arc) → All P xs → slice_get xs i ≡ Some a → P a
all_nth P xs i a h e = rw (get_or_from_slice_get xs i a a e) at (All-get_or {X = Arc} P xs i a (slice_get_within xs i a e) (All-from_recursion P xs h))

abbrev Fits : Arc → Type 0
Fits a = (a.target < 4) × (a.priority ≤ 5)

all_fit : (v : ℕ) → All Fits (example.arcs v)
all_fit zero = ((lit< tt, lit≤ tt), ((lit< tt, lit≤ tt), tt))
all_fit (suc zero) = ((lit< tt, lit≤ tt), ((lit< tt, lit≤ tt), tt))
all_fit (suc (suc zero)) = ((lit< tt, lit≤ tt), ((lit< tt, lit≤ tt), tt))
all_fit (suc (suc (suc zero))) = ((lit< tt, lit≤ tt), ((lit< tt, lit≤ tt), tt))
all_fit (suc (suc (suc (suc v)))) = tt

two_arcs : (v : ℕ) → v < 4 → length (example.arcs v) ≡ 2
two_arcs zero h = refl
two_arcs (suc zero) h = refl
two_arcs (suc (suc zero)) h = refl
two_arcs (suc (suc (suc zero))) h = refl
two_arcs (suc (suc (suc (suc v)))) h = absurd (omega arith)

arc_fits : (v i : ℕ) (a : Arc) → arc_at example v i ≡ Some a → Fits a
arc_fits v i a e = all_nth Fits (example.arcs v) i a (all_fit v) (arc_there example v i a e).1

pub example_lawful : Lawful example
example_lawful = record {
  few_positions = lit≤ tt;
  low_top = lit≤ tt;
  some_arc = λ v h. rw (two_arcs v h) (omega arith);
  few_arcs = λ v h. rw (two_arcs v h) (omega arith);
  target_inside = λ v i a e. (arc_fits v i a e).0;
  priority_low = λ v i a e. (arc_fits v i a e).1;
}

-- a move has one of two priorities, or is lower and leads to a smaller position
abbrev Sorted : ℕ → ℕ → ℕ → ℕ → ℕ → Type 0
Sorted high mid u w p = (p ≡ high) ⊎ ((p ≡ mid) ⊎ ((p ≤ mid) × (w < u)))

-- such moves make no closed walk whose highest priority is neither
module _ {Move : ℕ → ℕ → ℕ → Type 0} (high mid : ℕ) (below : mid ≤ high) (sorted : (u w p : ℕ) → Move u w p → Sorted high mid u w p) where
  high_or_mid : (v p : ℕ) (ps : List ℕ) → Walk Move v v (p ∷ ps) → (highest (p ∷ ps) ≡ high) ⊎ (highest (p ∷ ps) ≡ mid)
  high_or_mid v p ps walk =
      let low = highest_at_most high (λ u w q m. let h = sorted u w q m in omega arith) walk in
      elim (walk_meets {Other = λ u w q. (q ≡ mid) ⊎ ((q ≤ mid) × (w < u))} high sorted walk) [
        | inl met ↦ inl (omega arith)
        | inr lower ↦
            let least = highest_at_most mid (λ u w q (m : (q ≡ mid) ⊎ ((q ≤ mid) × (w < u))). omega arith) lower in
            elim (walk_meets {Other = λ u w q. (q ≤ mid) × (w < u)} mid (λ u w q m. m) lower) [
              | inl met ↦ inr (omega arith)
              | inr falling ↦ absurd (no_closed_walk (λ v. v) (λ u w q m. m.1) falling)
            ]
      ]

-- an arc from a position leads to a claimed one, and its move is sorted
abbrev Good : Plan → ℕ → ℕ → ℕ → Arc → Type 0
Good s high mid u a = (s.claims a.target ≡ true) × Sorted high mid u a.target a.priority

module _ (s : Plan) (high mid : ℕ) (below : mid ≤ high) where
  -- at each claimed position the chosen arc, or each arc where the rival moves, is good
  abbrev GoodArcs : Type 0
  GoodArcs = (u i : ℕ) (a : Arc) → s.claims u ≡ true → (example.mover u ≡ s.player → i ≡ s.choice u) → slice_get (example.arcs u) i ≡ Some a → Good s high mid u a

  example_wins : GoodArcs → ((v : ℕ) → s.claims v ≡ true → v < 4) → ((v : ℕ) → s.choice v < 2) → high % 2 ≡ parity s.player → mid % 2 ≡ parity s.player → Wins example s
  example_wins good exist choices high_fits mid_fits = record {
    choice_is_arc = λ v claimed mine. rw (two_arcs v (exist v claimed)) (choices v);
    claims_exist = exist;
    stays_claimed = λ u w p m. (good_move u w p m).0;
    closed_walks = λ v p ps walk. elim (high_or_mid high mid below (λ u w p m. (good_move u w p m).1) v p ps walk) [
      | inl e ↦ ap (λ x. x % 2) e ∙ high_fits
      | inr e ↦ ap (λ x. x % 2) e ∙ mid_fits
    ];
  }
    where
      good_move : (u w p : ℕ) → Follows example s u w p → (s.claims w ≡ true) × Sorted high mid u w p
      good_move u w p m = rw (← m.leads, ← m.costs) (good u m.number m.arc m.claimed m.chosen (arc_there example u m.number m.arc m.is_arc).1)

even_good : GoodArcs even_plan 4 2 (lit≤ tt)
even_good zero i a claimed chosen e = subst (Good even_plan 4 2 0) (same_Some _ a (rw (chosen refl) at e)) (refl, inl refl)
even_good (suc zero) i a claimed chosen e = absurd (both_ways false refl claimed)
even_good (suc (suc zero)) i a claimed chosen e =
    all_nth (Good even_plan 4 2 2) (example.arcs 2) i a ((refl, inr (inr (lit≤ tt, lit< tt))), ((refl, inr (inl refl)), tt)) e
even_good (suc (suc (suc zero))) i a claimed chosen e = absurd (both_ways false refl claimed)
even_good (suc (suc (suc (suc u)))) i a claimed chosen e = absurd (none-some a e)

odd_good : GoodArcs odd_plan 5 3 (lit≤ tt)
odd_good zero i a claimed chosen e = absurd (both_ways false refl claimed)
odd_good (suc zero) i a claimed chosen e = subst (Good odd_plan 5 3 1) (same_Some _ a (rw (chosen refl) at e)) (refl, inr (inl refl))
odd_good (suc (suc zero)) i a claimed chosen e = absurd (both_ways false refl claimed)
odd_good (suc (suc (suc zero))) i a claimed chosen e =
    all_nth (Good odd_plan 5 3 3) (example.arcs 3) i a ((refl, inl refl), ((refl, inr (inr (lit≤ tt, lit< tt))), tt)) e
odd_good (suc (suc (suc (suc u)))) i a claimed chosen e = absurd (none-some a e)

-- a list of claims claims nothing past its end
claims_end : (bs : List Bool) (v : ℕ) → get_or bs v false ≡ true → v < length bs
claims_end bs v claimed = grind (arith, get_or_past)

even_choices : (v : ℕ) → even_plan.choice v < 2
even_choices zero = lit< tt
even_choices (suc v) = lit< tt

odd_choices : (v : ℕ) → odd_plan.choice v < 2
odd_choices zero = lit< tt
odd_choices (suc zero) = lit< tt
odd_choices (suc (suc v)) = lit< tt

pub even_wins : Wins example even_plan
even_wins = example_wins even_plan 4 2 (lit≤ tt) even_good (claims_end (true ∷ false ∷ true ∷ false ∷ [])) even_choices refl refl

pub odd_wins : Wins example odd_plan
odd_wins = example_wins odd_plan 5 3 (lit≤ tt) odd_good (claims_end (false ∷ true ∷ false ∷ true ∷ [])) odd_choices refl refl
