-- The games with one loop, decided from the definition of winning.
use Rattle.std.proofs.Common.{◌≡◌, ℕ, zero, suc, ◌%◌, ◌≤◌, true, ltb, List, [], ◌∷◌, Some, sym, refl, ap, ◌∙◌, arith, lit<}
use Rattle.std.proofs.lemmas.Bool.{ltb-true}
use Rattle.std.specs.List.{slice_get}
use Rattle.std.proofs.lemmas.Option.{none-some}
use Rattle.game.specs.declared.Player.{Player}
use Rattle.game.specs.declared.Player.TheVariants.{Even, Odd}
use Rattle.game.specs.declared.Arc.{Arc}
use Rattle.game.specs.Game.{parity}
use Rattle.game.specs.Plans.{Plan, Follows, Walk, Wins, Winnable, highest}
use Rattle.game.specs.Plans.Walk.{stay, step}
use Rattle.game.specs.Loops.{lone_loop, LoneLoopsDecided}
use Rattle.game.proofs.Arcs.{arc_there}

abbrev loop : ℕ → Arc
loop p = record { target = 0; priority = p }

only_arc : (p i : ℕ) (a : Arc) → slice_get (loop p ∷ []) i ≡ Some a → (a.target ≡ 0) × (a.priority ≡ p)
only_arc p zero a e = let f : loop p ≡ a = cc in (sym (ap (λ (x : Arc). x.target) f), sym (ap (λ (x : Arc). x.priority) f))
only_arc p (suc i) a e = absurd (none-some a e)

module _ (p : ℕ) (s : Plan) where
  move_is : (u w q : ℕ) → Follows (lone_loop p) s u w q → (w ≡ 0) × (q ≡ p)
  move_is u w q m =
      let e = only_arc p m.number m.arc (arc_there (lone_loop p) u m.number m.arc m.is_arc).1 in
      (sym m.leads ∙ e.0, sym m.costs ∙ e.1)

  not_above : {u w : ℕ} {ps : List ℕ} → Walk (Follows (lone_loop p) s) u w ps → highest ps ≤ p
  not_above stay = omega arith
  not_above (step {u = u} {v = v} {p = q} m more) = let e = move_is u v q m in let h = not_above more in omega arith

  highest_is : {u w q : ℕ} {ps : List ℕ} → Walk (Follows (lone_loop p) s) u w (q ∷ ps) → highest (q ∷ ps) ≡ p
  highest_is (step {u = u} {v = v} {p = q} m more) = let e = move_is u v q m in let h = not_above more in omega arith

-- claiming the one position, and choosing its one arc
abbrev simple : Player → Plan
simple player = record { player = player; claims = λ v. ltb v 1; choice = λ v. 0 }

simple_wins : (p : ℕ) (player : Player) → p % 2 ≡ parity player → Wins (lone_loop p) (simple player)
simple_wins p player fits = record {
  choice_is_arc = λ v c m. lit< tt;
  claims_exist = λ v c. ltb-true v 1 c;
  stays_claimed = λ v w q m. rw (move_is p (simple player) v w q m).0 refl;
  closed_walks = λ v q ps walk. ap (λ x. x % 2) (highest_is p (simple player) walk) ∙ fits;
}

-- the loop as a move, whichever player the plan belongs to
the_move : (p : ℕ) (s : Plan) → Wins (lone_loop p) s → s.claims 0 ≡ true → Follows (lone_loop p) s 0 0 p
the_move p s wins claimed = record {
  number = 0;
  arc = loop p;
  claimed = claimed;
  is_arc = refl;
  chosen = λ m. let h = wins.choice_is_arc 0 claimed m in omega arith;
  leads = refl;
  costs = refl;
}

needs_parity : (p : ℕ) (player : Player) → Winnable (lone_loop p) player 0 → p % 2 ≡ parity player
needs_parity p player (s, wins, owner, claimed) =
    let e = wins.closed_walks 0 p [] (step (the_move p s wins claimed) stay) in
    rw (← owner) (omega arith)

pub lone_loops_decided_lem : LoneLoopsDecided
lone_loops_decided_lem = (
  record {
    winnable = (simple Even, simple_wins 0 Even refl, refl, refl);
    not_rivals = λ w. let e : ◌≡◌ {A = ℕ} 0 1 = needs_parity 0 Odd w in omega arith;
  },
  record {
    winnable = (simple Odd, simple_wins 7 Odd refl, refl, refl);
    not_rivals = λ w. let e : ◌≡◌ {A = ℕ} 1 0 = needs_parity 7 Even w in omega arith;
  },
)
