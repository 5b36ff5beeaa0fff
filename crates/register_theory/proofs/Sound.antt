-- What closed heights keep is not the other player's: against them that player's plan goes round a closed walk.
use Rattle.std.proofs.Common.{◌≡◌, ℕ, zero, suc, ◌+◌, ◌-◌, ◌*◌, ◌/◌, ◌%◌, ◌<◌, ◌≤◌, true, ◌&&◌, leb, List, [], ◌∷◌, length, get_or, replicate, Some, sym, refl, ap, ◌∙◌, subst, ap₂, inl, inr, arith}
use Rattle.std.proofs.lemmas.List.{length-replicate}
use Rattle.std.proofs.lemmas.Bool.{and_parts, leb-true}
use Rattle.game.specs.declared.Player.{Player}
use Rattle.game.specs.declared.Player.TheVariants.{Even, Odd}
use Rattle.game.specs.declared.Arc.{Arc}
use Rattle.game.specs.Game.{Game, Lawful, arc_at, parity}
use Rattle.game.specs.Plans.{Plan, Follows, Walk, Wins, Winnable}
use Rattle.game.specs.Plans.Walk.{stay, step}
use Rattle.game.specs.Layers.{swapped}
use Rattle.game.proofs.Layers.{swapped_lawful}
use Rattle.toolkit.specs.Finite.{Twice}
use Rattle.toolkit.proofs.Pigeonhole.{pigeonhole}
use Rattle.determinacy.specs.Layers.{plan}
use Rattle.determinacy.proofs.Players.{cases_player, not_both, parities_differ}
use Rattle.determinacy.proofs.Subgames.{arc, arc_known}
use Rattle.determinacy.proofs.Regions.{each_belongs, belongs_from}
use Rattle.determinacy.proofs.Swap.{swapped_size, exchanged}
use Rattle.rows.specs.Rows.{rows}
use Rattle.rows.specs.Registers.{updated}
use Rattle.rows.proofs.Held.{zeros_row}
use Rattle.heights.specs.Climb.{lost, climb}
use Rattle.registers.specs.Layer.{arc_total, stands, row_count, layer}
use Rattle.register_theory.specs.Doubling.{State, chosen, toll, DoubleStep, DoubleWalk}
use Rattle.register_theory.specs.Doubling.DoubleWalk.{stay as stay_double, step as step_double}
use Rattle.register_theory.specs.Kept.{Kept, KeptIsWon, KeptSwappedIsWon, NeverBoth}
use Rattle.heights.proofs.Ladder.{counters_sound}
use Rattle.register_theory.proofs.Climbing.{base_positive, climbed_from_kept}
use Rattle.register_theory.proofs.Cells.{cell, cell_at, cell_row, cell_inside, chosen_state}
use Rattle.register_theory.proofs.Doubly.{Affords, Doubly, doubly_from_closed}
use Rattle.register_theory.proofs.Contents.{contents, cost_at_most_one, toll_is, zeros_number}
use Rattle.register_theory.proofs.EvenBelow.{even_below}

-- Moves that lead on from each position of a kind to another, all of them below n, make a closed walk.
module _ {Move : ℕ → ℕ → ℕ → Type 0} {In : ℕ → Type 0} (on : (x : ℕ) → In x → (y q : ℕ) × Move x y q × In y) (v : ℕ) (inside : In v) where
  orbit : ℕ → (x : ℕ) × In x
  orbit zero = (v, inside)
  orbit (suc d) = let last = orbit d in let next = on last.0 last.1 in (next.0, next.3)

  orbit_move : (d : ℕ) → (q : ℕ) × Move (orbit d).0 (orbit (suc d)).0 q
  unfolding orbit
  orbit_move d = let next = on (orbit d).0 (orbit d).1 in (next.1, next.2)

  orbit_walk : (d i m : ℕ) → m ≡ i + d → (ps : List ℕ) × Walk Move (orbit i).0 (orbit m).0 ps
  orbit_walk zero i m e = let same : m ≡ i = omega arith in rw same ([], stay)
  orbit_walk (suc d) i m e =
      let here = orbit_move i in
      let more = orbit_walk d (suc i) m (omega arith) in
      (here.0 ∷ more.0, step here.1 more.1)

  pub closed_walk_among : (n : ℕ) → ((x : ℕ) → In x → x < n) → (u p : ℕ) × (ps : List ℕ) × Walk Move u u (p ∷ ps)
  closed_walk_among n below = found (pigeonhole n (λ i. (orbit i).0) (λ i l. below (orbit i).0 (orbit i).1))
    where
      found : Twice n (λ i. (orbit i).0) → (u p : ℕ) × (ps : List ℕ) × Walk Move u u (p ∷ ps)
      found (i, j, less, l, e) =
          let here = orbit_move i in
          let more = orbit_walk (j - suc i) (suc i) j (omega arith) in
          ((orbit i).0, here.0, more.0, subst (λ x. Walk Move (orbit i).0 x (here.0 ∷ more.0)) (sym e) (step here.1 more.1))

-- Heights of states against a winning plan of Odd's.
module _ (g : Game) (lawful : Lawful g) (r : ℕ) (H : ℕ → List ℕ → ℕ) (doubly : Doubly g r H) (t : Plan) (wins : Wins g t) (odd : t.player ≡ Odd) where
  abbrev R : ℕ
  R = row_count r g

  -- the position below and the row of a number
  place : ℕ → ℕ
  place x = x / R

  row_of : ℕ → List ℕ
  row_of x = get_or (rows r g.top) (x % R) []

  height_of : ℕ → ℕ
  height_of x = H (place x) (row_of x)

  -- a number whose state is claimed by the plan and not lost
  record KeptClaimed (x : ℕ) : Type 0 where
    pub inside : x < (layer r g).size
    pub state : State g r (place x) (row_of x)
    pub claimed : t.claims (place x) ≡ true
    pub low : height_of x < lost g.size r

  -- a double step by which the heights climb, and which follows the plan below
  record Both (x y q : ℕ) : Type 0 where
    pub below : ℕ
    pub whole : length (row_of x) ≡ r
    pub double : DoubleStep g r (place x) (row_of x) (place y) (row_of y) below q
    pub follows : Follows g t (place x) (place y) below
    pub climbs : climb g.size r (height_of y) q ≤ height_of x
    pub low : height_of x < lost g.size r

  -- the arc that the plan allows against a choice of Even's, and the choice after it
  module _ (x : ℕ) (k : KeptClaimed x) where
    answer : (i : ℕ) × (a : Arc) × (arc_at g (place x) i ≡ Some a) × (g.mover (place x) ≡ t.player → i ≡ t.choice (place x)) × Affords g r H (place x) (row_of x) a
    unfolding height_of
    answer = elim (cases_player (g.mover (place x)) Even) [
      | inl mine ↦
          let (i, a, is_arc, afforded) = doubly.evens (place x) (row_of x) k.state k.low mine in
          (i, a, is_arc, λ m. absurd (not_both (g.mover (place x)) Even mine (m ∙ odd)), afforded)
      | inr theirs ↦
          let i = t.choice (place x) in
          let is_arc = arc_known g (place x) i k.state.0 (wins.choice_is_arc (place x) k.claimed (theirs ∙ sym odd)) in
          (i, arc g (place x) i, is_arc, λ m. refl, doubly.odds (place x) (row_of x) k.state k.low theirs i (arc g (place x) i) is_arc)
    ]

    goes : (i : ℕ) (a : Arc) → arc_at g (place x) i ≡ Some a → (g.mover (place x) ≡ t.player → i ≡ t.choice (place x)) → (j : ℕ) → j ≤ r →
        climb g.size r (H a.target (chosen j (updated a.priority (row_of x)))) (toll j (updated a.priority (row_of x))) ≤ H (place x) (row_of x) →
        State g r a.target (chosen j (updated a.priority (row_of x))) → (y q : ℕ) × Both x y q × KeptClaimed y
    unfolding place row_of height_of
    goes i a is_arc fits j a_choice under next =
        let last = chosen j (updated a.priority (row_of x)) in
        let q = toll j (updated a.priority (row_of x)) in
        let y = cell r g a.target last in
        let at = cell_at r g last next.1 next.2 a.target in
        let holds = cell_row r g last next.1 next.2 a.target in
        let same : height_of y ≡ H a.target last = ap₂ H at holds in
        let follows : Follows g t (place x) (place y) a.priority = record { number = i; arc = a; claimed = k.claimed; is_arc = is_arc; chosen = fits; leads = sym at; costs = refl } in (
          y,
          q,
          record {
            below = a.priority;
            whole = k.state.2;
            double = record { number = i; arc = a; choice = j; is_arc = is_arc; leads = sym at; costs = refl; a_choice = a_choice; next_row = sym holds; price = refl };
            follows = follows;
            climbs = rw same under;
            low = k.low;
          },
          record {
            inside = (let l = next.0 in cell_inside r g last next.1 next.2 a.target (omega arith));
            state = rw (at, holds) next;
            claimed = wins.stays_claimed (place x) (place y) a.priority follows;
            low = rw same (climbed_from_kept g.size r (H a.target last) (H (place x) (row_of x)) q under k.low);
          },
        )

    on : (y q : ℕ) × Both x y q × KeptClaimed y
    on =
        let (i, a, is_arc, fits, (j, a_choice, under)) = answer in
        goes i a is_arc fits j a_choice under (chosen_state g lawful r (place x) (row_of x) k.state i a is_arc j a_choice)

  -- a walk of such steps is a walk of double steps, and follows the plan below
  walks : {x y : ℕ} {qs : List ℕ} → Walk Both x y qs → (ps : List ℕ) × DoubleWalk g r (place x) (row_of x) (place y) (row_of y) ps qs × Walk (Follows g t) (place x) (place y) ps
  walks stay = ([], stay_double, stay)
  walks (step m walk) = let more = walks walk in (m.below ∷ more.0, step_double m.double more.1, step m.follows more.2)

  walks_more : {x y q : ℕ} {qs : List ℕ} → Walk Both x y (q ∷ qs) → (p : ℕ) × (ps : List ℕ) × (length (row_of x) ≡ r) × DoubleWalk g r (place x) (row_of x) (place y) (row_of y) (p ∷ ps) (q ∷ qs) × Walk (Follows g t) (place x) (place y) (p ∷ ps)
  walks_more (step m walk) = let more = walks walk in (m.below, more.0, m.whole, step_double m.double more.1, step m.follows more.2)

  -- the price of a step is low
  low_price : {x y q : ℕ} → Both x y q → q ≤ 2 * r + 1
  low_price {x} m =
      let price = toll_is r m.below (row_of x) m.whole m.double.choice m.double.a_choice in
      let paid = m.double.price in
      let few = m.double.a_choice in
      let cheap = cost_at_most_one (contents (row_of x)) m.below m.double.choice in
      omega arith

  some_positions : {x y q : ℕ} {qs : List ℕ} → Walk Both x y (q ∷ qs) → 1 ≤ g.size
  some_positions (step {u = u} m walk) = base_positive g.size r (height_of u) m.low

  -- the heights say that such a closed walk is even above, the plan says that it is odd below
  no_closed_both : (x q : ℕ) × (qs : List ℕ) × Walk Both x x (q ∷ qs) → ⊥
  no_closed_both (x, q, qs, walk) =
      let (p, ps, whole, double, follows) = walks_more walk in
      let above = counters_sound g.size r (some_positions walk) height_of (λ a b c m. (low_price m, m.climbs, m.low)) walk in
      let below = even_below g r (place x) p q (row_of x) ps qs whole double above in
      let odd_below = wins.closed_walks (place x) p ps follows in
      parities_differ Even (sym below ∙ odd_below ∙ ap parity odd)

  -- so no claimed position is kept
  pub not_both_kept : (v : ℕ) (row : List ℕ) → State g r v row → t.claims v ≡ true → H v row < lost g.size r → ⊥
  unfolding place row_of height_of
  not_both_kept v row state claimed low =
      let at = cell_at r g row state.1 state.2 v in
      let holds = cell_row r g row state.1 state.2 v in
      let same : height_of (cell r g v row) ≡ H v row = ap₂ H at holds in
      let start : KeptClaimed (cell r g v row) = record {
        inside = (let l = state.0 in cell_inside r g row state.1 state.2 v (omega arith));
        state = rw (at, holds) state;
        claimed = rw (at) claimed;
        low = rw same low;
      } in
      no_closed_both (closed_walk_among {Move = Both} {In = KeptClaimed} on (cell r g v row) start (layer r g).size (λ x k. k.inside))

-- where the layer stands there is a register, and the top is low
pub stands_parts : (r : ℕ) (g : Game) → stands r g ≡ true → (1 ≤ r) × (g.top ≤ 9)
stands_parts r g e =
    let one = and_parts (leb 1 r && leb r 5) (leb g.size 16 && leb g.top 9 && leb (arc_total g) 64) e in
    let two = and_parts (leb 1 r) (leb r 5) one.0 in
    let three = and_parts (leb g.size 16 && leb g.top 9) (leb (arc_total g) 64) one.1 in
    let four = and_parts (leb g.size 16) (leb g.top 9) three.0 in
    (leb-true 1 r two.0, leb-true g.top 9 four.1)

-- the state of a position with the row of zeros, and its number
pub zeros_state : (r : ℕ) (g : Game) (v : ℕ) → v < g.size → State g r v (replicate r 0)
zeros_state r g v h = (h, zeros_row g.top r, length-replicate {A = ℕ} r 0)

pub zeros_cell : (r : ℕ) (g : Game) (v : ℕ) → cell r g v (replicate r 0) ≡ v * row_count r g
zeros_cell r g v = let e = zeros_number r g.top in omega arith

-- Kept, said of heights of states, whether least or not.
abbrev pub DoublyKept : ℕ → Game → ℕ → Type 0
DoublyKept r g v = (H : ℕ → List ℕ → ℕ) × Doubly g r H × (H v (replicate r 0) < lost g.size r)

pub doubly_kept : (r : ℕ) (g : Game) (v : ℕ) → Lawful g → stands r g ≡ true → Kept r g v → DoublyKept r g v
doubly_kept r g v lawful e (h, least, low) =
    (λ v row. h (cell r g v row), doubly_from_closed r g lawful e h least.closed, rw (zeros_cell r g v) low)

pub kept_is_won_lem : (r : ℕ) (g : Game) → Lawful g → stands r g ≡ true → KeptIsWon r g
kept_is_won_lem r g lawful e v h kept = elim (each_belongs g lawful v h) [
  | inl even ↦ even
  | inr odd ↦
      let (H, doubly, low) = doubly_kept r g v lawful e kept in
      let (t, wins, is_odd, claimed) = odd.winnable in
      absurd (not_both_kept g lawful r H doubly t wins is_odd v (replicate r 0) (zeros_state r g v h) claimed low)
]

-- what Even wins on the swapped game, Odd wins below, and the other way
pub winnable_below : (g : Game) → g.top < 250 → (v : ℕ) → Winnable (swapped g) Even v → Winnable g Odd v
winnable_below g low v (s, wins, is_even, claimed) =
    (plan Odd s.claims s.choice, (exchanged g Odd low s.claims s.choice).1 (subst (λ (p : Player). Wins (swapped g) (plan p s.claims s.choice)) is_even wins), refl, claimed)

pub winnable_above : (g : Game) → g.top < 250 → (v : ℕ) → Winnable g Odd v → Winnable (swapped g) Even v
winnable_above g low v (s, wins, is_odd, claimed) =
    (plan Even s.claims s.choice, (exchanged g Odd low s.claims s.choice).0 (subst (λ (p : Player). Wins g (plan p s.claims s.choice)) is_odd wins), refl, claimed)

pub kept_swapped_is_won_lem : (r : ℕ) (g : Game) → Lawful g → g.top < 250 → stands r (swapped g) ≡ true → KeptSwappedIsWon r g
kept_swapped_is_won_lem r g lawful low e v h kept =
    belongs_from g Odd v (winnable_below g low v (kept_is_won_lem r (swapped g) (swapped_lawful g lawful) e v (rw (swapped_size g low) h) kept).winnable)

pub never_both : (r s : ℕ) (g : Game) → Lawful g → stands r g ≡ true → stands s (swapped g) ≡ true → NeverBoth r s g
never_both r s g lawful e f v h mine theirs =
    let low : g.top < 250 = (let l = (stands_parts r g e).1 in omega arith) in
    (kept_is_won_lem r g lawful e v h mine).not_rivals (kept_swapped_is_won_lem s g lawful low f v h theirs).winnable
