-- A small game as it is copied: its arcs numbered through, and the number of each position's first arc.
use Rattle.std.specs.Prelude.{◌≡◌, ℕ, zero, suc, ◌+◌, ◌-◌, ◌<◌, ◌≤◌, Bool, cond, ◌&&◌, List, ◌++◌, length, take, drop, Some, None, Option, nat_le, nat_lt, slice_index_or}
use Rattle.std.proofs.Common.{sym, ap, ◌∙◌, add-one, arith}
use Rattle.std.specs.List.{between, slice_get}
use Rattle.std.proofs.lemmas.List.Edits.{length-between, get_or-between}
use Rattle.std.proofs.lemmas.List.{take-take, take-append-drop, drop-take, take_all, length-take-le, get_or_past}
use Rattle.std.proofs.lemmas.Option.{same_Some, slice_get-get_or, slice_get_within}
use Rattle.game.specs.declared.Player.TheVariants.{Even}
use Rattle.game.specs.declared.Arc.{Arc}
use Rattle.game.specs.Game.{Game, Lawful, arc_at}
use Rattle.game.proofs.Arcs.{arc_there}
use Rattle.registers.specs.declared.position.Position.{Position}
use Rattle.registers.specs.Layer.{arcs_below, first_arc, arc_total, no_arc}

-- What stands at place v of the positions; behind them Even, and the place behind the arcs.
abbrev pub position_in : List Position → List Arc → ℕ → Position
position_in positions arcs v = slice_index_or positions v (record { mover = Even; first = length arcs; count = 0 })

-- The arcs of position v are so many from its first on.
abbrev pub copied : ℕ → List Position → List Arc → Game
copied top positions arcs = record {
  size = length positions;
  top = top;
  mover = λ v. (position_in positions arcs v).mover;
  arcs = λ v. between (position_in positions arcs v).first ((position_in positions arcs v).first + (position_in positions arcs v).count) arcs;
}

-- The number of arc i of position v.
abbrev pub arc_number : List Position → List Arc → ℕ → ℕ → Option ℕ
arc_number positions arcs v i = cond (nat_lt i (position_in positions arcs v).count) (Some ((position_in positions arcs v).first + i)) None

-- Arc e leads to a position, and has no priority above top.
abbrev pub ArcInside : ℕ → ℕ → List Arc → ℕ → Type 0
ArcInside size top arcs e = ((slice_index_or arcs e no_arc).target < size) × ((slice_index_or arcs e no_arc).priority ≤ top)

-- At most 16 positions, priorities up to 9, and 64 arcs altogether.
abbrev pub fits : Game → Bool
fits g = nat_le g.size 16 && nat_le g.top 9 && nat_le (arc_total g) 64

-- Two games that differ at most in what they say of numbers that are no positions.
pub record Alike (g h : Game) : Type 0 where
  pub same_size : h.size ≡ g.size
  pub same_top : h.top ≡ g.top
  pub same_mover : (v : ℕ) → v < g.size → h.mover v ≡ g.mover v
  pub same_arcs : (v : ℕ) → v < g.size → h.arcs v ≡ g.arcs v

take_between : {X : Type 0} (i j : ℕ) (xs : List X) → i ≤ j → take i xs ++ between i j xs ≡ take j xs
take_between i j xs h =
    let e : i + (j - i) ≡ j = omega arith in
    ap (λ ys. take i xs ++ ys) (sym (drop-take i (j - i) xs) ∙ ap (λ n. drop i (take n xs)) e) ∙
    ap (λ ys. ys ++ drop i (take j xs)) (sym (take-take i j xs h)) ∙
    take-append-drop i (take j xs)

-- The positions fit the list of arcs: their arcs begin at 0 and follow one another up to the end, and every position has an arc.
pub record Spans (positions : List Position) (arcs : List Arc) : Type 0 where
  pub starts : (position_in positions arcs 0).first ≡ 0
  pub follows : (v : ℕ) → v < length positions →
      (position_in positions arcs (v + 1)).first ≡ (position_in positions arcs v).first + (position_in positions arcs v).count
  pub leaves : (v : ℕ) → v < length positions → 1 ≤ (position_in positions arcs v).count

module _ {positions : List Position} {arcs : List Arc} (spans : Spans positions arcs) where
  abbrev first : ℕ → ℕ
  first v = (position_in positions arcs v).first

  abbrev count : ℕ → ℕ
  count v = (position_in positions arcs v).count

  ends : first (length positions) ≡ length arcs
  ends = ap (λ (p : Position). p.first) (get_or_past positions (length positions) _ (omega arith))

  first_under : (d v : ℕ) → v + d ≡ length positions → first v ≤ length arcs
  first_under zero v e = let same : v ≡ length positions = omega arith in let h = ends in rw same (omega arith)
  first_under (suc d) v e = let l = spans.follows v (omega arith) in let h = first_under d (v + 1) (omega arith) in omega arith

  pub first_inside : (v : ℕ) → v ≤ length positions → (position_in positions arcs v).first ≤ length arcs
  first_inside v h = first_under (length positions - v) v (omega arith)

  pub last_inside : (v : ℕ) → v < length positions → (position_in positions arcs v).first + (position_in positions arcs v).count ≤ length arcs
  last_inside v h = let l = spans.follows v h in let m = first_under (length positions - (v + 1)) (v + 1) (omega arith) in omega arith

  module _ (top : ℕ) where
    arcs_taken : (v : ℕ) → v ≤ length positions → arcs_below (copied top positions arcs) v ≡ take (first v) arcs
    arcs_taken zero h = rw spans.starts
    arcs_taken (suc v) h =
        ap (λ xs. xs ++ between (first v) (first v + count v) arcs) (arcs_taken v (omega arith)) ∙
        take_between (first v) (first v + count v) arcs (omega arith) ∙
        ap (λ n. take n arcs) (sym (spans.follows v h)) ∙
        ap (λ n. take (first n) arcs) (add-one v)

    -- the copy's arcs, numbered through, are the list
    pub first_is : (v : ℕ) → v ≤ length positions → first_arc (copied top positions arcs) v ≡ (position_in positions arcs v).first
    first_is v h = ap length (arcs_taken v h) ∙ length-take-le (first v) arcs (first_inside v h)

    pub all_arcs : arcs_below (copied top positions arcs) (length positions) ≡ arcs
    all_arcs = arcs_taken (length positions) (omega arith) ∙ ap (λ n. take n arcs) ends ∙ take_all (length arcs) arcs (omega arith)

    pub copied_count : (v : ℕ) → v < length positions → length ((copied top positions arcs).arcs v) ≡ (position_in positions arcs v).count
    copied_count v h = let n = length-between arcs (first v) (first v + count v) (last_inside v h) in omega arith

    -- arc i of position v is the arc that many places after its first
    pub copied_arc : (v i : ℕ) → v < length positions → i < (position_in positions arcs v).count →
        slice_get ((copied top positions arcs).arcs v) i ≡ Some (slice_index_or arcs ((position_in positions arcs v).first + i) no_arc)
    copied_arc v i h l =
        let n = copied_count v h in
        slice_get-get_or ((copied top positions arcs).arcs v) i no_arc (omega arith) ∙
        ap Some (get_or-between arcs (first v) (first v + count v) i no_arc (omega arith))

    module _ (few : length positions ≤ 16) (low : top ≤ 9) (narrow : length arcs ≤ 64)
        (inside : (e : ℕ) → e < length arcs → ArcInside (length positions) top arcs e) where
      each_inside : (v i : ℕ) (a : Arc) → arc_at (copied top positions arcs) v i ≡ Some a → (a.target < length positions) × (a.priority ≤ top)
      each_inside v i a e =
          let there = arc_there (copied top positions arcs) v i a e in
          let n = copied_count v there.0 in
          let l = slice_get_within ((copied top positions arcs).arcs v) i a there.1 in
          let m = last_inside v there.0 in
          rw (← same_Some _ a (sym (copied_arc v i there.0 (omega arith)) ∙ there.1)) (inside (first v + i) (omega arith))

      pub copied_lawful : Lawful (copied top positions arcs)
      copied_lawful = record {
        few_positions = omega arith;
        low_top = omega arith;
        some_arc = λ v h. (let n = copied_count v h in let l = spans.leaves v h in omega arith);
        few_arcs = λ v h. (let n = copied_count v h in let m = last_inside v h in omega arith);
        target_inside = λ v i a e. (each_inside v i a e).0;
        priority_low = λ v i a e. (each_inside v i a e).1;
      }
