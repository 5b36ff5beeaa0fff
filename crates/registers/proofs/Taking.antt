-- Copying a game position by position.
use Rattle.std.proofs.Common.{◌≡◌, ℕ, zero, suc, ◌+◌, ◌-◌, ◌<◌, ◌≤◌, true, false, ◌&&◌, ltb, leb, List, [], ◌∷◌, ◌++◌, length, get_or, take, drop, Some, Ok, Err, Result, sym, refl, ap, ◌∙◌, inl, inr, add-one, arith}
use Rattle.std.specs.Iterator.{ExtendsWithItems, YieldsFirst, YieldsThen}
use Rattle.std.specs.List.{between}
use Rattle.std.specs.Result.{OnErr, is_ok}
use Rattle.std.proofs.lemmas.Iterator.Adapters.{items_from_extend}
use Rattle.std.proofs.lemmas.Iterator.Consumers.{YieldsList-from_first}
use Rattle.std.proofs.lemmas.List.{append_assoc, append-nil, length-append, length_push, get_or_append_left, get_or_push, get_or_past, take_at, drop_at}
use Rattle.std.proofs.lemmas.Option.{cond_some, slice_get-get_or}
use Rattle.std.proofs.lemmas.Bool.{cases_lt, cond-true, lt-ltb, le-leb, lt-leb, and_from, and_right}
use Rattle.game.specs.declared.Player.{Player}
use Rattle.game.specs.declared.Player.TheVariants.{Even}
use Rattle.game.specs.declared.Arc.{Arc}
use Rattle.game.specs.Game.{Game, Lawful, mover_at}
use Rattle.arena.specs.Arcs.{arcs_from}
use Rattle.arena.specs.declared.arcs.Arcs.{Arcs}
use Rattle.registers.specs.declared.position.Position.{Position}
use Rattle.registers.specs.Layer.{arcs_below, first_arc, arc_total, no_arc}
use Rattle.registers.specs.Arcs.{first_grows, arc_below}
use Rattle.registers.specs.Copies.{position_in, copied, fits, ArcInside, Alike, Spans}

-- a position as it is copied, and the positions below one
abbrev pub taken : Game → ℕ → Position
taken g v = record { mover = g.mover v; first = first_arc g v; count = length (g.arcs v) }

abbrev pub positions_below : Game → ℕ → List Position
positions_below g zero = []
positions_below g (suc v) = positions_below g v ++ taken g v ∷ []

pub positions_counted : (g : Game) (n : ℕ) → length (positions_below g n) ≡ n
positions_counted g zero = refl
positions_counted g (suc n) =
    length_push (positions_below g n) (taken g n) ∙ ap (λ m. m + 1) (positions_counted g n) ∙ add-one n

position_is : (g : Game) (n v : ℕ) (d : Position) → v < n → get_or (positions_below g n) v d ≡ taken g v
position_is g zero v d h = absurd (omega arith)
position_is g (suc n) v d h =
    let last : Position = taken g n in
    let long = positions_counted g n in
    elim (cases_lt v n) [
      | inl l ↦ get_or_append_left (positions_below g n) (last ∷ []) d v (omega arith) ∙ position_is g n v d l
      | inr l ↦
          let same : v ≡ n = omega arith in
          get_or_push (positions_below g n) last d v (omega arith) ∙ ap (taken g) (sym same)
    ]

pub position_more : (g : Game) (v : ℕ) (xs ys : List Position) (p : Player) (n m : ℕ) → xs ≡ positions_below g v → ys ≡ xs ++ record { mover = p; first = n; count = m } ∷ [] →
    Some p ≡ mover_at g v → n ≡ first_arc g v → m ≡ length (g.arcs v) → ys ≡ positions_below g (v + 1)
position_more g v xs ys p n m e f is first count =
    let mover = (cond_some (ltb v g.size) (g.mover v) p (sym is)).1 in
    f ∙
    ap (λ zs. zs ++ record { mover = p; first = n; count = m } ∷ []) e ∙
    ap (λ (q : Position). positions_below g v ++ q ∷ []) (λ i. record { mover = sym mover i; first = first i; count = count i }) ∙
    ap (positions_below g) (sym (add-one v))

-- where one more item came, not all had come
more_left : {S A : Type 0} (rest : S → List A) (s u : S) (xs : List A) (x : A) → YieldsThen (YieldsFirst rest) s xs (Some x) u → length xs < length (rest s)
more_left rest s u [] x (t, e, step) = let n = ap (λ j. length (rest j)) e in let m = ap length step in omega arith
more_left rest s u (y ∷ xs) x (t, (j, first, more), step) =
    let n = ap length first in
    let m = more_left rest j u xs x (t, more, step) in
    omega arith

-- a position's arcs are added behind those of the positions below it
abbrev left : {A : Type 0} → (A → Game) → Arcs A → List Arc
left game s = arcs_from (game s.arena.now) s.position s.next

module _ {A : Type 0} (game : A → Game) (g : Game) (v : ℕ) (there : v < g.size) (it : Arcs A) (before after : List Arc) where
  module _ (all : left game it ≡ arcs_from g v 0) (is : before ≡ arcs_below g v) where
    whole : left game it ≡ g.arcs v
    whole = all ∙ cond-true (ltb v g.size) (drop 0 (g.arcs v)) [] (lt-ltb v g.size there)

    pub arcs_added : {E : Type 0} (r : Result (Unit {0}) E) → true ≡ is_ok r → ExtendsWithItems (λ s t. t ≡ s) (YieldsFirst (left game)) (λ old xs new. new ≡ old ++ xs) it before after r → after ≡ arcs_below g (v + 1)
    arcs_added {E} (Err e) done ran = absurd (cc)
    arcs_added {E} (Ok x) done ran =
        items_from_extend {E = E} (Ok x) ran (YieldsList-from_first (λ a. a) (left game) (g.arcs v) whole) ∙
        ap (λ xs. xs ++ g.arcs v) is ∙
        ap (arcs_below g) (sym (add-one v))

    pub too_many : {E : Type 0} (r : Result (Unit {0}) E) → false ≡ is_ok r → OnErr r (length after ≡ 64) →
        OnErr r ((s : Arcs A) × (xs : List Arc) × (a : Arc) × (u : Arcs A) × (s ≡ it) × YieldsThen (YieldsFirst (left game)) s xs (Some a) u × (after ≡ before ++ xs)) →
        fits g ≡ false
    too_many (Ok x) failed full one_more = absurd (cc)
    too_many (Err e) failed full (s, xs, a, u, of, more, joined) =
        let fewer = more_left (left game) s u xs a more in
        let of_all = ap (λ t. length (left game t)) of ∙ ap length whole in
        let m = ap length (joined ∙ ap (λ ys. ys ++ xs) is) in
        let n = length-append (arcs_below g v) xs in
        let t = length-append (arcs_below g v) (g.arcs v) in
        let k = first_grows g (suc v) g.size there in
        and_right (leb g.size 16 && leb g.top 9) (leb (arc_total g) 64) (lt-leb (arc_total g) 64 (omega arith))

-- the arcs of a position stand among all where its first arc stands
arcs_rest : (g : Game) (v n : ℕ) → v ≤ n → (rest : List Arc) × (arcs_below g n ≡ arcs_below g v ++ rest)
arcs_rest g v zero h = let e : v ≡ 0 = omega arith in ([], rw e refl)
arcs_rest g v (suc n) h = elim (cases_lt n v) [
  | inl l ↦ let e : v ≡ suc n = omega arith in ([], rw e (sym (append-nil (arcs_below g (suc n)))))
  | inr l ↦
      let (rest, e) = arcs_rest g v n l in
      (rest ++ g.arcs n, ap (λ xs. xs ++ g.arcs n) e ∙ append_assoc (arcs_below g v) rest (g.arcs n))
]

arcs_between : (g : Game) (v n : ℕ) → v < n → between (first_arc g v) (first_arc g (suc v)) (arcs_below g n) ≡ g.arcs v
arcs_between g v n h =
    let (rest, e) = arcs_rest g (suc v) n h in
    let s = length-append (arcs_below g v) (g.arcs v) in
    let k : ℕ = first_arc g (suc v) - first_arc g v in
    ap (λ xs. take k (drop (first_arc g v) xs)) (e ∙ append_assoc (arcs_below g v) (g.arcs v) rest) ∙
    ap (λ xs. take k xs) (drop_at (arcs_below g v) (g.arcs v ++ rest) (first_arc g v) refl) ∙
    take_at (g.arcs v) rest k (omega arith)

-- the whole copy
module _ (g : Game) (laws : Lawful g) where
  abbrev n : ℕ
  n = g.size

  abbrev positions : List Position
  positions = positions_below g n

  abbrev arcs : List Arc
  arcs = arcs_below g n

  abbrev position : ℕ → Position
  position v = position_in positions arcs v

  copy_position : (v : ℕ) → v < n → position v ≡ taken g v
  copy_position v h = position_is g n v (record { mover = Even; first = length arcs; count = 0 }) h

  copy_first : (v : ℕ) → v ≤ n → (position v).first ≡ first_arc g v
  copy_first v h = elim (cases_lt v n) [
    | inl l ↦ ap (λ (p : Position). p.first) (copy_position v l)
    | inr l ↦
        let same : v ≡ n = omega arith in
        let long = positions_counted g n in
        ap (λ (p : Position). p.first) (get_or_past positions v (record { mover = Even; first = length arcs; count = 0 }) (omega arith)) ∙ ap (λ m. first_arc g m) (sym same)
  ]

  copy_count : (v : ℕ) → v < n → (position v).count ≡ length (g.arcs v)
  copy_count v h = ap (λ (p : Position). p.count) (copy_position v h)

  pub copy_spans : Spans positions arcs
  copy_spans =
      let long = positions_counted g n in
      record {
        starts = copy_first 0 (omega arith);
        follows = λ v h. (
            let a = copy_first v (omega arith) in
            let b = copy_first (v + 1) (omega arith) ∙ ap (λ m. first_arc g m) (add-one v) in
            let c = copy_count v (omega arith) in
            let s = length-append (arcs_below g v) (g.arcs v) in
            omega arith);
        leaves = λ v h. (
            let c = copy_count v (omega arith) in
            let k = laws.some_arc v (omega arith) in
            omega arith);
      }

  pub copy_inside : (e : ℕ) → e < length arcs → ArcInside (length positions) g.top arcs e
  copy_inside e h =
      let long = positions_counted g n in
      let leads = arc_below g laws n e (get_or arcs e no_arc) (omega arith) (slice_get-get_or arcs e no_arc h) in
      omega arith

  pub copy_fits : n ≤ 16 → g.top ≤ 9 → length arcs ≤ 64 → fits g ≡ true
  copy_fits small low few =
      and_from (leb n 16 && leb g.top 9) (leb (arc_total g) 64)
      (and_from (leb n 16) (leb g.top 9) (le-leb n 16 small) (le-leb g.top 9 low))
      (le-leb (arc_total g) 64 few)

  pub copy_alike : Alike g (copied g.top positions arcs)
  copy_alike = record {
    same_size = positions_counted g n;
    same_top = refl;
    same_mover = λ v h. ap (λ (p : Position). p.mover) (copy_position v h);
    same_arcs = λ v h. (
        let s = length-append (arcs_below g v) (g.arcs v) in
        let last : first_arc g v + length (g.arcs v) ≡ first_arc g (suc v) = omega arith in
        ap (λ (p : Position). between p.first (p.first + p.count) arcs) (copy_position v h) ∙
        ap (λ m. between (first_arc g v) m arcs) last ∙
        arcs_between g v n h);
  }
