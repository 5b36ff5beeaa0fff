-- The lowest position with a property.
use Rattle.std.proofs.Common.{◌≡◌, ℕ, zero, suc, ◌+◌, ◌%◌, ◌<◌, ◌≤◌, min, ◌⊎◌, List, [], ◌∷◌, map, fold, Some, None, Option, sym, refl, ap, ◌∙◌, subst, inl, inr, arith}
use Rattle.std.proofs.lemmas.Option.{none-some, same_Some}
use Rattle.std.specs.List.{filter_map, cons_option, reduce, range_with_len}
use Rattle.std.proofs.lemmas.Bool.{cases_eq, cases_lt, cases_order}
use Rattle.game.specs.Game.{Game, Lawful, parity, rival}
use Rattle.game.specs.Plans.{Plan, highest}
use Rattle.toolkit.proofs.Search.{seek_least}
use Rattle.toolkit.proofs.Walks.{highest_at_most}
use Rattle.plans.specs.Marks.{Lowest, Found, OnLosingWalk}
use Rattle.plans.specs.Findings.{ClosedWalkAt, LosingWalkAt, lower_of}
use Rattle.plans.proofs.Following.{move_low}

pub one_lowest : {P : ℕ → Type 0} {a b : ℕ} → Lowest P a → Lowest P b → a ≡ b
one_lowest {P} {a} {b} left right = elim (cases_order a b) [
  | inl same ↦ same
  | inr (inl less) ↦ absurd (right.none_below a less left.here)
  | inr (inr less) ↦ absurd (left.none_below b less right.here)
]

-- a property that is the same at each position is found at the same one
pub found_alike : {P Q : ℕ → Type 0} → ((v : ℕ) → P v → Q v) → ((v : ℕ) → Q v → P v) → (o : Option ℕ) → Found P o → Found Q o
found_alike into back None found = λ v q. found v (back v q)
found_alike into back (Some p) found = record { here = into p found.here; none_below = λ v h q. found.none_below v h (back v q) }

-- a property is found at one place only
pub one_found : (P : ℕ → Type 0) (a b : Option ℕ) → Found P a → Found P b → a ≡ b
one_found P None None one two = refl
one_found P None (Some y) one two = absurd (one y two.here)
one_found P (Some x) None one two = absurd (two x one.here)
one_found P (Some x) (Some y) one two = ap Some (one_lowest one two)

-- a property that can be decided, and holds only below n, is found or nowhere
pub lowest_or_none : {P : ℕ → Type 0} (n : ℕ) → ((v : ℕ) → v < n → P v ⊎ (P v → ⊥)) → ((v : ℕ) → P v → v < n) → (o : Option ℕ) × Found P o
lowest_or_none {P} n decide inside = elim (seek_least {P = P} {Q = λ v. P v → ⊥} n decide) [
  | inl (p, _, here, below) ↦ (Some p, record { here = here; none_below = below })
  | inr none ↦ (None, λ v holds. none v (inside v holds) holds)
]

-- The numbers of a list, and the least of them.
abbrev Among : List ℕ → ℕ → Type 0
Among [] v = ⊥
Among (x ∷ xs) v = (v ≡ x) ⊎ Among xs v

least_from : (x : ℕ) (xs : List ℕ) → Lowest (Among (x ∷ xs)) (fold min x xs)
least_from x [] = record { here = inl refl; none_below = λ v h among. elim among [ inl e ↦ omega arith | inr none ↦ none ] }
least_from x (y ∷ ys) =
    let rest = least_from (min x y) ys in
    let m = fold min (min x y) ys in
    let low : m ≤ min x y = elim (cases_lt (min x y) m) [ inl less ↦ absurd (rest.none_below (min x y) less (inl refl)) | inr more ↦ more ] in
    record {
      here = elim rest.here [
        | inl e ↦ elim (cases_lt y x) [ inl less ↦ inr (inl (omega arith)) | inr more ↦ inl (omega arith) ]
        | inr later ↦ inr (inr later)
      ];
      none_below = λ v h among. elim among [
        | inl first ↦ omega arith
        | inr (inl second) ↦ omega arith
        | inr (inr later) ↦ rest.none_below v h (inr later)
      ];
    }

least : (xs : List ℕ) → Found (Among xs) (reduce min xs)
least [] = λ v none. none
least (x ∷ xs) = least_from x xs

among_range : (a n q : ℕ) → a ≤ q → q < a + n → Among (range_with_len a n) q
among_range a zero q low high = absurd (omega arith)
among_range a (suc n) q low high = elim (cases_eq q a) [ inl e ↦ inl e | inr apart ↦ inr (among_range (a + 1) n q (omega arith) (omega arith)) ]

module _ (h : ℕ → Option ℕ) where
  among_mapped : (xs : List ℕ) (q v : ℕ) → Among xs q → h q ≡ Some v → Among (filter_map h xs) v
  among_mapped [] q v none e = none
  among_mapped (x ∷ xs) q v among e = at (h x) (elim among [ inl here ↦ inl (rw (← here) e) | inr later ↦ inr (among_mapped xs q v later e) ])
    where
      at : (o : Option ℕ) → (o ≡ Some v) ⊎ Among (filter_map h xs) v → Among (cons_option o (filter_map h xs)) v
      at None found = elim found [ inl e ↦ absurd (none-some v e) | inr later ↦ later ]
      at (Some y) found = elim found [ inl e ↦ inl (same_Some v y (sym e)) | inr later ↦ inr later ]

  from_mapped : (xs : List ℕ) (v : ℕ) → Among (filter_map h xs) v → (q : ℕ) × Among xs q × (h q ≡ Some v)
  from_mapped [] v none = absurd none
  from_mapped (x ∷ xs) v among = at (h x) refl (λ rest. from_mapped xs v rest) among
    where
      at : (o : Option ℕ) → h x ≡ o → (Among (filter_map h xs) v → (q : ℕ) × Among xs q × (h q ≡ Some v)) → Among (cons_option o (filter_map h xs)) v → (q : ℕ) × Among (x ∷ xs) q × (h q ≡ Some v)
      at None e later found = let (q, among, is) = later found in (q, inr among, is)
      at (Some y) e later found = elim found [
        | inl same ↦ (x, inl refl, e ∙ ap Some (sym same))
        | inr rest ↦ let (q, among, is) = later rest in (q, inr among, is)
      ]

-- The least of the positions that h gives for the priorities up to top.
abbrev pub losing : ℕ → (ℕ → Option ℕ) → Option ℕ
losing top h = reduce min (filter_map h (range_with_len 0 (top + 1)))

module _ (h : ℕ → Option ℕ) where
  lower_than : (x : ℕ) (qs : List ℕ) → fold lower_of (Some x) (map h qs) ≡ Some (fold min x (filter_map h qs))
  lower_than x [] = refl
  lower_than x (q ∷ qs) = at (h q) (λ y. lower_than y qs)
    where
      at : (o : Option ℕ) → ((y : ℕ) → fold lower_of (Some y) (map h qs) ≡ Some (fold min y (filter_map h qs))) → fold lower_of (lower_of (Some x) o) (map h qs) ≡ Some (fold min x (cons_option o (filter_map h qs)))
      at None rest = rest x
      at (Some y) rest = rest (min x y)

  -- one after the other, the lower of what h gives is the least of it
  lowest_in_turn : (qs : List ℕ) → fold lower_of None (map h qs) ≡ reduce min (filter_map h qs)
  lowest_in_turn [] = refl
  lowest_in_turn (q ∷ qs) = at (h q) (lowest_in_turn qs)
    where
      at : (o : Option ℕ) → fold lower_of None (map h qs) ≡ reduce min (filter_map h qs) → fold lower_of (lower_of None o) (map h qs) ≡ reduce min (cons_option o (filter_map h qs))
      at None rest = rest
      at (Some y) rest = lower_than y qs

  pub losing_in_turn : (top : ℕ) → fold lower_of None (map h (range_with_len 0 (top + 1))) ≡ losing top h
  losing_in_turn top = lowest_in_turn (range_with_len 0 (top + 1))

-- Where h gives each priority's lowest position on a losing walk with that highest priority, it is the lowest position of all losing walks.
module _ (g : Game) (s : Plan) (laws : Lawful g) (h : ℕ → Option ℕ) (exact : (q : ℕ) → Found (LosingWalkAt g s q) (h q)) where
  abbrev candidates : List ℕ
  candidates = filter_map h (range_with_len 0 (g.top + 1))

  losing_here : (q v : ℕ) → LosingWalkAt g s q v → OnLosingWalk g s v
  losing_here q v l = let closed = l.closed in record { first = closed.first; rest = closed.rest; walk = closed.walk; wrong = ap (λ p. p % 2) closed.is_highest ∙ l.wrong }

  -- a losing walk has its lowest position among the candidates
  found_not_above : (v : ℕ) → OnLosingWalk g s v → (p : ℕ) × (p ≤ v) × Among candidates p
  found_not_above v l =
      let q = highest (l.first ∷ l.rest) in
      let low = highest_at_most g.top (λ a b p m. move_low g s laws m) l.walk in
      let losing_walk : LosingWalkAt g s q v = record { wrong = l.wrong; closed = record { first = l.first; rest = l.rest; walk = l.walk; is_highest = refl } } in
      at q losing_walk (among_range 0 (g.top + 1) q (omega arith) (omega arith)) (h q) refl (exact q)
    where
      at : (q : ℕ) → LosingWalkAt g s q v → Among (range_with_len 0 (g.top + 1)) q → (o : Option ℕ) → h q ≡ o → Found (LosingWalkAt g s q) o → (p : ℕ) × (p ≤ v) × Among candidates p
      at q walk among None e found = absurd (found v walk)
      at q walk among (Some p) e found =
          let low : p ≤ v = elim (cases_lt v p) [ inl less ↦ absurd (found.none_below v less walk) | inr more ↦ more ] in
          (p, low, among_mapped h (range_with_len 0 (g.top + 1)) q p among e)

  pub losing_found : Found (OnLosingWalk g s) (losing g.top h)
  losing_found = at (reduce min candidates) (least candidates)
    where
      at : (o : Option ℕ) → Found (Among candidates) o → Found (OnLosingWalk g s) o
      at None found = λ v l. let (p, _, among) = found_not_above v l in found p among
      at (Some m) found = record {
        here = let (q, among, e) = from_mapped h (range_with_len 0 (g.top + 1)) m found.here in losing_here q m (subst (Found (LosingWalkAt g s q)) e (exact q)).here;
        none_below = λ v less l. let (p, low, among) = found_not_above v l in found.none_below p (omega arith) among;
      }

-- from a priority's lowest position on a closed walk, that on a losing one
pub losing_from_closed : (g : Game) (s : Plan) (q : ℕ) (o : Option ℕ) → q % 2 ≡ parity (rival s.player) → Found (ClosedWalkAt g s q) o → Found (LosingWalkAt g s q) o
losing_from_closed g s q o wrong found = found_alike (λ v closed. record { wrong = wrong; closed = closed }) (λ v (l : LosingWalkAt g s q v). l.closed) o found

pub none_loses : (g : Game) (s : Plan) (q : ℕ) → (q % 2 ≡ parity (rival s.player) → ⊥) → Found (LosingWalkAt g s q) None
none_loses g s q right = λ v l. right l.wrong
