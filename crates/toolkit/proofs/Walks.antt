-- Walks by moves of any kind.
use Rattle.std.proofs.Common.{◌≡◌, ℕ, zero, suc, ◌+◌, ◌<◌, ◌≤◌, max, Bool, true, false, ◌⊎◌, List, [], ◌∷◌, ◌++◌, refl, ap, ◌∙◌, subst, inl, inr, arith}
use Rattle.std.specs.List.{AllZip, AllByRecursion as All}
use Rattle.std.proofs.lemmas.Bool.{cases_Bool, cases_lt, both_ways}
use Rattle.game.specs.Plans.{Walk, highest}
use Rattle.game.specs.Plans.Walk.{stay, step}
use Rattle.toolkit.specs.Finite.{after}
use Rattle.toolkit.proofs.Pigeonhole.{comes_back}

pub highest_append : (ps qs : List ℕ) → highest (ps ++ qs) ≡ max (highest ps) (highest qs)
highest_append [] qs = omega arith
highest_append (p ∷ ps) qs = omega (arith, highest_append ps qs)

pub highest_from_all : (b : ℕ) (ps : List ℕ) → All (λ p. p ≤ b) ps → highest ps ≤ b
highest_from_all b [] h = omega arith
highest_from_all b (p ∷ ps) h = omega (arith, h.0, highest_from_all b ps h.1)

pub all_from_highest : (b : ℕ) (ps : List ℕ) → highest ps ≤ b → All (λ p. p ≤ b) ps
all_from_highest b [] h = tt
all_from_highest b (p ∷ ps) h = (omega arith, all_from_highest b ps (omega arith))

-- the highest of priorities that are each one more is one more
pub highest_raised : (p q : ℕ) (ps qs : List ℕ) → AllZip (λ a b. b ≡ a + 1) (p ∷ ps) (q ∷ qs) → highest (q ∷ qs) ≡ highest (p ∷ ps) + 1
highest_raised p q [] [] h = omega (arith, h.0)
highest_raised p q [] (b ∷ qs) h = absurd h.1
highest_raised p q (a ∷ ps) [] h = absurd h.1
highest_raised p q (a ∷ ps) (b ∷ qs) h = omega (arith, h.0, highest_raised a b ps qs h.1)

pub each_flipped : (R : ℕ → ℕ → Type 0) (ps qs : List ℕ) → AllZip R ps qs → AllZip (λ q p. R p q) qs ps
each_flipped R [] [] h = tt
each_flipped R [] (q ∷ qs) h = h
each_flipped R (p ∷ ps) [] h = h
each_flipped R (p ∷ ps) (q ∷ qs) h = (h.0, each_flipped R ps qs h.1)

module _ {Move : ℕ → ℕ → ℕ → Type 0} where
  pub walk_joined : {u v w : ℕ} {ps qs : List ℕ} → Walk Move u v ps → Walk Move v w qs → Walk Move u w (ps ++ qs)
  walk_joined stay more = more
  walk_joined (step m walk) more = step m (walk_joined walk more)

  -- a walk whose priorities are two lists in a row is two walks
  pub walk_parts : (ps qs : List ℕ) {u w : ℕ} → Walk Move u w (ps ++ qs) → (v : ℕ) × Walk Move u v ps × Walk Move v w qs
  walk_parts [] qs {u} walk = (u, stay, walk)
  walk_parts (p ∷ ps) qs (step m walk) = let parts = walk_parts ps qs walk in (parts.0, step m parts.1, parts.2)

  pub walk_mapped : {Other : ℕ → ℕ → ℕ → Type 0} {u w : ℕ} {ps : List ℕ} → ((a b p : ℕ) → Move a b p → Other a b p) → Walk Move u w ps → Walk Other u w ps
  walk_mapped f stay = stay
  walk_mapped f (step {u = u} {v = v} {p = p} m walk) = step (f u v p m) (walk_mapped f walk)

  -- each move replaced by one whose priority is related to its own
  pub walk_related : {Other : ℕ → ℕ → ℕ → Type 0} (R : ℕ → ℕ → Type 0) {u w : ℕ} {ps : List ℕ} → ((a b p : ℕ) → Move a b p → (q : ℕ) × R p q × Other a b q) → Walk Move u w ps → (qs : List ℕ) × Walk Other u w qs × AllZip R ps qs
  walk_related R f stay = ([], stay, tt)
  walk_related R f (step {u = u} {v = v} {p = p} m walk) =
      let here = f u v p m in
      let more = walk_related R f walk in
      (here.0 ∷ more.0, step here.2 more.1, (here.1, more.2))

  pub walk_related_more : {Other : ℕ → ℕ → ℕ → Type 0} (R : ℕ → ℕ → Type 0) {u w p : ℕ} {ps : List ℕ} → ((a b p : ℕ) → Move a b p → (q : ℕ) × R p q × Other a b q) → Walk Move u w (p ∷ ps) → (q : ℕ) × (qs : List ℕ) × Walk Other u w (q ∷ qs) × AllZip R (p ∷ ps) (q ∷ qs)
  walk_related_more R f (step {u = u} {v = v} {p = p} m walk) =
      let here = f u v p m in
      let more = walk_related R f walk in
      (here.0, more.0, step here.2 more.1, (here.1, more.2))

  -- from a position that has a property kept by moves, the walk is by moves between such positions, and ends at one
  pub walk_keeps : {In : ℕ → Type 0} {u w : ℕ} {ps : List ℕ} → ((a b p : ℕ) → Move a b p → In a → In b) → In u → Walk Move u w ps → Walk (λ a b p. Move a b p × In a × In b) u w ps × In w
  walk_keeps kept inside stay = (stay, inside)
  walk_keeps kept inside (step {u = u} {v = v} {p = p} m walk) =
      let next = kept u v p m inside in
      let more = walk_keeps kept next walk in
      (step (m, inside, next) more.0, more.1)

  module _ (set : ℕ → Bool) (kept : (a b p : ℕ) → Move a b p → set a ≡ true → set b ≡ true) where
    starts_outside : {u w : ℕ} {ps : List ℕ} → Walk Move u w ps → set w ≡ false → set u ≡ false
    starts_outside {u} {w} walk out = elim (cases_Bool (set u)) [
      | inl e ↦ absurd (both_ways (set w) out (walk_keeps {In = λ a. set a ≡ true} kept e walk).1)
      | inr e ↦ e
    ]

    -- where moves do not leave a set, a walk that ends outside it is by moves outside it
    pub walk_outside : {u w : ℕ} {ps : List ℕ} → Walk Move u w ps → set w ≡ false → Walk (λ a b p. Move a b p × (set a ≡ false) × (set b ≡ false)) u w ps
    walk_outside stay out = stay
    walk_outside (step {u = u} {v = v} {p = p} m walk) out =
        step (m, starts_outside (step m walk) out, starts_outside walk out) (walk_outside walk out)

    -- so a closed walk lies wholly inside the set or wholly outside it
    pub closed_walk_sides : {v : ℕ} {ps : List ℕ} → Walk Move v v ps → Walk (λ a b p. Move a b p × (set a ≡ true) × (set b ≡ true)) v v ps ⊎ Walk (λ a b p. Move a b p × (set a ≡ false) × (set b ≡ false)) v v ps
    closed_walk_sides {v} walk = elim (cases_Bool (set v)) [
      | inl e ↦ inl (walk_keeps {In = λ a. set a ≡ true} kept e walk).0
      | inr e ↦ inr (walk_outside walk e)
    ]

  module _ (rank : ℕ → ℕ) (falls : (a b p : ℕ) → Move a b p → rank b < rank a) where
    walk_sinks : {u w : ℕ} {ps : List ℕ} → Walk Move u w ps → rank w ≤ rank u
    walk_sinks stay = omega arith
    walk_sinks (step {u = u} {v = v} {p = p} m walk) = let h = falls u v p m in let more = walk_sinks walk in omega arith

    -- a walk of one or more moves under a falling rank
    pub walk_falls : {u w p : ℕ} {ps : List ℕ} → Walk Move u w (p ∷ ps) → rank w < rank u
    walk_falls (step {u = u} {v = v} {p = p} m walk) = let h = falls u v p m in let more = walk_sinks walk in omega arith

    -- is not closed
    pub no_closed_walk : {v p : ℕ} {ps : List ℕ} → Walk Move v v (p ∷ ps) → ⊥
    no_closed_walk walk = let h = walk_falls walk in omega arith

  pub highest_at_most : (b : ℕ) {u w : ℕ} {ps : List ℕ} → ((a b' p : ℕ) → Move a b' p → p ≤ b) → Walk Move u w ps → highest ps ≤ b
  highest_at_most b low stay = omega arith
  highest_at_most b low (step {u = u} {v = v} {p = p} m walk) = let h = low u v p m in let more = highest_at_most b low walk in omega arith

  -- with its highest priority at most b, a walk is by moves of priority at most b
  pub walk_below : (b : ℕ) {u w : ℕ} {ps : List ℕ} → highest ps ≤ b → Walk Move u w ps → Walk (λ a c p. Move a c p × (p ≤ b)) u w ps
  walk_below b low stay = stay
  walk_below b low (step m walk) = step (m, omega arith) (walk_below b (omega arith) walk)

  -- where each move has priority e or is of another kind, the walk meets e or is of that kind throughout
  pub walk_meets : {Other : ℕ → ℕ → ℕ → Type 0} (e : ℕ) {u w : ℕ} {ps : List ℕ} → ((a b p : ℕ) → Move a b p → (p ≡ e) ⊎ Other a b p) → Walk Move u w ps → (e ≤ highest ps) ⊎ Walk Other u w ps
  walk_meets e f stay = inr stay
  walk_meets e f (step {u = u} {v = v} {p = p} m walk) = elim (f u v p m) [
    | inl same ↦ inl (omega arith)
    | inr m' ↦ elim (walk_meets e f walk) [ inl h ↦ inl (omega arith) | inr walk' ↦ inr (step m' walk') ]
  ]

-- A walk with a move of its highest priority singled out.
pub record Peak (Move : ℕ → ℕ → ℕ → Type 0) (u w : ℕ) (ps : List ℕ) : Type 0 where
  pub from : ℕ
  pub to : ℕ
  pub top : ℕ
  pub before : List ℕ
  pub behind : List ℕ
  pub walk_before : Walk Move u from before
  pub move : Move from to top
  pub walk_behind : Walk Move to w behind
  pub is_highest : top ≡ highest ps
  pub parts : ps ≡ before ++ top ∷ behind

module _ {Move : ℕ → ℕ → ℕ → Type 0} where
  at_once : {u v w p : ℕ} {ps : List ℕ} → Move u v p → Walk Move v w ps → highest ps ≤ p → Peak Move u w (p ∷ ps)
  at_once {u} {v} {p = p} {ps = ps} m walk low = record {
    from = u;
    to = v;
    top = p;
    before = [];
    behind = ps;
    walk_before = stay;
    move = m;
    walk_behind = walk;
    is_highest = omega arith;
    parts = refl;
  }

  later : {u v w p : ℕ} {ps : List ℕ} → Move u v p → Peak Move v w ps → p ≤ highest ps → Peak Move u w (p ∷ ps)
  later {p = p} m peak low = record {
    from = peak.from;
    to = peak.to;
    top = peak.top;
    before = p ∷ peak.before;
    behind = peak.behind;
    walk_before = step m peak.walk_before;
    move = peak.move;
    walk_behind = peak.walk_behind;
    is_highest = let e = peak.is_highest in omega arith;
    parts = ap (λ qs. p ∷ qs) peak.parts;
  }

  empty_or_peak : {u w : ℕ} {ps : List ℕ} → Walk Move u w ps → (highest ps ≡ 0) ⊎ Peak Move u w ps
  empty_or_peak stay = inl refl
  empty_or_peak (step {p = p} {ps = ps} m walk) = elim (cases_lt p (highest ps)) [
    | inl h ↦ elim (empty_or_peak walk) [ inl e ↦ absurd (omega arith) | inr peak ↦ inr (later m peak (omega arith)) ]
    | inr h ↦ inr (at_once m walk h)
  ]

  -- the highest priority of a walk of one or more moves is that of one of them
  pub walk_peak : {u w p : ℕ} {ps : List ℕ} → Walk Move u w (p ∷ ps) → Peak Move u w (p ∷ ps)
  walk_peak (step {p = p} {ps = ps} m walk) = elim (empty_or_peak walk) [
    | inl e ↦ at_once m walk (omega arith)
    | inr peak ↦ elim (cases_lt p (highest ps)) [ inl h ↦ later m peak (omega arith) | inr h ↦ at_once m walk h ]
  ]

  module _ {In : ℕ → Type 0} (next : ℕ → ℕ) (goes : (u : ℕ) → In u → (p : ℕ) × Move u (next u) p × In (next u)) where
    pub walk_after : (d u : ℕ) → In u → (ps : List ℕ) × Walk Move u (after next u d) ps
    walk_after zero u inside = ([], stay)
    walk_after (suc d) u inside =
        let here = goes u inside in
        let more = walk_after d (next u) here.2 in
        (here.0 ∷ more.0, step here.1 more.1)

    -- moves that go on for ever among the positions below n make a closed walk
    pub some_closed_walk : (n : ℕ) → ((u : ℕ) → In u → u < n) → (v : ℕ) → In v → (u p : ℕ) × (ps : List ℕ) × Walk Move u u (p ∷ ps)
    some_closed_walk n below v inside =
        let found = comes_back n next (λ u h. (below u h, (goes u h).2)) v inside in
        let u = found.0 in
        let here = goes u found.2 in
        let more = walk_after found.1 (next u) here.2 in
        (u, here.0, more.0, subst (λ x. Walk Move u x (here.0 ∷ more.0)) found.3 (step here.1 more.1))

  -- the parts of a walk before and behind a peak do not go above it
  pub peak_low : {u w : ℕ} {ps : List ℕ} (peak : Peak Move u w ps) → (highest peak.before ≤ peak.top) × (highest peak.behind ≤ peak.top)
  peak_low peak =
      let e = peak.is_highest ∙ ap highest peak.parts ∙ highest_append peak.before (peak.top ∷ peak.behind) in
      (omega arith, omega arith)

-- A walk taken apart where it visits a position of a set.
pub record Visit (Move : ℕ → ℕ → ℕ → Type 0) (set : ℕ → Bool) (u w : ℕ) (ps : List ℕ) : Type 0 where
  pub place : ℕ
  pub inside : set place ≡ true
  pub before : List ℕ
  pub behind : List ℕ
  pub walk_before : Walk Move u place before
  pub walk_behind : Walk Move place w behind
  pub parts : ps ≡ before ++ behind

module _ {Move : ℕ → ℕ → ℕ → Type 0} (set : ℕ → Bool) where
  visit_now : {u w : ℕ} {ps : List ℕ} → Walk Move u w ps → set u ≡ true → Visit Move set u w ps
  visit_now {u} {ps = ps} walk inside = record { place = u; inside = inside; before = []; behind = ps; walk_before = stay; walk_behind = walk; parts = refl }

  visit_later : {u v w p : ℕ} {ps : List ℕ} → Move u v p → Visit Move set v w ps → Visit Move set u w (p ∷ ps)
  visit_later {p = p} m visit = record {
    place = visit.place;
    inside = visit.inside;
    before = p ∷ visit.before;
    behind = visit.behind;
    walk_before = step m visit.walk_before;
    walk_behind = visit.walk_behind;
    parts = ap (λ qs. p ∷ qs) visit.parts;
  }

  -- a walk visits the set, or is by moves outside it from beginning to end
  pub visits_or_avoids : {u w : ℕ} {ps : List ℕ} → Walk Move u w ps → Visit Move set u w ps ⊎ ((set u ≡ false) × Walk (λ a b p. Move a b p × (set a ≡ false) × (set b ≡ false)) u w ps)
  visits_or_avoids (stay {v = v}) = elim (cases_Bool (set v)) [ inl inside ↦ inl (visit_now stay inside) | inr out ↦ inr (out, stay) ]
  visits_or_avoids (step {u = u} m walk) = elim (cases_Bool (set u)) [
    | inl inside ↦ inl (visit_now (step m walk) inside)
    | inr out ↦ elim (visits_or_avoids walk) [
      | inl visit ↦ inl (visit_later m visit)
      | inr avoids ↦ inr (out, step (m, out, avoids.0) avoids.1)
    ]
  ]
