-- The layers' games keep the laws, and what each of their arcs is below.
use Rattle.std.proofs.Common.{◌≡◌, ℕ, zero, suc, ◌+◌, ◌<◌, ◌≤◌, ◌⊎◌, List, [], ◌∷◌, length, Some, None, Option, sym, refl, ap, ◌∙◌, inl, inr, arith}
use Rattle.std.proofs.lemmas.List.{length-map}
use Rattle.std.specs.Option.{option_map}
use Rattle.std.specs.List.{slice_get}
use Rattle.std.proofs.lemmas.Bool.Decides.{nat_tests}
use Rattle.std.proofs.lemmas.Option.{slice_get-get_or, slice_get-map, slice_get_past, none-some, same_Some}
use Rattle.game.specs.declared.Arc.{Arc}
use Rattle.game.specs.Game.{Game, Lawful, arc_count_at, arc_at}
use Rattle.game.specs.Layers.{raised, swapped, alone, restricted, entry_at, held}
use Rattle.game.proofs.Arcs.{arc_there, arc_from}

pub mapped_some : {A B : Type 0} (f : A → B) (o : Option A) (y : B) → option_map f o ≡ Some y → (x : A) × (o ≡ Some x) × (y ≡ f x)
mapped_some f None y e = absurd (none-some y e)
mapped_some f (Some x) y e = (x, refl, sym (same_Some (f x) y e))

module _ (g : Game) where
  -- a swapped game that has positions has those of the game below
  pub swapped_size : (v : ℕ) → v < (swapped g).size → (g.top < 250) × (v < g.size)
  swapped_size v h = grind (arith, nat_tests)

  pub swapped_top : g.top < 250 → (swapped g).top ≡ g.top + 1
  swapped_top l = grind (arith, nat_tests)

  -- each arc of the swapped game is a raised arc of the game below
  pub swapped_arc : (v i : ℕ) (a : Arc) → arc_at (swapped g) v i ≡ Some a → (b : Arc) × (arc_at g v i ≡ Some b) × (a ≡ raised b)
  swapped_arc v i a e =
      let there = arc_there (swapped g) v i a e in
      let below = mapped_some raised (slice_get (g.arcs v) i) a (sym (slice_get-map raised (g.arcs v) i) ∙ there.1) in
      (below.0, arc_from g v i below.0 (swapped_size v there.0).1 below.1, below.2)

  -- the replies of a swapped game, by those of the game below
  pub swapped_count_reply : g.top < 250 → (v : ℕ) → arc_count_at (swapped g) v ≡ arc_count_at g v
  swapped_count_reply l v = grind (arith, nat_tests, length-map {A = Arc} {B = Arc})

  pub swapped_arc_reply : g.top < 250 → (v i : ℕ) → arc_at (swapped g) v i ≡ option_map raised (arc_at g v i)
  swapped_arc_reply l v i = grind (arith, nat_tests, slice_get-map raised (g.arcs v) i)

  swapped_inside : Lawful g → (v i : ℕ) (a : Arc) → arc_at (swapped g) v i ≡ Some a → a.target < (swapped g).size
  swapped_inside laws v i a e =
      let fits = swapped_size v (arc_there (swapped g) v i a e).0 in
      let (b, below, same) = swapped_arc v i a e in
      let inside = laws.target_inside v i b below in
      rw same (grind (arith, nat_tests))

  swapped_low : Lawful g → (v i : ℕ) (a : Arc) → arc_at (swapped g) v i ≡ Some a → a.priority ≤ (swapped g).top
  swapped_low laws v i a e =
      let fits = swapped_size v (arc_there (swapped g) v i a e).0 in
      let (b, below, same) = swapped_arc v i a e in
      let low = laws.priority_low v i b below in
      rw (swapped_top fits.0, same) (omega arith)

  pub swapped_lawful : Lawful g → Lawful (swapped g)
  swapped_lawful laws = record {
    few_positions = (let few = laws.few_positions in grind (arith, nat_tests));
    low_top = (let low = laws.low_top in grind (arith, nat_tests));
    some_arc = λ v h. rw length-map (laws.some_arc v (swapped_size v h).1);
    few_arcs = λ v h. rw length-map (laws.few_arcs v (swapped_size v h).1);
    target_inside = swapped_inside laws;
    priority_low = swapped_low laws;
  }

-- an entry leaves all of the arcs, or the one that it numbers
pub restricted_cases : (o : Option ℕ) (xs : List Arc) → (restricted o xs ≡ xs) ⊎ ((i : ℕ) × (a : Arc) × (o ≡ Some i) × (slice_get xs i ≡ Some a) × (restricted o xs ≡ a ∷ []))
restricted_cases None xs = inl refl
restricted_cases (Some i) xs = at (slice_get xs i) refl
  where
    at : (b : Option Arc) → slice_get xs i ≡ b → (restricted (Some i) xs ≡ xs) ⊎ ((j : ℕ) × (a : Arc) × (Some i ≡ Some j) × (slice_get xs j ≡ Some a) × (restricted (Some i) xs ≡ a ∷ []))
    at None e = inl (ap (λ (x : Option Arc). alone x xs) e)
    at (Some a) e = inr (i, a, refl, e, ap (λ (x : Option Arc). alone x xs) e)

pub restricted_to_one : (xs : List Arc) (i : ℕ) → i < length xs → length (restricted (Some i) xs) ≡ 1
restricted_to_one [] i h = absurd (omega arith)
restricted_to_one (x ∷ xs) i h = rw (slice_get-get_or (x ∷ xs) i x h)

pub restricted_to_all : (xs : List Arc) (i : ℕ) → length xs ≤ i → restricted (Some i) xs ≡ xs
restricted_to_all xs i h = rw (slice_get_past xs i h)

-- what is left of the arcs are arcs
pub restricted_arc : (o : Option ℕ) (xs : List Arc) (i : ℕ) (a : Arc) → slice_get (restricted o xs) i ≡ Some a → (j : ℕ) × (slice_get xs j ≡ Some a)
restricted_arc o xs i a e = elim (restricted_cases o xs) [
  | inl same ↦ (i, rw same at e)
  | inr (j, b, _, there, one) ↦ (j, there ∙ single i (rw one at e))
]
  where
    single : {b : Arc} (k : ℕ) → slice_get (b ∷ []) k ≡ Some a → Some b ≡ Some a
    single zero h = h
    single (suc k) h = absurd (none-some a h)

module _ (entries : List (Option ℕ)) (g : Game) where
  pub held_arc : (v i : ℕ) (a : Arc) → arc_at (held entries g) v i ≡ Some a → (j : ℕ) × (arc_at g v j ≡ Some a)
  held_arc v i a e =
      let there = arc_there (held entries g) v i a e in
      let below = restricted_arc (entry_at entries v) (g.arcs v) i a there.1 in
      (below.0, arc_from g v below.0 a there.0 below.1)

  held_count : (v : ℕ) → 1 ≤ length (g.arcs v) → length (g.arcs v) ≤ 64 → (1 ≤ length ((held entries g).arcs v)) × (length ((held entries g).arcs v) ≤ 64)
  held_count v some few = elim (restricted_cases (entry_at entries v) (g.arcs v)) [
    | inl same ↦ rw same (some, few)
    | inr (j, b, _, _, one) ↦ rw one (omega arith, omega arith)
  ]

  pub held_lawful : Lawful g → Lawful (held entries g)
  held_lawful laws = record {
    few_positions = laws.few_positions;
    low_top = laws.low_top;
    some_arc = λ v h. (held_count v (laws.some_arc v h) (laws.few_arcs v h)).0;
    few_arcs = λ v h. (held_count v (laws.some_arc v h) (laws.few_arcs v h)).1;
    target_inside = λ v i a e. let (j, below) = held_arc v i a e in laws.target_inside v j a below;
    priority_low = λ v i a e. let (j, below) = held_arc v i a e in laws.priority_low v j a below;
  }
