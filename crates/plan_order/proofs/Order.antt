-- The bytes of plans that win the same region differ only in the choices at own positions.
use Rattle.std.proofs.Common.{◌≡◌, ℕ, zero, suc, ◌+◌, ◌<◌, ◌≤◌, true, false, cond, not, eqb, ltb, List, [], ◌∷◌, length, get_or, sym, refl, ap, ◌∙◌, subst, inl, inr, arith}
use Rattle.std.proofs.lemmas.Bool.{cases_Bool, and_parts, and_from, both_ways, lt-ltb, not-true, not_from_false, eqb-true, eqb-false, ne_eqb}
use Rattle.std.proofs.lemmas.List.{ext_get_or}
use Rattle.game.specs.declared.Player.{Player}
use Rattle.game.specs.declared.Player.TheVariants.{Even, Odd}
use Rattle.game.specs.Game.{Game, rival}
use Rattle.game.specs.Dictionary.{Before}
use Rattle.determinacy.specs.Statements.{WinsRegion}
use Rattle.determinacy.proofs.Players.{cases_player}
use Rattle.register_theory.specs.First.{Own, SameBelow, Earlier}
use Rattle.plans.specs.Bytes.{byte, player_of, choice_byte, plan_of, WellFormed}
use Rattle.plan_order.specs.Order.{FirstInBytes}

-- lists that agree up to a place where the one has the smaller number
before_at : (xs ys : List ℕ) (i : ℕ) → length xs ≡ length ys → i < length xs → ((j : ℕ) → j < i → get_or xs j 0 ≡ get_or ys j 0) → get_or xs i 0 < get_or ys i 0 → Before xs ys
before_at [] ys i long inside same less = absurd (omega arith)
before_at (x ∷ xs) [] i long inside same less = absurd (omega arith)
before_at (x ∷ xs) (y ∷ ys) zero long inside same less = inl less
before_at (x ∷ xs) (y ∷ ys) (suc i) long inside same less =
    inr (same 0 (omega arith), before_at xs ys i (omega arith) (omega arith) (λ j h. same (suc j) (omega arith)) less)

even_not_odd : Even ≡ Odd → ⊥
even_not_odd e = let z : ◌≡◌ {A = ℕ} 0 1 = cc in omega arith

-- the player's byte is 0 or 1
player_byte_lem : (a b : ℕ) → a ≤ 1 → b ≤ 1 → cond (eqb a 0) Even Odd ≡ cond (eqb b 0) Even Odd → a ≡ b
player_byte_lem zero zero low low' e = refl
player_byte_lem zero (suc b) low low' e = absurd (even_not_odd (e ∙ ap (λ t. cond t Even Odd) (ne_eqb (suc b) 0 (λ z. omega arith))))
player_byte_lem (suc a) zero low low' e = absurd (even_not_odd (sym e ∙ ap (λ t. cond t Even Odd) (ne_eqb (suc a) 0 (λ z. omega arith))))
player_byte_lem (suc a) (suc b) low low' e = omega arith

module _ (g : Game) (player : Player) (bytes others : List ℕ) (formed : WellFormed g bytes) (formed' : WellFormed g others) (mine : WinsRegion g player (plan_of g.size bytes)) (theirs : WinsRegion g player (plan_of g.size others)) where
  same_player : player_of bytes ≡ player_of others
  same_player = mine.is_players ∙ sym theirs.is_players

  -- both claim the same positions
  claimed_by_both : (v : ℕ) → (plan_of g.size bytes).claims v ≡ true → (plan_of g.size others).claims v ≡ true
  claimed_by_both v c = (theirs.claims_region v).1 ((mine.claims_region v).0 c)

  claimed_back : (v : ℕ) → (plan_of g.size others).claims v ≡ true → (plan_of g.size bytes).claims v ≡ true
  claimed_back v c = (mine.claims_region v).1 ((theirs.claims_region v).0 c)

  unclaimed : (bs : List ℕ) (v : ℕ) → v < g.size → (plan_of g.size bs).claims v ≡ false → choice_byte bs v ≡ 255
  unclaimed bs v h c = elim (cases_Bool (eqb (choice_byte bs v) 255)) [
    | inl e ↦ eqb-true (choice_byte bs v) 255 e
    | inr e ↦ absurd (both_ways ((plan_of g.size bs).claims v) c (and_from (ltb v g.size) (not (eqb (choice_byte bs v) 255)) (lt-ltb v g.size h) (not_from_false (eqb (choice_byte bs v) 255) e)))
  ]

  not_255 : (bs : List ℕ) (v : ℕ) → (plan_of g.size bs).claims v ≡ true → choice_byte bs v ≡ 255 → ⊥
  not_255 bs v c e =
      let parts = and_parts (ltb v g.size) (not (eqb (choice_byte bs v) 255)) c in
      eqb-false (choice_byte bs v) 255 (not-true (eqb (choice_byte bs v) 255) parts.1) e

  the_others_move : (bs : List ℕ) → WellFormed g bs → (v : ℕ) → v < g.size → (plan_of g.size bs).claims v ≡ true → g.mover v ≡ rival (player_of bs) → choice_byte bs v ≡ 254
  the_others_move bs well v h c moves = elim ((well.each_choice v h).other moves) [ inl is ↦ is | inr is ↦ absurd (not_255 bs v c is) ]

  -- a position's byte is the same where the choice at an own position is
  same_byte : (v : ℕ) → v < g.size → (Own g (plan_of g.size bytes) v → choice_byte others v ≡ choice_byte bytes v) → choice_byte bytes v ≡ choice_byte others v
  same_byte v h own = elim (cases_Bool ((plan_of g.size bytes).claims v)) [
    | inl c ↦ elim (cases_player (g.mover v) (player_of bytes)) [
      | inl is ↦ sym (own (c, is))
      | inr is ↦ the_others_move bytes formed v h c is ∙ sym (the_others_move others formed' v h (claimed_by_both v c) (is ∙ ap rival same_player))
    ]
    | inr c ↦ unclaimed bytes v h c ∙ sym (unclaimed others v h (both_not v c))
  ]
    where
      both_not : (v : ℕ) → (plan_of g.size bytes).claims v ≡ false → (plan_of g.size others).claims v ≡ false
      both_not v c = elim (cases_Bool ((plan_of g.size others).claims v)) [
        | inl d ↦ absurd (both_ways ((plan_of g.size bytes).claims v) c (claimed_back v d))
        | inr d ↦ d
      ]

  as_long : length bytes ≡ length others
  as_long = formed.headed.whole ∙ sym formed'.headed.whole

  -- the bytes agree up to position v where the choices do
  agree_to : (v : ℕ) → v ≤ g.size → SameBelow g (plan_of g.size bytes) (plan_of g.size others) v → (i : ℕ) → i < v + 2 → get_or bytes i 0 ≡ get_or others i 0
  agree_to v inside same zero h = player_byte_lem (byte bytes 0) (byte others 0) formed.headed.player formed'.headed.player same_player
  agree_to v inside same (suc zero) h = formed.headed.positions ∙ sym formed'.headed.positions
  agree_to v inside same (suc (suc u)) h =
      let at : suc (suc u) ≡ u + 2 = omega arith in
      let here = same_byte u (omega arith) (same u (omega arith)) in
      subst (λ i. get_or bytes i 0 ≡ get_or others i 0) (sym at) here

  all_same : SameBelow g (plan_of g.size bytes) (plan_of g.size others) g.size → others ≡ bytes
  all_same same =
      let long = formed.headed.whole in
      sym (ext_get_or 0 bytes others as_long (λ i h. agree_to g.size (omega arith) same i (omega arith)))

  comes_later : Earlier g (plan_of g.size bytes) (plan_of g.size others) → Before bytes others
  comes_later e =
      let inside = mine.wins.claims_exist e.place e.own.0 in
      let long = formed.headed.whole in
      before_at bytes others (e.place + 2) as_long (omega arith) (agree_to e.place (omega arith) e.same_below) e.smaller

pub first_in_bytes_lem : (g : Game) (player : Player) (bytes others : List ℕ) → FirstInBytes g player bytes others
first_in_bytes_lem g player bytes others formed formed' first theirs = elim (first.before_others (plan_of g.size others) theirs) [
  | inl same ↦ inl (all_same g player bytes others formed formed' first.wins_region theirs same)
  | inr earlier ↦ inr (comes_later g player bytes others formed formed' first.wins_region theirs earlier)
]
