-- The held game: where an arc is held it is the only one.
use Rattle.std.proofs.Common.{◌≡◌, ℕ, zero, suc, ◌<◌, true, cond, ltb, ◌⊎◌, List, [], ◌∷◌, length, get_or, is_some, Some, None, Option, unwrap_or, sym, refl, ap, ◌∙◌, inl, inr, arith}
use Rattle.std.specs.List.{slice_get}
use Rattle.std.proofs.lemmas.Option.{slice_get-get_or, slice_get_past, same_Some}
use Rattle.std.proofs.lemmas.Bool.{cases_lt, lt-ltb, le-ltb, cond-true, cond-false}
use Rattle.toolkit.proofs.Walks.{walk_mapped}
use Rattle.game.specs.declared.Player.{Player}
use Rattle.game.specs.declared.Arc.{Arc}
use Rattle.game.specs.Game.{Game}
use Rattle.game.specs.Layers.{held, entry_at, restricted, alone}
use Rattle.game.specs.Plans.{Plan, Follows, Wins}
use Rattle.game.proofs.Arcs.{arc_there, arc_from}
use Rattle.determinacy.specs.Layers.{held_number, OwnEntries, Agrees, renumbered, numbered_back, GivesNothing}

-- An entry holds an arc, which is then alone.
record Holds (o : Option ℕ) (xs : List Arc) : Type 0 where
  number : ℕ
  arc : Arc
  entry : o ≡ Some number
  is_number : held_number o xs ≡ Some number
  is_arc : slice_get xs number ≡ Some arc
  inside : number < length xs
  only : restricted o xs ≡ arc ∷ []

-- An entry leaves the arcs as they are.
record Leaves (o : Option ℕ) (xs : List Arc) : Type 0 where
  no_number : held_number o xs ≡ None
  unchanged : restricted o xs ≡ xs

holds_or_leaves : (o : Option ℕ) (xs : List Arc) → Holds o xs ⊎ Leaves o xs
holds_or_leaves None xs = inr (record { no_number = refl; unchanged = refl })
holds_or_leaves (Some i) xs = elim (cases_lt i (length xs)) [
  | inl inside ↦
      let e = slice_get-get_or xs i none inside in
      inl (record {
        number = i;
        arc = get_or xs i none;
        entry = refl;
        is_number = cond-true (ltb i (length xs)) (Some i) None (lt-ltb i (length xs) inside);
        is_arc = e;
        inside = inside;
        only = ap (λ o. alone o xs) e;
      })
  | inr past ↦ inr (record {
    no_number = cond-false (ltb i (length xs)) (Some i) None (le-ltb i (length xs) past);
    unchanged = ap (λ o. alone o xs) (slice_get_past xs i past);
  })
]
  where
    none : Arc
    none = record { target = 0; priority = 0 }

-- the one arc of a list of one has number 0
nth_only : (a b : Arc) (k : ℕ) → slice_get (a ∷ []) k ≡ Some b → (k ≡ 0) × (a ≡ b)
nth_only a b zero e = (refl, cc)
nth_only a b (suc k) e = cc

module _ (g : Game) (entries : List (Option ℕ)) where
  abbrev HeldAt : ℕ → Type 0
  HeldAt v = Holds (entry_at entries v) (g.arcs v)

  abbrev FreeAt : ℕ → Type 0
  FreeAt v = Leaves (entry_at entries v) (g.arcs v)

  held_or_free : (v : ℕ) → HeldAt v ⊎ FreeAt v
  held_or_free v = holds_or_leaves (entry_at entries v) (g.arcs v)

  module _ (s : Plan) where
    renumbered_held : (v : ℕ) → HeldAt v → (renumbered entries g s).choice v ≡ 0
    renumbered_held v h = ap (λ o. cond (is_some o) 0 (s.choice v)) h.is_number

    renumbered_free : (v : ℕ) → FreeAt v → (renumbered entries g s).choice v ≡ s.choice v
    renumbered_free v f = ap (λ o. cond (is_some o) 0 (s.choice v)) f.no_number

    back_held : (v : ℕ) (h : HeldAt v) → (numbered_back entries g s).choice v ≡ h.number
    back_held v h = ap (λ o. unwrap_or o (s.choice v)) h.is_number

    back_free : (v : ℕ) → FreeAt v → (numbered_back entries g s).choice v ≡ s.choice v
    back_free v f = ap (λ o. unwrap_or o (s.choice v)) f.no_number

    module _ (wins : Wins g s) (agrees : Agrees entries g s) where
      below_follows : (u w p : ℕ) → Follows (held entries g) (renumbered entries g s) u w p → Follows g s u w p
      below_follows u w p m =
          let there = arc_there (held entries g) u m.number m.arc m.is_arc in
          elim (held_or_free u) [
            | inl h ↦
                let only = nth_only h.arc m.arc m.number (rw h.only at there.1) in
                record {
                  number = h.number;
                  arc = m.arc;
                  claimed = m.claimed;
                  is_arc = arc_from g u h.number m.arc there.0 (h.is_arc ∙ ap (λ x. Some x) only.1);
                  chosen = λ mine. sym (agrees u h.number m.claimed mine h.is_number);
                  leads = m.leads;
                  costs = m.costs;
                }
            | inr f ↦ record {
              number = m.number;
              arc = m.arc;
              claimed = m.claimed;
              is_arc = arc_from g u m.number m.arc there.0 (rw f.unchanged at there.1);
              chosen = λ mine. m.chosen mine ∙ renumbered_free u f;
              leads = m.leads;
              costs = m.costs;
            }
          ]

      renumbered_wins : Wins (held entries g) (renumbered entries g s)
      renumbered_wins = record {
        choice_is_arc = λ v claimed mine. elim (held_or_free v) [
          | inl h ↦ rw (h.only, renumbered_held v h) (omega arith)
          | inr f ↦ rw (f.unchanged, renumbered_free v f) (wins.choice_is_arc v claimed mine)
        ];
        claims_exist = wins.claims_exist;
        stays_claimed = λ u w p m. wins.stays_claimed u w p (below_follows u w p m);
        closed_walks = λ v p ps walk. wins.closed_walks v p ps (walk_mapped below_follows walk);
      }

    module _ (own : OwnEntries entries g s.player) (wins : Wins (held entries g) s) where
      only_choice : (v : ℕ) → HeldAt v → s.claims v ≡ true → g.mover v ≡ s.player → s.choice v ≡ 0
      only_choice v h claimed mine =
          let l : s.choice v < 1 = rw h.only at (wins.choice_is_arc v claimed mine) in
          omega arith

      above_follows : (u w p : ℕ) → Follows g (numbered_back entries g s) u w p → Follows (held entries g) s u w p
      above_follows u w p m =
          let there = arc_there g u m.number m.arc m.is_arc in
          elim (held_or_free u) [
            | inl h ↦
                let mine = own u h.number there.0 h.entry in
                let same_number = m.chosen mine ∙ back_held u h in
                let same_arc = same_Some h.arc m.arc (sym h.is_arc ∙ ap (λ k. slice_get (g.arcs u) k) (sym same_number) ∙ there.1) in
                record {
                  number = 0;
                  arc = m.arc;
                  claimed = m.claimed;
                  is_arc = arc_from (held entries g) u 0 m.arc there.0 (rw h.only (ap (λ x. Some x) same_arc));
                  chosen = λ mine. sym (only_choice u h m.claimed mine);
                  leads = m.leads;
                  costs = m.costs;
                }
            | inr f ↦ record {
              number = m.number;
              arc = m.arc;
              claimed = m.claimed;
              is_arc = arc_from (held entries g) u m.number m.arc there.0 (rw f.unchanged there.1);
              chosen = λ mine. m.chosen mine ∙ back_free u f;
              leads = m.leads;
              costs = m.costs;
            }
          ]

      back_wins : Wins g (numbered_back entries g s)
      back_wins = record {
        choice_is_arc = λ v claimed mine. elim (held_or_free v) [
          | inl h ↦ rw (back_held v h) h.inside
          | inr f ↦ rw (back_free v f, ← f.unchanged) (wins.choice_is_arc v claimed mine)
        ];
        claims_exist = wins.claims_exist;
        stays_claimed = λ u w p m. wins.stays_claimed u w p (above_follows u w p m);
        closed_walks = λ v p ps walk. wins.closed_walks v p ps (walk_mapped above_follows walk);
      }

    back_agrees : Agrees entries g (numbered_back entries g s)
    back_agrees v i claimed mine e = ap (λ o. unwrap_or o (s.choice v)) e

pub wins_held_lem : (g : Game) (entries : List (Option ℕ)) (s : Plan) → Wins g s → Agrees entries g s → Wins (held entries g) (renumbered entries g s)
wins_held_lem g entries s wins agrees = renumbered_wins g entries s wins agrees

pub wins_below_lem : (g : Game) (entries : List (Option ℕ)) (s : Plan) → OwnEntries entries g s.player → Wins (held entries g) s → Wins g (numbered_back entries g s) × Agrees entries g (numbered_back entries g s)
wins_below_lem g entries s own wins = (back_wins g entries s own wins, back_agrees g entries s)

pub gives_nothing : (g : Game) (entries : List (Option ℕ)) (player : Player) → OwnEntries entries g player → GivesNothing entries g player
gives_nothing g entries player own v (s, wins, is_players, claimed) =
    (numbered_back entries g s, back_wins g entries s (rw is_players own) wins, is_players, claimed)
