-- What is left of a position's arcs, after one more and at the end.
use Rattle.std.proofs.Common.{◌≡◌, ℕ, ◌+◌, ◌<◌, ltb, [], ◌∷◌, drop, Some, None, sym, ap, ◌∙◌, inl, inr, arith}
use Rattle.std.specs.List.{slice_get}
use Rattle.std.proofs.lemmas.Bool.{cases_lt, cond-true, cond-false, lt-ltb, le-ltb}
use Rattle.std.proofs.lemmas.List.{drop_more, drop_all}
use Rattle.std.proofs.lemmas.Option.{slice_get_within, slice_get_cases, get_or_from_slice_get, none-some}
use Rattle.game.specs.declared.Arc.{Arc}
use Rattle.game.specs.Game.{Game, Lawful, arc_at}
use Rattle.game.proofs.Arcs.{arc_there}
use Rattle.arena.specs.Arcs.{arcs_from}

left_at : (g : Game) (v i : ℕ) → v < g.size → arcs_from g v i ≡ drop i (g.arcs v)
left_at g v i h = cond-true (ltb v g.size) (drop i (g.arcs v)) [] (lt-ltb v g.size h)

pub one_more : (g : Game) (v i : ℕ) (a : Arc) → Some a ≡ arc_at g v i → arcs_from g v i ≡ a ∷ arcs_from g v (i + 1)
one_more g v i a e =
    let there = arc_there g v i a (sym e) in
    let inside = slice_get_within (g.arcs v) i a there.1 in
    left_at g v i there.0
    ∙ drop_more (g.arcs v) i a inside
    ∙ ap (λ b. b ∷ drop (i + 1) (g.arcs v)) (get_or_from_slice_get (g.arcs v) i a a there.1)
    ∙ ap (λ rest. a ∷ rest) (sym (left_at g v (i + 1) there.0))

pub none_left : (g : Game) (v i : ℕ) → None ≡ arc_at g v i → arcs_from g v i ≡ []
none_left g v i e = elim (cases_lt v g.size) [
  | inl h ↦
      let absent : None ≡ slice_get (g.arcs v) i = e ∙ cond-true (ltb v g.size) (slice_get (g.arcs v) i) None (lt-ltb v g.size h) in
      elim ((slice_get_cases (g.arcs v) i).1) [
        | inl found ↦ absurd (none-some found.0 (absent ∙ found.2))
        | inr past ↦ left_at g v i h ∙ drop_all i (g.arcs v) past.0
      ]
  | inr h ↦ cond-false (ltb v g.size) (drop i (g.arcs v)) [] (le-ltb v g.size h)
]

pub few_before : (g : Game) (v i : ℕ) (a : Arc) → Lawful g → Some a ≡ arc_at g v i → i < 64
few_before g v i a laws e =
    let there = arc_there g v i a (sym e) in
    let inside = slice_get_within (g.arcs v) i a there.1 in
    let few = laws.few_arcs v there.0 in
    omega arith
