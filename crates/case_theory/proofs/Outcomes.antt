-- What the outcome of a solve says: its verdicts are true, more registers give them again, and those of a full solve are exact.
use Rattle.std.proofs.Common.{◌≡◌, ℕ, zero, suc, ◌+◌, ◌*◌, ◌^◌, ◌<◌, ◌≤◌, true, eqb, ◌↔◌, List, Option, sym, ap, ◌∙◌, subst, inl, inr, arith, Some, None}
use Rattle.std.proofs.lemmas.Option.{none-some}
use Rattle.std.proofs.lemmas.Nat.{mul-le}
use Rattle.std.proofs.lemmas.Bool.{cases_lt, and_parts, eqb-true}
use Rattle.game.specs.declared.Player.{Player}
use Rattle.game.specs.declared.Player.TheVariants.{Even, Odd}
use Rattle.game.specs.Game.{Game, Lawful}
use Rattle.game.specs.Layers.{entry_at, restricted, held}
use Rattle.game.specs.Plans.{Winnable, Belongs}
use Rattle.game.proofs.Layers.{held_lawful, swapped_lawful}
use Rattle.determinacy.proofs.Players.{cases_player}
use Rattle.determinacy.proofs.Regions.{winnable_or_rivals}
use Rattle.heights.specs.Climb.{lost}
use Rattle.heights.proofs.Taking.{sweeps_take_lem}
use Rattle.registers.specs.Layer.{registers, stands}
use Rattle.registers.specs.Laws.{registers_lawful}
use Rattle.register_theory.specs.First.{solved_for, KeptFor, Solvable}
use Rattle.register_theory.proofs.Cells.{stands_layer}
use Rattle.register_theory.proofs.First.{kept_for_exact}
use Rattle.register_theory.proofs.More.{still_kept}
use Rattle.register_theory.proofs.Sound.{kept_is_won_lem, kept_swapped_is_won_lem}
use Rattle.case_rules.specs.Limits.{within, needed, cells_for}
use Rattle.case_rules.specs.Outcomes.{Outcome, Decides, Decided, RaisesFor, Raised, Solves}
use Rattle.case_theory.proofs.Sizes.{within_says, needed_few, some_needed, needed_says, solved_size, layer_small, needed_solvable}

-- a verdict for a player comes from registers that keep the position
pub decided_won : {r : ℕ} {h : Game} {verdicts : ℕ → Option Player} → Decided r h verdicts → (player : Player) (v : ℕ) → verdicts v ≡ Some player → (1 ≤ r) × (v < h.size) × KeptFor r h player v
decided_won {r} {h} {verdicts} decided player v won = elim (cases_lt 0 r) [
  | inr none ↦ absurd (none-some player (sym (decided.by_none v (inl (omega arith))) ∙ won))
  | inl some ↦ elim (cases_lt v h.size) [
    | inr past ↦ absurd (none-some player (sym (decided.by_none v (inr past)) ∙ won))
    | inl there ↦ (some, there, subst (Decides r h v) won (decided.by_registers v some there))
  ]
]

-- the same entries make the same game
pub same_held : (g : Game) (xs ys : List (Option ℕ)) → ((v : ℕ) → entry_at xs v ≡ entry_at ys v) → held xs g ≡ held ys g
same_held g xs ys same = λ i. record {
  size = g.size;
  top = g.top;
  mover = g.mover;
  arcs = λ v. restricted (same v i) (g.arcs v);
}

-- so a solve under the one is a solve under the other
pub solves_same : (g : Game) (xs ys : List (Option ℕ)) → ((v : ℕ) → entry_at xs v ≡ entry_at ys v) → {wanted room : ℕ} {o : Outcome} → Solves g xs wanted room o → Solves g ys wanted room o
solves_same g xs ys same {o = o} solves = record {
  is_used = solves.is_used;
  is_needed = solves.is_needed;
  is_full = solves.is_full;
  decided = subst (λ h. Decided o.used h o.verdicts) (same_held g xs ys same) solves.decided;
  raised = subst (λ h. Raised o.used h o.raises) (same_held g xs ys same) solves.raised;
}

both_few : (a b c t : ℕ) → a ≤ c * t → b ≤ c * t → a + b ≤ 2 * c * t
both_few a b c t h l = omega arith

module _ (g : Game) (lawful : Lawful g) (entries : List (Option ℕ)) where
  lawful_held : Lawful (held entries g)
  lawful_held = held_lawful entries g lawful

  pub lawful_for : (player : Player) → Lawful (solved_for player (held entries g))
  lawful_for Even = lawful_held
  lawful_for Odd = swapped_lawful (held entries g) lawful_held

  -- what so many registers keep, at most those needed
  module _ (r : ℕ) (some : 1 ≤ r) (few : r ≤ needed g) where
    pub limits : within g ≡ true
    limits = (needed_says g (omega arith)).0

    at_most_five : r ≤ 5
    at_most_five = let l = needed_few g in omega arith

    pub standing : (player : Player) → stands r (solved_for player (held entries g)) ≡ true
    standing player = (layer_small entries g limits r some at_most_five player).0

    pub kept_belongs : (player : Player) (v : ℕ) → v < g.size → KeptFor r (held entries g) player v → Belongs (held entries g) player v
    kept_belongs Even v there = kept_is_won_lem r (held entries g) lawful_held (standing Even) v there
    kept_belongs Odd v there = kept_swapped_is_won_lem r (held entries g) lawful_held (let low = (within_says g limits).low in omega arith) (standing Odd) v there

    -- for one player only
    pub kept_for_one : (a b : Player) (v : ℕ) → v < g.size → KeptFor r (held entries g) a v → KeptFor r (held entries g) b v → b ≡ a
    kept_for_one a b v there mine theirs = elim (cases_player b a) [
      | inl same ↦ same
      | inr other ↦
          let won = subst (λ (p : Player). Winnable (held entries g) p v) other (kept_belongs b v there theirs).winnable in
          absurd ((kept_belongs a v there mine).not_rivals won)
    ]

    -- so the verdict is the player's for whom it is kept
    pub decides_kept : (player : Player) (v : ℕ) (verdict : Option Player) → v < g.size → Decides r (held entries g) v verdict → KeptFor r (held entries g) player v → verdict ≡ Some player
    decides_kept player v (Some other) there says kept = ap Some (kept_for_one player other v there kept says)
    decides_kept player v None there says kept = absurd (says player kept)

    -- the layer that is swept for a player
    pub swept_lawful : (player : Player) → Lawful (registers r (solved_for player (held entries g)))
    swept_lawful player = registers_lawful r (solved_for player (held entries g)) (lawful_for player)

    pub swept_top : (player : Player) → (registers r (solved_for player (held entries g))).top ≡ 2 * r + 1
    swept_top player = ap (λ (l : Game). l.top) (stands_layer r (solved_for player (held entries g)) (standing player))

    raises_few : (player : Player) (k : ℕ) → RaisesFor r (held entries g) player k → k ≤ cells_for g r * g.size ^ (r + 1)
    raises_few player k takes =
        let h : Game = solved_for player (held entries g) in
        let one = (needed_says g (omega arith)).1 in
        let top = swept_top player in
        let few_k = sweeps_take_lem.few g.size r (registers r h) k one (swept_lawful player) (omega arith) takes in
        let fits = mul-le (registers r h).size (lost g.size r) (cells_for g r) (lost g.size r) (layer_small entries g limits r some at_most_five player).1 (omega arith) in
        omega arith

  pub raised_few : (r raises : ℕ) → r ≤ needed g → Raised r (held entries g) raises → raises ≤ 2 * cells_for g r * g.size ^ (r + 1)
  raised_few zero raises few none = omega arith
  raised_few (suc r) raises few (even, odd, for_even, for_odd, both) =
      rw both (both_few even odd (cells_for g (suc r)) (g.size ^ (suc r + 1)) (raises_few (suc r) (omega arith) few Even even for_even) (raises_few (suc r) (omega arith) few Odd odd for_odd))

  -- more registers keep what fewer keep
  pub kept_more : (r s : ℕ) → 1 ≤ r → r ≤ s → s ≤ needed g → (player : Player) (v : ℕ) → v < g.size → KeptFor r (held entries g) player v → KeptFor s (held entries g) player v
  kept_more r s some more few player v there =
      let size = solved_size entries g (limits r some (omega arith)) player in
      still_kept r s (solved_for player (held entries g)) (lawful_for player) (standing r some (omega arith) player) (standing s (omega arith) few player) more v (omega arith)

  module _ {wanted room : ℕ} {o : Outcome} (solves : Solves g entries wanted room o) where
    used_few : o.used ≤ needed g
    used_few = solves.is_used.fitting.1

    -- a verdict for a player is true
    pub verdict_belongs : (player : Player) (v : ℕ) → o.verdicts v ≡ Some player → Belongs (held entries g) player v
    verdict_belongs player v won =
        let (some, there, kept) = decided_won solves.decided player v won in
        kept_belongs o.used some used_few player v there kept

    -- and a solve with no fewer registers used gives it again
    pub verdict_again : {wanted' room' : ℕ} {p : Outcome} → Solves g entries wanted' room' p → o.used ≤ p.used → (player : Player) (v : ℕ) → o.verdicts v ≡ Some player → p.verdicts v ≡ Some player
    verdict_again {p = p} other more player v won =
        let (some, there, kept) = decided_won solves.decided player v won in
        let few = other.is_used.fitting.1 in
        decides_kept p.used (omega arith) few player v (p.verdicts v) there (other.decided.by_registers v (omega arith) there) (kept_more o.used p.used some more few player v there kept)

    pub few_raises : o.raises ≤ 2 * cells_for g o.used * g.size ^ (o.used + 1)
    few_raises = raised_few o.used o.raises used_few solves.raised

    -- a full solve is one within the limits, by all the registers needed
    pub full_says : o.full ≡ true → (within g ≡ true) × (o.used ≡ needed g)
    full_says full =
        let parts = and_parts (within g) (eqb o.used o.needed) (sym solves.is_full ∙ full) in
        (parts.0, eqb-true o.used o.needed parts.1 ∙ solves.is_needed)

    -- its verdicts are exact
    pub full_exact : o.full ≡ true → (player : Player) (v : ℕ) → v < g.size → (o.verdicts v ≡ Some player) ↔ Winnable (held entries g) player v
    full_exact full player v there = (
      λ won. (verdict_belongs player v won).winnable,
      λ won.
          let (inside, all) = full_says full in
          let solvable : Solvable o.used (held entries g) player = subst (λ r. Solvable r (held entries g) player) (sym all) (needed_solvable entries g inside (omega arith) player) in
          let kept = (kept_for_exact o.used (held entries g) player lawful_held solvable v there).0 won in
          let some : 1 ≤ o.used = let l = some_needed g inside (omega arith) in omega arith in
          decides_kept o.used some used_few player v (o.verdicts v) there (solves.decided.by_registers v some there) kept,
    )

    pub none_open : (v : ℕ) → o.full ≡ true → v < g.size → o.verdicts v ≡ None → ⊥
    none_open v full there is_open = elim (winnable_or_rivals (held entries g) lawful_held Even v there) [
      | inl won ↦ none-some Even (sym is_open ∙ (full_exact full Even v there).1 won)
      | inr won ↦ none-some Odd (sym is_open ∙ (full_exact full Odd v there).1 won)
    ]
