-- What the choice at a position says of the arcs that the plan's moves may take.
use Rattle.game.specs.declared.Arc as arc
use Rattle.std.proofs.Common.{◌≡◌, ℕ, ◌<◌, Bool, true, false, eqb, ltb, List, [], length, get_or, MatchBool, sym, refl, ap, ◌∙◌, subst, inl, inr, zero-add, arith, ◌%◌, not, Option, None}
use Rattle.std.specs.List.{enumerate_from, HoldsAt, AllWithin}
use Rattle.std.proofs.lemmas.Bool.{cases_Bool, cond-true, lt-ltb, eqb-true, eqb-false, eq-eqb, both_ways, not-true, not-false}
use Rattle.std.proofs.lemmas.Bool.Decides.{nat_tests}
use Rattle.std.proofs.lemmas.List.FromFn.{length-enumerate_from, get_or-enumerate_from}
use Rattle.std.proofs.lemmas.Option.{slice_get_within, slice_get-get_or, get_or_from_slice_get}
use Rattle.game.specs.declared.Player.{Player}
use Rattle.game.specs.declared.Player.TheVariants.{Even, Odd}
use Rattle.game.specs.Players.{byte_of}
use Rattle.game.specs.Game.{Game, Lawful, parity, rival}
use Rattle.game.specs.Plans.{Plan}
use Rattle.game.proofs.Arcs.{arc_there, arc_from}
use Rattle.arena.specs.Arcs.{arcs_from}
use Rattle.plans.specs.declared.choice.Choice.{Choice}
use Rattle.plans.specs.declared.choice.Choice.TheVariants.{Unclaimed, Claimed, Arc}
use Rattle.plans.specs.Bytes.{byte, choice_byte, plan_of, player_of, WellFormed}
use Rattle.plans.specs.Choices.{choice_of, allows}
use Rattle.plans.specs.Findings.{Tells, TellsSomeMove, ClosedWalkAt, LosingWalkAt}
use Rattle.plans.proofs.Following.{MayTake, own_or_rivals, follows_by, taken_by}
use Rattle.plans.specs.Marks.{Found}
use Rattle.plans.proofs.Lows.{losing_from_closed, none_loses}

claimed_byte : (b : ℕ) → Claimed ≡ choice_of b → b ≡ 254
claimed_byte b is = grind (arith, nat_tests)

arc_byte : (b n : ℕ) → Arc n ≡ choice_of b → (b ≡ n) × ((b ≡ 255 → ⊥) × (b ≡ 254 → ⊥))
arc_byte b n is = grind (arith, nat_tests)

-- the player with the first byte is the plan's
pub owner_is : (player : Player) (bytes : List ℕ) → byte_of player ≡ byte bytes 0 → player ≡ player_of bytes
owner_is Even bytes e = grind (arith, nat_tests)
owner_is Odd bytes e = grind (arith, nat_tests)

unclaimed_byte : (b : ℕ) → Unclaimed ≡ choice_of b → b ≡ 255
unclaimed_byte b is = grind (arith, nat_tests)

claims_not : (n : ℕ) (bytes : List ℕ) (v : ℕ) → choice_byte bytes v ≡ 255 → (plan_of n bytes).claims v ≡ true → ⊥
claims_not n bytes v is claimed = grind (arith, nat_tests)

claims_is : (n : ℕ) (bytes : List ℕ) (v : ℕ) → v < n → (choice_byte bytes v ≡ 255 → ⊥) → (plan_of n bytes).claims v ≡ true
claims_is n bytes v h apart = grind (arith, nat_tests)

module _ (g : Game) (bytes : List ℕ) (laws : Lawful g) (formed : WellFormed g bytes) (v i : ℕ) (there : v < g.size) where
  -- by any arc, where the other player moves
  by_any : Claimed ≡ choice_of (choice_byte bytes v) → MayTake g (plan_of g.size bytes) v i
  by_any is =
      let byte = claimed_byte (choice_byte bytes v) is in
      record {
        claimed = claims_is g.size bytes v there (λ e. let h : choice_byte bytes v ≡ 255 = e in omega arith);
        chosen = λ own. elim ((formed.each_choice v there).own own) [
          | inl unclaimed ↦ absurd (omega arith)
          | inr arc ↦ let few = laws.few_arcs v there in absurd (omega arith)
        ];
      }

  -- by the chosen arc alone, where the plan's player moves
  by_chosen : (chosen : ℕ) → Arc chosen ≡ choice_of (choice_byte bytes v) → Tells (eqb i chosen) (MayTake g (plan_of g.size bytes) v i)
  by_chosen chosen is =
      let byte = arc_byte (choice_byte bytes v) chosen is in
      let claimed = claims_is g.size bytes v there byte.1.0 in
      let own : g.mover v ≡ player_of bytes = elim (own_or_rivals (g.mover v) (player_of bytes)) [
        | inl mine ↦ mine
        | inr rivals ↦ elim ((formed.each_choice v there).other rivals) [ inl marked ↦ absurd (byte.1.1 marked) | inr unclaimed ↦ absurd (byte.1.0 unclaimed) ]
      ] in
      at (eqb i chosen) refl byte.0 claimed own
    where
      at : (b : Bool) → b ≡ eqb i chosen → choice_byte bytes v ≡ chosen → (plan_of g.size bytes).claims v ≡ true → g.mover v ≡ player_of bytes → Tells b (MayTake g (plan_of g.size bytes) v i)
      at true same byte claimed own = record { claimed = claimed; chosen = λ _. eqb-true i chosen (sym same) ∙ sym byte }
      at false apart byte claimed own = λ may. eqb-false i chosen (sym apart) (may.chosen own ∙ byte)

  pub tells_allowed : Tells (allows (choice_of (choice_byte bytes v)) i) (MayTake g (plan_of g.size bytes) v i)
  tells_allowed = at (choice_of (choice_byte bytes v)) refl
    where
      at : (choice : Choice) → choice ≡ choice_of (choice_byte bytes v) → Tells (allows choice i) (MayTake g (plan_of g.size bytes) v i)
      at Unclaimed is = λ may. claims_not g.size bytes v (unclaimed_byte (choice_byte bytes v) is) may.claimed
      at Claimed is = by_any is
      at (Arc chosen) is = by_chosen chosen is

-- What `any` answers over the numbered arcs of a position, of those that the plan's moves may take.
module _ (g : Game) (bytes : List ℕ) (laws : Lawful g) (formed : WellFormed g bytes) (v : ℕ) (there : v < g.size) (says : arc.Arc → Bool → Type 0) where
  abbrev plan : Plan
  plan = plan_of g.size bytes

  abbrev choice : Choice
  choice = choice_of (choice_byte bytes v)

  abbrev Yes : ℕ × arc.Arc → Type 0
  Yes p = (allows choice p.0 ≡ true) × says p.1 true

  abbrev No : ℕ × arc.Arc → Type 0
  No p = allows choice p.0 ≡ true → says p.1 false

  abbrev Answer : Bool → List arc.Arc → Type 0
  Answer r arcs = MatchBool r ((k : ℕ) × (k < length (enumerate_from 0 arcs)) × HoldsAt Yes (enumerate_from 0 arcs) k) (AllWithin No (enumerate_from 0 arcs) 0 (length (enumerate_from 0 arcs)))

  place : (k : ℕ) (d : ℕ × arc.Arc) → k < length (g.arcs v) → get_or (enumerate_from 0 (g.arcs v)) k d ≡ (k, get_or (g.arcs v) k d.1)
  place k d inside = get_or-enumerate_from 0 (g.arcs v) k d inside ∙ ap (λ (i : ℕ). (i, get_or (g.arcs v) k d.1)) (zero-add k)

  long : length (enumerate_from 0 (g.arcs v)) ≡ length (g.arcs v)
  long = length-enumerate_from 0 (g.arcs v)

  may : (k : ℕ) → allows choice k ≡ true → MayTake g plan v k
  may k e = subst (λ b. Tells b (MayTake g plan v k)) e (tells_allowed g bytes laws formed v k there)

  allowed : (k : ℕ) → MayTake g plan v k → allows choice k ≡ true
  allowed k takes = elim (cases_Bool (allows choice k)) [
    | inl e ↦ e
    | inr e ↦ absurd (subst (λ b. Tells b (MayTake g plan v k)) e (tells_allowed g bytes laws formed v k there) takes)
  ]

  some_arc : arc.Arc
  some_arc = record { target = 0; priority = 0 }

  told : (r : Bool) → Answer r (g.arcs v) → TellsSomeMove g plan v says r
  told true (k, inside, holds) =
      let within : k < length (g.arcs v) = rw (← long) inside in
      let found = get_or (g.arcs v) k some_arc in
      let (takes, passes) = subst Yes (place k (0, some_arc) within) (holds (0, some_arc)) in
      (found, follows_by g plan v k found (may k takes) (arc_from g v k found there (slice_get-get_or (g.arcs v) k some_arc within)), passes)
  told false none = λ a m.
      let (i, takes, is) = taken_by g plan v a m in
      let found = (arc_there g v i a is).1 in
      let within = slice_get_within (g.arcs v) i a found in
      let fails = subst No (place i (0, a) within) (none i (0, a) (omega arith) (rw long within)) in
      subst (λ b. says b false) (get_or_from_slice_get (g.arcs v) i a a found) (fails (allowed i takes))

  pub moves_from_any : (r : Bool) → Answer r (arcs_from g v 0) → TellsSomeMove g plan v says r
  moves_from_any r answer =
      let all : arcs_from g v 0 ≡ g.arcs v = cond-true (ltb v g.size) (g.arcs v) [] (lt-ltb v g.size there) in
      told r (subst (Answer r) all answer)

-- the closed walks by a priority lose exactly where it has the parity of the rival of the player whom the bytes name
module _ (g : Game) (bytes : List ℕ) (player : Player) (q : ℕ) (wrong : Bool) (owner : byte_of player ≡ byte bytes 0) (says : wrong ≡ eqb (q % 2) (parity (rival player))) where
  pub loses_by : not wrong ≡ false → (o : Option ℕ) → Found (ClosedWalkAt g (plan_of g.size bytes) q) o → Found (LosingWalkAt g (plan_of g.size bytes) q) o
  loses_by is = λ o. losing_from_closed g (plan_of g.size bytes) q o (eqb-true (q % 2) (parity (rival player)) (sym says ∙ not-false wrong is) ∙ ap (λ p. parity (rival p)) (owner_is player bytes owner))

  pub loses_by_none : not wrong ≡ true → Found (LosingWalkAt g (plan_of g.size bytes) q) None
  loses_by_none is = none_loses g (plan_of g.size bytes) q (λ e. both_ways wrong (not-true wrong is) (says ∙ eq-eqb (q % 2) (parity (rival player)) (e ∙ ap (λ p. parity (rival p)) (sym (owner_is player bytes owner)))))
