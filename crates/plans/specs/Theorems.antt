-- The faults leave no bytes out and none in twice, the marks no plan; and a plan passes exactly when it wins.
use Rattle.std.specs.Prelude.{◌≡◌, ℕ, ◌%◌, ◌⊎◌, ◌↔◌, List, ◌∷◌, ◌++◌}
use Rattle.game.specs.Game.{Game, Lawful, parity, rival}
use Rattle.game.specs.Plans.{Plan, Follows, Walk, Wins, highest}
use Rattle.plans.specs.declared.fault.PlanFault.{PlanFault}
use Rattle.plans.specs.declared.mark.Mark.{Mark}
use Rattle.plans.specs.declared.mark.Mark.TheVariants.{Passes}
use Rattle.plans.specs.Bytes.{plan_of, WellFormed}
use Rattle.plans.specs.Refusals.{Refuses}
use Rattle.plans.specs.Marks.{OnLosingWalk, Marks}

-- Bytes are well-formed exactly when no fault applies; otherwise one does.
pub record FaultsComplete : Type 0 where
  pub formed_or_refused : (g : Game) (bytes : List ℕ) → WellFormed g bytes ⊎ ((fault : PlanFault) × Refuses g bytes fault)
  pub not_both : (g : Game) (bytes : List ℕ) (fault : PlanFault) → WellFormed g bytes → Refuses g bytes fault → ⊥
  pub one_fault : (g : Game) (bytes : List ℕ) (a b : PlanFault) → Refuses g bytes a → Refuses g bytes b → a ≡ b

-- Every well-formed plan has one mark, and passes exactly when it wins. Each position on a closed walk whose highest priority has the
-- other player's parity is on a losing walk, wherever that walk was begun.
pub record MarksComplete : Type 0 where
  pub some_mark : (g : Game) (bytes : List ℕ) → Lawful g → WellFormed g bytes → (mark : Mark) × Marks g (plan_of g.size bytes) mark
  pub one_mark : (g : Game) (s : Plan) (a b : Mark) → Marks g s a → Marks g s b → a ≡ b
  pub passing_is_winning : (g : Game) (bytes : List ℕ) → WellFormed g bytes → Marks g (plan_of g.size bytes) Passes ↔ Wins g (plan_of g.size bytes)
  pub begun_anywhere : (g : Game) (s : Plan) (u v p : ℕ) (ps qs : List ℕ) → Walk (Follows g s) u v ps → Walk (Follows g s) v u (p ∷ qs) → highest (ps ++ p ∷ qs) % 2 ≡ parity (rival s.player) → OnLosingWalk g s v
