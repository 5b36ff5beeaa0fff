-- Bytes are well-formed or have one fault.
use Rattle.std.proofs.Common.{◌≡◌, ℕ, ◌+◌, ◌⊎◌, List, length, sym, refl, ap, ◌∙◌, inl, inr, arith}
use Rattle.std.proofs.Math.Logic.{∥∥₁_elim}
use mathlib.Core.HLevel.{⊥_prop}
use Rattle.std.proofs.lemmas.Bool.{cases_lt, cases_eq, cases_order}
use Rattle.game.specs.Game.{Game}
use Rattle.game.specs.Lowest.{LowestWithout}
use Rattle.toolkit.proofs.Search.{seek_least}
use Rattle.plans.specs.declared.fault.PlanFault.{PlanFault}
use Rattle.plans.specs.declared.fault.PlanFault.TheVariants.{Length, Owner, Size, Choice}
use Rattle.plans.specs.Bytes.{byte, player_of, choice_byte, Headed, ChoiceFits, WellFormed}
use Rattle.plans.specs.Refusals.{Refuses}
use Rattle.plans.specs.Theorems.{FaultsComplete}
use Rattle.plans.proofs.Following.{own_or_rivals, not_its_rival}

module _ (g : Game) (bytes : List ℕ) where
  fits_or_not : (v : ℕ) → (ChoiceFits g bytes v → ⊥) ⊎ ChoiceFits g bytes v
  fits_or_not v = elim (cases_eq (choice_byte bytes v) 255) [
    | inl unclaimed ↦ inr (record { own = λ _. inl unclaimed; other = λ _. inr unclaimed })
    | inr claimed ↦ elim (own_or_rivals (g.mover v) (player_of bytes)) [
      | inl own ↦
          elim (cases_lt (choice_byte bytes v) (length (g.arcs v))) [
            | inl arc ↦ inr (record { own = λ _. inr arc; other = λ other. absurd (not_its_rival (player_of bytes) (sym own ∙ other)) })
            | inr past ↦ inl (λ fits. elim (fits.own own) [ inl unclaimed ↦ claimed unclaimed | inr arc ↦ omega arith ])
          ]
      | inr other ↦
          elim (cases_eq (choice_byte bytes v) 254) [
            | inl marked ↦ inr (record { own = λ own. absurd (not_its_rival (player_of bytes) (sym own ∙ other)); other = λ _. inl marked })
            | inr apart ↦ inl (λ fits. elim (fits.other other) [ inl marked ↦ apart marked | inr unclaimed ↦ claimed unclaimed ])
          ]
    ]
  ]

  by_choices : Headed g.size bytes → WellFormed g bytes ⊎ ((fault : PlanFault) × Refuses g bytes fault)
  by_choices headed = elim (seek_least {P = λ v. ChoiceFits g bytes v → ⊥} {Q = ChoiceFits g bytes} g.size (λ v h. fits_or_not v)) [
    | inl (v, inside, lacks, below) ↦ inr (Choice v, (headed, record { from_start = omega arith; before_end = inside; lacks = lacks; below_have = λ j _ h. below j h }))
    | inr all ↦ inl (record { headed = headed; each_choice = all })
  ]

  formed_or_refused : WellFormed g bytes ⊎ ((fault : PlanFault) × Refuses g bytes fault)
  formed_or_refused = elim (cases_eq (length bytes) (g.size + 2)) [
    | inr apart ↦ inr (Length, apart)
    | inl whole ↦ elim (cases_lt 1 (byte bytes 0)) [
      | inl high ↦ inr (Owner, (whole, high))
      | inr player ↦ elim (cases_eq (byte bytes 1) g.size) [
        | inr apart ↦ inr (Size, (whole, player, apart))
        | inl positions ↦ by_choices (record { whole = whole; player = player; positions = positions })
      ]
    ]
  ]

  pub not_both : (fault : PlanFault) → WellFormed g bytes → Refuses g bytes fault → ⊥
  not_both Length formed refused = refused formed.headed.whole
  not_both Owner formed refused = let player = formed.headed.player in let high = refused.1 in omega arith
  not_both Size formed refused = refused.2 formed.headed.positions
  not_both (Choice v) formed refused = refused.1.lacks (formed.each_choice v refused.1.before_end)

  lowest_same : {v w : ℕ} → LowestWithout (ChoiceFits g bytes) 0 g.size v → LowestWithout (ChoiceFits g bytes) 0 g.size w → v ≡ w
  lowest_same {v} {w} one two = elim (cases_order v w) [
    | inl e ↦ e
    | inr (inl less) ↦ absurd (one.lacks (two.below_have v (omega arith) less))
    | inr (inr less) ↦ absurd (two.lacks (one.below_have w (omega arith) less))
  ]

  one_fault : (a b : PlanFault) → Refuses g bytes a → Refuses g bytes b → a ≡ b
  one_fault Length Length x y = refl
  one_fault Length Owner x y = absurd (x y.0)
  one_fault Length Size x y = absurd (x y.0)
  one_fault Length (Choice w) x y = absurd (x y.0.whole)
  one_fault Owner Length x y = absurd (y x.0)
  one_fault Owner Owner x y = refl
  one_fault Owner Size x y = let high = x.1 in let low = y.1 in absurd (omega arith)
  one_fault Owner (Choice w) x y = let high = x.1 in let low = y.0.player in absurd (omega arith)
  one_fault Size Length x y = absurd (y x.0)
  one_fault Size Owner x y = let low = x.1 in let high = y.1 in absurd (omega arith)
  one_fault Size Size x y = refl
  one_fault Size (Choice w) x y = absurd (x.2 y.0.positions)
  one_fault (Choice v) Length x y = absurd (y x.0.whole)
  one_fault (Choice v) Owner x y = let low = x.0.player in let high = y.1 in absurd (omega arith)
  one_fault (Choice v) Size x y = absurd (y.2 x.0.positions)
  one_fault (Choice v) (Choice w) x y = ap Choice (lowest_same x.1 y.1)

-- well-formed bytes, where it is known only that they are
pub formed_from : (g : Game) (bytes : List ℕ) → ∥ WellFormed g bytes ∥₁ → WellFormed g bytes
formed_from g bytes known = elim (formed_or_refused g bytes) [
  | inl formed ↦ formed
  | inr (fault, refused) ↦ absurd (∥∥₁_elim known ⊥_prop (λ formed. not_both g bytes fault formed refused))
]

pub faults_complete : FaultsComplete
faults_complete = record { formed_or_refused = formed_or_refused; not_both = not_both; one_fault = one_fault }
