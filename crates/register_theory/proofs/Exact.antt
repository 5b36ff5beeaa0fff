-- With enough registers each position is kept for exactly the player to whom it belongs.
use Rattle.std.proofs.Common.{◌≡◌, ℕ, ◌<◌, true, inl, inr, arith}
use Rattle.game.specs.Game.{Game, Lawful}
use Rattle.game.specs.Layers.{swapped}
use Rattle.game.proofs.Layers.{swapped_lawful}
use Rattle.determinacy.proofs.Regions.{each_belongs}
use Rattle.registers.specs.Layer.{stands}
use Rattle.register_theory.specs.Kept.{Exact}
use Rattle.register_theory.specs.Groups.{SmallGroups}
use Rattle.register_theory.proofs.Groups.{swapped_small}
use Rattle.register_theory.proofs.Sound.{stands_parts, kept_is_won_lem, kept_swapped_is_won_lem, winnable_above, never_both}
use Rattle.register_theory.proofs.Complete.{won_is_kept_lem}

module _ (r : ℕ) (g : Game) (lawful : Lawful g) (e : stands r g ≡ true) (f : stands r (swapped g) ≡ true) (small : SmallGroups r g) where
  low : g.top < 250
  low = let l = (stands_parts r g e).1 in omega arith

  pub exact : (v : ℕ) → v < g.size → Exact r g v
  exact v h =
      let evens = won_is_kept_lem r g lawful e small v in
      let odds = won_is_kept_lem r (swapped g) (swapped_lawful g lawful) f (swapped_small r g low small) v in
      record {
        evens = (λ b. evens b.winnable, kept_is_won_lem r g lawful e v h);
        odds = (λ b. odds (winnable_above g low v b.winnable), kept_swapped_is_won_lem r g lawful low f v h);
        one_of = elim (each_belongs g lawful v h) [ inl b ↦ inl (evens b.winnable) | inr b ↦ inr (odds (winnable_above g low v b.winnable)) ];
        not_both = never_both r r g lawful e f v h;
      }
