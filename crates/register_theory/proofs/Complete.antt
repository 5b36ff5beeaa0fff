-- Enough registers keep all that is won: the potential of a winning plan's tree gives heights of states.
use Rattle.std.proofs.Common.{◌≡◌, ℕ, suc, ◌+◌, ◌-◌, ◌*◌, ◌/◌, ◌%◌, ◌^◌, ◌<◌, ◌≤◌, true, cond, ◌&&◌, ◌⊎◌, List, length, replicate, sym, refl, ap, ◌∙◌, ap₂, inl, inr, arith}
use Rattle.std.proofs.lemmas.List.{length-replicate, get_or-replicate}
use Rattle.std.proofs.lemmas.Bool.{cases_Bool, and_parts, and_from, cond-true, cond-false}
use Rattle.game.specs.declared.Player.TheVariants.{Even}
use Rattle.game.specs.declared.Arc.{Arc}
use Rattle.game.specs.Game.{Game, Lawful}
use Rattle.game.specs.Plans.{Plan, Follows, Wins}
use Rattle.toolkit.specs.Finite.{digits}
use Rattle.toolkit.proofs.Counting.{count_at_most}
use Rattle.toolkit.proofs.Digits.{digits_below, lifted_at_most}
use Rattle.determinacy.proofs.Players.{not_both}
use Rattle.determinacy.proofs.Subgames.{arc, arc_known}
use Rattle.rows.specs.Registers.{content, updated}
use Rattle.heights.specs.Climb.{lost, climb}
use Rattle.registers.specs.Layer.{stands}
use Rattle.register_theory.specs.Doubling.{chosen}
use Rattle.register_theory.specs.Kept.{WonIsKept}
use Rattle.register_theory.specs.Groups.{SmallGroups}
use Rattle.heights.proofs.Climb.{climb_below}
use Rattle.register_theory.proofs.Contents.{contents, cost, cost_at_most_one, chosen_contents, toll_is}
use Rattle.register_theory.proofs.Doubly.{Affords, Doubly}
use Rattle.register_theory.proofs.Sound.{DoublyKept, stands_parts}
use Rattle.register_theory.proofs.More.{kept_from_doubly}
use Rattle.register_theory.proofs.Tree.{Tree, In, Laws, size}
use Rattle.register_theory.proofs.Stale.{Clean, even_clean, clean_after}
use Rattle.register_theory.proofs.Potential.{clean, clean_says, clean_from, potential, potential_bound}
use Rattle.register_theory.proofs.Falling.{step_falls}
use Rattle.register_theory.proofs.Grades.{tree, tree_laws, claimed_alike}

-- where digit j falls by c and none above rises, the climb by 2j + c comes to at most the number
climb_digits : (n r j c : ℕ) (d e : ℕ → ℕ) → ((i : ℕ) → i < r + 1 → (d i < n) × (e i < n)) → j ≤ r → c ≤ 1 → ((i : ℕ) → j < i → i < r + 1 → d i ≤ e i) → d j + c ≤ e j → climb n r (digits n (r + 1) d) (2 * j + c) ≤ digits n (r + 1) e
climb_digits n r j c d e low fits cheap above here =
    let x = digits n (r + 1) d in
    let q = 2 * j + c in
    let under = digits_below n (r + 1) d (λ i l. (low i l).0) in
    let half : q / 2 ≡ j = omega arith in
    let rest : q % 2 ≡ c = omega arith in
    let value = climb_below n r x q under ∙ ap₂ (λ a b. (x / n ^ a + b) * n ^ a) half rest in
    let l = lifted_at_most n (r + 1) j c d e low (omega arith) above here in
    omega arith

module _ (g : Game) (lawful : Lawful g) (s : Plan) (wins : Wins g s) (even : s.player ≡ Even) (r : ℕ) (some : 1 ≤ r) (small : SmallGroups r g) where
  abbrev n : ℕ
  n = g.size

  abbrev grown : Tree
  grown = tree g lawful s wins even r some small

  laws : Laws grown (Follows g s)
  laws = tree_laws g lawful s wins even r some small

  -- above the outermost level of the tree
  abbrev level : ℕ
  level = suc (suc g.top)

  abbrev digit : ℕ → List ℕ → ℕ → ℕ
  digit v row = potential grown level v (contents row)

  height : ℕ → List ℕ → ℕ
  height v row = cond (s.claims v && clean grown level v (contents row)) (digits n (r + 1) (digit v row)) (lost n r)

  -- the position is claimed and the row clean
  abbrev Inside : ℕ → List ℕ → Type 0
  Inside v row = (s.claims v ≡ true) × Clean grown level v (contents row)

  height_inside : (v : ℕ) (row : List ℕ) → Inside v row → height v row ≡ digits n (r + 1) (digit v row)
  unfolding height
  height_inside v row (claimed, tidy) =
      cond-true (s.claims v && clean grown level v (contents row)) (digits n (r + 1) (digit v row)) (lost n r)
      (and_from (s.claims v) (clean grown level v (contents row)) claimed (clean_from grown level v (contents row) tidy))

  inside_or_lost : (v : ℕ) (row : List ℕ) → Inside v row ⊎ (height v row ≡ lost n r)
  unfolding height
  inside_or_lost v row = elim (cases_Bool (s.claims v && clean grown level v (contents row))) [
    | inl e ↦ let parts = and_parts (s.claims v) (clean grown level v (contents row)) e in inl (parts.0, clean_says grown level v (contents row) parts.1)
    | inr e ↦ inr (cond-false (s.claims v && clean grown level v (contents row)) (digits n (r + 1) (digit v row)) (lost n r) e)
  ]

  inside_from : (v : ℕ) (row : List ℕ) → height v row < lost n r → Inside v row
  inside_from v row low = elim (inside_or_lost v row) [ inl inside ↦ inside | inr e ↦ absurd (omega arith) ]

  in_level : (v w : ℕ) → s.claims v ≡ true → s.claims w ≡ true → In grown level v w
  in_level v w a b = claimed_alike g lawful s wins even r some small level v w (omega arith) a b

  digit_low : (v : ℕ) (row : List ℕ) → Inside v row → (i : ℕ) → digit v row i < n
  unfolding size
  digit_low v row (claimed, tidy) i =
      let h = potential_bound grown laws level v (contents row) (in_level v v claimed claimed) tidy i in
      let l = count_at_most n (grown.member level v) in
      omega arith

  height_low : (v : ℕ) (row : List ℕ) → Inside v row → height v row < lost n r
  height_low v row inside = let e = height_inside v row inside in let l = digits_below n (r + 1) (digit v row) (λ i h. digit_low v row inside i) in omega arith

  -- each move that follows the plan has a choice that the height affords
  move_afforded : (v : ℕ) (row : List ℕ) → length row ≡ r → Inside v row → (a : Arc) → Follows g s v a.target a.priority → Affords g r height v row a
  move_afforded v row whole inside a m =
      let w = a.target in
      let p = a.priority in
      let w_claimed = wins.stays_claimed v w p m in
      let near = in_level v w inside.0 w_claimed in
      let bound : p ≤ g.top = (let l = lawful.priority_low v m.number m.arc m.is_arc in let e = m.costs in omega arith) in
      let low : p + 2 ≤ 2 * level = omega arith in
      let (j, there, used, falls) = step_falls grown laws level v w p (contents row) m near low inside.1 in
      let next = contents (chosen j (updated p row)) in
      let agrees = λ (i : ℕ) (l : 1 ≤ i) (h : i ≤ r). chosen_contents r p row whole j i there l h in
      let fall = falls next agrees in
      let inside_w : Inside w (chosen j (updated p row)) = (w_claimed, clean_after grown laws level v w p m near low (contents row) next j agrees inside.1) in
      afforded j there inside_w fall.0 fall.1
    where
      afforded : (j : ℕ) → j ≤ r → Inside a.target (chosen j (updated a.priority row)) →
          ((i : ℕ) → j < i → i ≤ r → digit a.target (chosen j (updated a.priority row)) i ≤ digit v row i) →
          digit a.target (chosen j (updated a.priority row)) j + cost (contents row) a.priority j ≤ digit v row j → Affords g r height v row a
      afforded j there inside_w above here =
          let w = a.target in
          let p = a.priority in
          let last = chosen j (updated p row) in
          let price = toll_is r p row whole j there in
          let e = height_inside v row inside in
          let f = ap₂ (λ x q. climb n r x q) (height_inside w last inside_w) price in
          let l = climb_digits n r j (cost (contents row) p j) (digit w last) (digit v row) (λ i h. (digit_low w last inside_w i, digit_low v row inside i)) there (cost_at_most_one (contents row) p j) (λ i h l. above i h (omega arith)) here in
          (j, there, omega arith)

  plan_doubly : Doubly g r height
  plan_doubly = record {
    bounded = λ v row state. elim (inside_or_lost v row) [ inl inside ↦ let l = height_low v row inside in omega arith | inr e ↦ omega arith ];
    evens = λ v row state low mine.
        let inside = inside_from v row low in
        let i = s.choice v in
        let is_arc = arc_known g v i state.0 (wins.choice_is_arc v inside.0 (mine ∙ sym even)) in
        (i, arc g v i, is_arc, move_afforded v row state.2 inside (arc g v i) (record { number = i; arc = arc g v i; claimed = inside.0; is_arc = is_arc; chosen = λ m. refl; leads = refl; costs = refl }));
    odds = λ v row state low theirs i a is_arc.
        let inside = inside_from v row low in
        move_afforded v row state.2 inside a (record { number = i; arc = a; claimed = inside.0; is_arc = is_arc; chosen = λ m. absurd (not_both (g.mover v) Even (m ∙ even) theirs); leads = refl; costs = refl });
  }

  zeros_inside : (v : ℕ) → s.claims v ≡ true → Inside v (replicate r 0)
  zeros_inside v claimed = (claimed, even_clean grown level v (contents (replicate r 0)) (λ i l h. ap (λ x. x % 2) (zero_content i l h)))
    where
      zero_content : (i : ℕ) → 1 ≤ i → i ≤ r → content i (replicate r 0) ≡ 0
      zero_content i l h = let e = length-replicate {A = ℕ} r 0 in get_or-replicate {A = ℕ} r (length {A = ℕ} (replicate r 0) - i) 0 0 (omega arith)

  pub plan_keeps : (v : ℕ) → s.claims v ≡ true → DoublyKept r g v
  plan_keeps v claimed = (height, plan_doubly, height_low v (replicate r 0) (zeros_inside v claimed))

pub won_is_kept_lem : (r : ℕ) (g : Game) → Lawful g → stands r g ≡ true → SmallGroups r g → WonIsKept r g
won_is_kept_lem r g lawful e small v (s, wins, even, claimed) =
    kept_from_doubly r g v lawful e (wins.claims_exist v claimed) (plan_keeps g lawful s wins even r (stands_parts r g e).0 small v claimed)
