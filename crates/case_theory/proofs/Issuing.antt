-- The plan that issue writes: the first plan that wins the player's region, as bytes.
use Rattle.std.proofs.Common.{◌≡◌, ℕ, ◌+◌, ◌<◌, ◌≤◌, true, false, cond, not, eqb, ltb, ◌⊎◌, ◌↔◌, List, ◌∷◌, map, length, get_or, sym, refl, ap, ◌∙◌, inl, inr, zero-add, arith}
use native.Mathlib.Numerals.{add-two}
use Rattle.std.specs.List.{range_with_len}
use Rattle.std.proofs.lemmas.List.FromFn.{length-map-range_with_len, get_or-map-range_with_len}
use Rattle.std.proofs.lemmas.Bool.{cases_Bool, both_ways, and_parts, and_from, cond-true, cond-false, not-true, not_from_false, ltb-true, lt-ltb, eqb-false, ne_eqb}
use Rattle.game.specs.declared.Player.{Player}
use Rattle.game.specs.declared.Player.TheVariants.{Even, Odd}
use Rattle.game.specs.Game.{Game, Lawful, parity, rival}
use Rattle.game.specs.Plans.{Plan, Wins, Winnable, Belongs}
use Rattle.determinacy.specs.Statements.{same, WinsRegion}
use Rattle.determinacy.proofs.Disjoint.{disjoint}
use Rattle.determinacy.proofs.Players.{cases_player, not_both, same_true, same_from}
use Rattle.register_theory.specs.First.{Own, SameBelow, FirstPlan}
use Rattle.register_theory.proofs.First.{alike_wins}
use Rattle.register_theory.proofs.InTurn.{first_exists_lem}
use Rattle.plans.specs.Bytes.{player_of, choice_byte, plan_of, ChoiceFits, WellFormed}
use Rattle.plan_order.proofs.Order.{first_in_bytes_lem}
use Rattle.case_rules.specs.Outcomes.{WinningPlan, FirstWinning}

-- Where what is said to be the player's is what the player can win, the bytes of the first plan that wins it all are the first winning ones.
module _ (h : Game) (player : Player) (Mine : ℕ → Type 0) (exact : (v : ℕ) → v < h.size → Mine v ↔ Winnable h player v) where
  wins_their_region : (others : List ℕ) → WinningPlan h player Mine others → WinsRegion h player (plan_of h.size others)
  wins_their_region others plan = record {
    wins = plan.wins;
    is_players = plan.players;
    claims_region = λ v. (
      (λ claimed. (let there = plan.wins.claims_exist v claimed in (exact v there).0 ((plan.claims_mine v there).0 claimed))),
      (λ won. (let there = won.1.claims_exist v won.3 in (plan.claims_mine v there).1 ((exact v there).1 won))),
    );
  }

  pub first_winning_from : (bytes : List ℕ) → WellFormed h bytes → FirstPlan h player (plan_of h.size bytes) → FirstWinning h player Mine bytes
  first_winning_from bytes formed first = record {
    such = record {
      formed = formed;
      players = first.wins_region.is_players;
      wins = first.wins_region.wins;
      claims_mine = λ v there. (
        (λ claimed. (exact v there).1 ((first.wins_region.claims_region v).0 claimed)),
        (λ won. (first.wins_region.claims_region v).1 ((exact v there).0 won)),
      );
    };
    first = λ others plan. first_in_bytes_lem h player bytes others formed plan.formed first (wins_their_region others plan);
  }

-- What belongs to a player is what the player can win.
pub belongs_exact : (h : Game) (player : Player) (v : ℕ) → v < h.size → Belongs h player v ↔ Winnable h player v
belongs_exact h player v there = (λ mine. mine.winnable, λ won. record { winnable = won; not_rivals = disjoint h player v won })

-- Plans are first alike where the same positions are said to be the player's.
module _ (h : Game) (player : Player) (Mine Other : ℕ → Type 0) (same : (v : ℕ) → v < h.size → Mine v ↔ Other v) where
  winning_back : (bytes : List ℕ) → WinningPlan h player Other bytes → WinningPlan h player Mine bytes
  winning_back bytes plan = record {
    formed = plan.formed;
    players = plan.players;
    wins = plan.wins;
    claims_mine = λ v there. ((λ claimed. (same v there).1 ((plan.claims_mine v there).0 claimed)), (λ mine. (plan.claims_mine v there).1 ((same v there).0 mine)));
  }

  pub first_winning_alike : (bytes : List ℕ) → FirstWinning h player Mine bytes → FirstWinning h player Other bytes
  first_winning_alike bytes first = record {
    such = record {
      formed = first.such.formed;
      players = first.such.players;
      wins = first.such.wins;
      claims_mine = λ v there. ((λ claimed. (same v there).0 ((first.such.claims_mine v there).0 claimed)), (λ mine. (first.such.claims_mine v there).1 ((same v there).1 mine)));
    };
    first = λ others plan. first.first others (winning_back others plan);
  }

-- A plan with the same claims and, at its own positions, the same choices as a first plan is a first plan.
module _ (g : Game) (player : Player) (s t : Plan) (first : FirstPlan g player s) (players : t.player ≡ s.player) (claims : (v : ℕ) → (t.claims v ≡ true) ↔ (s.claims v ≡ true)) (choices : (v : ℕ) → Own g s v → t.choice v ≡ s.choice v) where
  own_too : (v : ℕ) → Own g t v → Own g s v
  own_too v (claimed, mine) = ((claims v).0 claimed, mine ∙ players)

  same_below_too : (o : Plan) (v : ℕ) → SameBelow g s o v → SameBelow g t o v
  same_below_too o v same u below own = same u below (own_too u own) ∙ sym (choices u (own_too u own))

  pub first_alike : FirstPlan g player t
  first_alike = record {
    wins_region = record {
      wins = alike_wins g t s players (λ v. (claims v).0) (λ v. (claims v).1) (λ u _ own. sym (choices u (own_too u own))) first.wins_region.wins;
      is_players = players ∙ first.wins_region.is_players;
      claims_region = λ v. (
        (λ claimed. (first.wins_region.claims_region v).0 ((claims v).0 claimed)),
        (λ won. (claims v).1 ((first.wins_region.claims_region v).1 won)),
      );
    };
    before_others = λ o region. elim (first.before_others o region) [
      | inl same ↦ inl (same_below_too o g.size same)
      | inr earlier ↦ inr (record {
        place = earlier.place;
        own = ((claims earlier.place).1 earlier.own.0, earlier.own.1 ∙ sym players);
        same_below = same_below_too o earlier.place earlier.same_below;
        smaller = rw (choices earlier.place earlier.own) earlier.smaller;
      })
    ];
  }

-- The bytes of a plan.
byte_at : Game → Plan → ℕ → ℕ
byte_at g s v = cond (s.claims v) (cond (same (g.mover v) s.player) (s.choice v) 254) 255

bytes_of : Game → Plan → List ℕ
bytes_of g s = parity s.player ∷ g.size ∷ map (byte_at g s) (range_with_len 0 g.size)

module _ (g : Game) (s : Plan) (lawful : Lawful g) (wins : Wins g s) where
  whole : length (bytes_of g s) ≡ g.size + 2
  unfolding bytes_of
  whole = let long = length-map-range_with_len (byte_at g s) 0 g.size in omega arith

  same_player : player_of (bytes_of g s) ≡ s.player
  unfolding bytes_of
  same_player = by s.player
    where
      by : (p : Player) → cond (eqb (parity p) 0) Even Odd ≡ p
      by Even = refl
      by Odd = refl

  choice_byte_lem : (v : ℕ) → v < g.size → choice_byte (bytes_of g s) v ≡ byte_at g s v
  unfolding bytes_of
  choice_byte_lem v there = ap (λ i. get_or (bytes_of g s) i 0) (add-two v) ∙ get_or-map-range_with_len (byte_at g s) 0 g.size v v 0 there (zero-add v)

  -- what the byte of a position is
  byte_is : (v : ℕ) → ((s.claims v ≡ false) × (byte_at g s v ≡ 255)) ⊎ (((s.claims v ≡ true) × (g.mover v ≡ s.player) × (byte_at g s v ≡ s.choice v)) ⊎ ((s.claims v ≡ true) × (g.mover v ≡ rival s.player) × (byte_at g s v ≡ 254)))
  unfolding byte_at
  byte_is v = elim (cases_Bool (s.claims v)) [
    | inr out ↦ inl (out, cond-false (s.claims v) _ 255 out)
    | inl claimed ↦ elim (cases_player (g.mover v) s.player) [
      | inl mine ↦ inr (inl (claimed, mine, cond-true (s.claims v) _ 255 claimed ∙ cond-true (same (g.mover v) s.player) (s.choice v) 254 (same_from (g.mover v) s.player mine)))
      | inr theirs ↦ inr (inr (claimed, theirs, cond-true (s.claims v) _ 255 claimed ∙ cond-false (same (g.mover v) s.player) (s.choice v) 254 (not_same v theirs)))
    ]
  ]
    where
      not_same : (v : ℕ) → g.mover v ≡ rival s.player → same (g.mover v) s.player ≡ false
      not_same v theirs = elim (cases_Bool (same (g.mover v) s.player)) [
        | inl yes_same ↦ absurd (not_both (g.mover v) s.player (same_true (g.mover v) s.player yes_same) theirs)
        | inr apart ↦ apart
      ]

  choice_own : (v : ℕ) → Own g s v → choice_byte (bytes_of g s) v ≡ s.choice v
  choice_own v (claimed, mine) = choice_byte_lem v (wins.claims_exist v claimed) ∙ elim (byte_is v) [
    | inl (out, _) ↦ absurd (both_ways (s.claims v) out claimed)
    | inr (inl (_, _, is)) ↦ is
    | inr (inr (_, theirs, _)) ↦ absurd (not_both (g.mover v) s.player mine theirs)
  ]

  fits : (v : ℕ) → v < g.size → ChoiceFits g (bytes_of g s) v
  fits v there = record {
    own = λ mine. elim (byte_is v) [
      | inl (_, is) ↦ inl (choice_byte_lem v there ∙ is)
      | inr (inl (claimed, moves, is)) ↦ inr (rw (choice_own v (claimed, moves)) (wins.choice_is_arc v claimed moves))
      | inr (inr (_, theirs, _)) ↦ absurd (not_both (g.mover v) s.player (mine ∙ same_player) theirs)
    ];
    other = λ theirs. elim (byte_is v) [
      | inl (_, is) ↦ inr (choice_byte_lem v there ∙ is)
      | inr (inl (_, moves, _)) ↦ absurd (not_both (g.mover v) s.player moves (theirs ∙ ap rival same_player))
      | inr (inr (_, _, is)) ↦ inl (choice_byte_lem v there ∙ is)
    ];
  }

  first_byte : (p : Player) → parity p ≤ 1
  first_byte Even = omega arith
  first_byte Odd = omega arith

  well_formed : WellFormed g (bytes_of g s)
  unfolding bytes_of
  well_formed = record { headed = record { whole = whole; player = first_byte s.player; positions = refl }; each_choice = fits }

  -- a claimed position's byte is not 255, since no position has so many arcs
  claimed_byte : (v : ℕ) → s.claims v ≡ true → byte_at g s v ≡ 255 → ⊥
  claimed_byte v claimed e = elim (byte_is v) [
    | inl (out, _) ↦ both_ways (s.claims v) out claimed
    | inr (inl (_, mine, is)) ↦ (
        let arc = wins.choice_is_arc v claimed mine in
        let few = lawful.few_arcs v (wins.claims_exist v claimed) in
        omega arith)
    | inr (inr (_, _, is)) ↦ omega arith
  ]

  same_claims : (v : ℕ) → ((plan_of g.size (bytes_of g s)).claims v ≡ true) ↔ (s.claims v ≡ true)
  same_claims v = (
    λ e.
        let parts = and_parts (ltb v g.size) (not (eqb (choice_byte (bytes_of g s) v) 255)) e in
        let there = ltb-true v g.size parts.0 in
        elim (byte_is v) [
          | inl (_, is) ↦ absurd (eqb-false (choice_byte (bytes_of g s) v) 255 (not-true (eqb (choice_byte (bytes_of g s) v) 255) parts.1) (choice_byte_lem v there ∙ is))
          | inr (inl (claimed, _, _)) ↦ claimed
          | inr (inr (claimed, _, _)) ↦ claimed
        ],
    λ claimed.
        let there = wins.claims_exist v claimed in
        and_from (ltb v g.size) (not (eqb (choice_byte (bytes_of g s) v) 255)) (lt-ltb v g.size there)
        (not_from_false (eqb (choice_byte (bytes_of g s) v) 255) (ne_eqb (choice_byte (bytes_of g s) v) 255 (λ e. claimed_byte v claimed (sym (choice_byte_lem v there) ∙ e)))),
  )

-- there are bytes of a first plan
pub first_bytes : (g : Game) (player : Player) → Lawful g → g.size ≤ 16 → (bytes : List ℕ) × WellFormed g bytes × FirstPlan g player (plan_of g.size bytes)
first_bytes g player lawful few =
    let (s, first) = first_exists_lem g player lawful few in
    let wins = first.wins_region.wins in (
      bytes_of g s,
      well_formed g s lawful wins,
      first_alike g player s (plan_of g.size (bytes_of g s)) first (same_player g s lawful wins) (same_claims g s lawful wins) (choice_own g s lawful wins),
    )
