-- Choosing in turn: the plan found by holding one arc after another is the first, and in a game of at most 16 positions there is a first plan.
use Rattle.std.proofs.Common.{◌≡◌, ℕ, zero, suc, ◌<◌, ◌≤◌, Bool, true, cond, ◌&&◌, ltb, ◌⊎◌, ◌↔◌, List, map, length, get_or, Some, None, Option, sym, refl, ap, ◌∙◌, subst, inl, inr, zero-add, arith}
use Rattle.std.specs.List.{range_with_len}
use Rattle.std.proofs.lemmas.List.FromFn.{get_or-map-range_with_len}
use Rattle.std.proofs.lemmas.Bool.{cases_Bool, cases_eq, cases_lt, both_ways, and_parts, and_from, cond-true, cond-false, ltb-true, lt-ltb, le-ltb}
use Rattle.std.proofs.lemmas.Option.{none-some, same_Some}
use Rattle.game.specs.declared.Player.{Player}
use Rattle.game.specs.declared.Arc.{Arc}
use Rattle.game.specs.Game.{Game, Lawful, rival}
use Rattle.game.specs.Layers.{entry_at, held}
use Rattle.game.specs.Plans.{Plan, Winnable}
use Rattle.game.proofs.Layers.{held_lawful}
use Rattle.toolkit.specs.Finite.{put}
use Rattle.toolkit.proofs.Search.{seek, seek_least}
use Rattle.toolkit.proofs.Update.{put_same, put_other}
use Rattle.determinacy.specs.Statements.{WinsRegion, same}
use Rattle.determinacy.specs.Layers.{plan, held_number, OwnEntries, Agrees}
use Rattle.determinacy.proofs.Players.{same_true, same_from}
use Rattle.determinacy.proofs.Regions.{region_won_lem, winnable_or_rivals}
use Rattle.determinacy.proofs.Disjoint.{disjoint}
use Rattle.register_theory.specs.First.{Own, SameBelow, FirstPlan, HoldsTo, FoundByHolding}
use Rattle.register_theory.proofs.First.{ChosenInTurn, winnable_held, plan_agrees, keeps_all_exact, turn_first}

held_number_lem : (o : Option ℕ) (xs : List Arc) (k : ℕ) → o ≡ Some k → k < length xs → held_number o xs ≡ Some k
held_number_lem o xs k e h = ap (λ x. held_number x xs) e ∙ cond-true (ltb k (length xs)) (Some k) None (lt-ltb k (length xs) h)

pub held_entry : (o : Option ℕ) (xs : List Arc) (k : ℕ) → held_number o xs ≡ Some k → o ≡ Some k
held_entry None xs k e = absurd (none-some k e)
held_entry (Some i) xs k e = elim (cases_lt i (length xs)) [
  | inl h ↦ sym (cond-true (ltb i (length xs)) (Some i) None (lt-ltb i (length xs) h)) ∙ e
  | inr h ↦ absurd (none-some k (sym (cond-false (ltb i (length xs)) (Some i) None (le-ltb i (length xs) h)) ∙ e))
]

-- Entries that hold the choices of s below v, and i at v.
module _ (g : Game) (player : Player) (s : Plan) (is_players : s.player ≡ player) (claims_region : (v : ℕ) → (s.claims v ≡ true) ↔ Winnable g player v) (entries : List (Option ℕ)) (v i : ℕ) (holds : HoldsTo g s entries v i) where
  own_entries : OwnEntries entries g player
  own_entries u k h e = (holds.no_others u k e).1.1 ∙ is_players

  -- a plan with those choices agrees with the entries
  agrees_from : (t : Plan) → SameBelow g s t v → t.choice v ≡ i → Agrees entries g t
  agrees_from t same at u k claimed mine e =
      let entry = held_entry (entry_at entries u) (g.arcs u) k e in
      let (low, own) = holds.no_others u k entry in
      elim (cases_eq u v) [
        | inl here ↦ ap t.choice here ∙ at ∙ same_Some i k (sym holds.here ∙ sym (ap (λ x. entry_at entries x) here) ∙ entry)
        | inr apart ↦ same u (omega arith) own ∙ same_Some (s.choice u) k (sym (holds.before u (omega arith) own) ∙ entry)
      ]

  -- and one that wins the region and agrees with them has those choices
  agrees_says : ((u : ℕ) → u < v → Own g s u → s.choice u < length (g.arcs u)) → Own g s v → i < length (g.arcs v) → (t : Plan) → WinsRegion g player t → Agrees entries g t → SameBelow g s t v × (t.choice v ≡ i)
  agrees_says arcs own is_arc t region agrees = (
    λ u h mine. agrees u (s.choice u) (claimed u mine) (mover u mine) (held_number_lem (entry_at entries u) (g.arcs u) (s.choice u) (holds.before u h mine) (arcs u h mine)),
    agrees v i (claimed v own) (mover v own) (held_number_lem (entry_at entries v) (g.arcs v) i holds.here is_arc),
  )
    where
      claimed : (u : ℕ) → Own g s u → t.claims u ≡ true
      claimed u mine = (region.claims_region u).1 ((claims_region u).0 mine.0)

      mover : (u : ℕ) → Own g s u → g.mover u ≡ t.player
      mover u mine = mine.1 ∙ is_players ∙ sym region.is_players

same_more : (g : Game) (s t : Plan) (v : ℕ) → SameBelow g s t v → t.choice v ≡ s.choice v → SameBelow g s t (suc v)
same_more g s t v same at u h own = elim (cases_eq u v) [ inl e ↦ rw e at | inr apart ↦ same u (omega arith) own ]

-- what is found by holding is chosen in turn
module _ (r : ℕ) (g : Game) (player : Player) (lawful : Lawful g) (s : Plan) (found : FoundByHolding r g player s) where
  found_in_turn : ChosenInTurn g player s
  found_in_turn = record {
    is_players = found.is_players;
    claims_region = found.claims_region;
    possible = λ v own.
        let pass = found.passes v own in
        let mine = own_entries g player s found.is_players found.claims_region pass.entries v (s.choice v) pass.holds in
        let (t, region, agrees) = (keeps_all_exact pass.entries g player lawful mine r pass.solvable).0 pass.keeps in
        let says = agrees_says g player s found.is_players found.claims_region pass.entries v (s.choice v) pass.holds (λ u h own. found.choice_is_arc u own) own (found.choice_is_arc v own) t region agrees in
        (t, region, same_more g s t v says.0 says.1);
    smallest = λ v own t region same. elim (cases_lt (t.choice v) (s.choice v)) [
      | inr fine ↦ fine
      | inl less ↦
          let fail = found.fails_before v (t.choice v) own less in
          let mine = own_entries g player s found.is_players found.claims_region fail.entries v (t.choice v) fail.holds in
          let agrees = agrees_from g player s found.is_players found.claims_region fail.entries v (t.choice v) fail.holds t same refl in
          absurd (fail.loses ((keeps_all_exact fail.entries g player lawful mine r fail.solvable).1 (t, region, agrees)))
    ];
  }

  pub found_first : FirstPlan g player s
  found_first = turn_first g player lawful s found_in_turn

-- There is a first plan: the choices are found one after the other.
module _ (g : Game) (player : Player) (lawful : Lawful g) (few : g.size ≤ 16) where
  region_claims : ℕ → Bool
  region_claims = (region_won_lem g player lawful).0.claims

  region_is : (v : ℕ) → (region_claims v ≡ true) ↔ Winnable g player v
  unfolding region_claims
  region_is = (region_won_lem g player lawful).1.claims_region

  abbrev with_choices : (ℕ → ℕ) → Plan
  with_choices c = plan player region_claims c

  abbrev Mine : ℕ → Type 0
  Mine v = (region_claims v ≡ true) × (g.mover v ≡ player)

  mine_inside : (v : ℕ) → Mine v → v < g.size
  mine_inside v mine = let won = (region_is v).0 mine.0 in won.1.claims_exist v won.3

  is_mine : ℕ → Bool
  is_mine v = region_claims v && same (g.mover v) player

  mine_says : (v : ℕ) → is_mine v ≡ true → Mine v
  unfolding is_mine
  mine_says v e = let parts = and_parts (region_claims v) (same (g.mover v) player) e in (parts.0, same_true (g.mover v) player parts.1)

  mine_from : (v : ℕ) → Mine v → is_mine v ≡ true
  unfolding is_mine
  mine_from v mine = and_from (region_claims v) (same (g.mover v) player) mine.0 (same_from (g.mover v) player mine.1)

  -- entries that hold the choices below v, and i at v
  entry_to : (ℕ → ℕ) → ℕ → ℕ → ℕ → Option ℕ
  entry_to c v i u = cond (is_mine u && ltb u (suc v)) (Some (put c v i u)) None

  entries_to : (ℕ → ℕ) → ℕ → ℕ → List (Option ℕ)
  entries_to c v i = map (entry_to c v i) (range_with_len 0 16)

  entry_there : (c : ℕ → ℕ) (v i u : ℕ) → u ≤ v → Mine u → entry_at (entries_to c v i) u ≡ Some (put c v i u)
  unfolding entries_to entry_to
  entry_there c v i u h mine =
      let l = mine_inside u mine in
      cond-true (ltb u 16) (get_or (entries_to c v i) u None) None (lt-ltb u 16 (omega arith)) ∙
      get_or-map-range_with_len (entry_to c v i) 0 16 u u None (omega arith) (zero-add u) ∙
      cond-true (is_mine u && ltb u (suc v)) (Some (put c v i u)) None (and_from (is_mine u) (ltb u (suc v)) (mine_from u mine) (lt-ltb u (suc v) (omega arith)))

  entry_says : (c : ℕ → ℕ) (v i u k : ℕ) → entry_at (entries_to c v i) u ≡ Some k → (u ≤ v) × Mine u
  unfolding entries_to entry_to
  entry_says c v i u k e = elim (cases_lt u 16) [
    | inr past ↦ absurd (none-some k (sym (cond-false (ltb u 16) (get_or (entries_to c v i) u None) None (le-ltb u 16 past)) ∙ e))
    | inl low ↦
        let value =
        cond-true (ltb u 16) (get_or (entries_to c v i) u None) None (lt-ltb u 16 low) ∙
        get_or-map-range_with_len (entry_to c v i) 0 16 u u None low (zero-add u) in
        elim (cases_Bool (is_mine u && ltb u (suc v))) [
          | inr out ↦ absurd (none-some k (sym (value ∙ cond-false (is_mine u && ltb u (suc v)) (Some (put c v i u)) None out) ∙ e))
          | inl there ↦
              let parts = and_parts (is_mine u) (ltb u (suc v)) there in
              let l = ltb-true u (suc v) parts.1 in
              (omega arith, mine_says u parts.0)
        ]
  ]

  holds_to : (c : ℕ → ℕ) (v i : ℕ) → Mine v → HoldsTo g (with_choices c) (entries_to c v i) v i
  holds_to c v i mine = record {
    before = λ u h own. entry_there c v i u (omega arith) own ∙ ap Some (put_other c v i u (λ e. omega arith));
    here = entry_there c v i v (omega arith) mine ∙ ap Some (put_same c v i);
    no_others = entry_says c v i;
  }

  -- a plan that wins the region, with the choices below v and i at v
  abbrev Continues : (ℕ → ℕ) → ℕ → ℕ → Type 0
  Continues c v i = (t : Plan) × WinsRegion g player t × SameBelow g (with_choices c) t v × (t.choice v ≡ i)

  -- there is one or there is none
  continues_or_not : (c : ℕ → ℕ) (v : ℕ) → Mine v → ((u : ℕ) → u < v → Mine u → c u < length (g.arcs u)) → (i : ℕ) → i < length (g.arcs v) → Continues c v i ⊎ (Continues c v i → ⊥)
  continues_or_not c v mine arcs i is_arc =
      elim (seek {P = λ u. Winnable g player u × Winnable (held entries g) (rival player) u} {Q = λ u. Winnable g player u → Winnable (held entries g) player u} g.size look) [
        | inl found ↦ inr (λ (t, region, same, at).
            disjoint (held entries g) player found.0
            (winnable_held entries g player lawful owned (t, region, agrees_from g player (with_choices c) refl region_is entries v i holds t same at) found.0 found.2.0)
            found.2.1)
        | inr all ↦
            let (t, region, agrees) = plan_agrees entries g player lawful owned (λ u won. all u (won.1.claims_exist u won.3) won) in
            let says = agrees_says g player (with_choices c) refl region_is entries v i holds arcs mine is_arc t region agrees in
            inl (t, region, says.0, says.1)
      ]
    where
      entries : List (Option ℕ)
      entries = entries_to c v i

      holds : HoldsTo g (with_choices c) entries v i
      holds = holds_to c v i mine

      owned : OwnEntries entries g player
      owned = own_entries g player (with_choices c) refl region_is entries v i holds

      look : (u : ℕ) → u < g.size → (Winnable g player u × Winnable (held entries g) (rival player) u) ⊎ (Winnable g player u → Winnable (held entries g) player u)
      look u h = elim (cases_Bool (region_claims u)) [
        | inr out ↦ inr (λ won. absurd (both_ways (region_claims u) out ((region_is u).1 won)))
        | inl claimed ↦ elim (winnable_or_rivals (held entries g) (held_lawful entries g lawful) player u h) [
          | inl still ↦ inr (λ won. still)
          | inr lost ↦ inl ((region_is u).0 claimed, lost)
        ]
      ]

  -- the choices below m: some plan that wins the region has them, and each is the smallest after those before it
  record Built (m : ℕ) : Type 0 where
    c : ℕ → ℕ
    t : Plan
    region : WinsRegion g player t
    agrees : SameBelow g (with_choices c) t m
    smallest : (v : ℕ) → v < m → Mine v → (o : Plan) → WinsRegion g player o → SameBelow g (with_choices c) o v → c v ≤ o.choice v

  one_more : (m : ℕ) (b : Built m) → Mine m → (i : ℕ) → Continues b.c m i → ((j : ℕ) → j < i → Continues b.c m j → ⊥) → Built (suc m)
  one_more m b mine i (t, region, same_t, at) none = record {
    c = put b.c m i;
    t = t;
    region = region;
    agrees = λ u h own. elim (cases_eq u m) [
      | inl e ↦ rw e (at ∙ sym (put_same b.c m i))
      | inr apart ↦ same_t u (omega arith) own ∙ sym (put_other b.c m i u apart)
    ];
    smallest = λ v h own o wins same_o.
        let old : (u : ℕ) → u < v → Mine u → o.choice u ≡ b.c u = λ u l p. same_o u l p ∙ put_other b.c m i u (λ e. omega arith) in
        elim (cases_eq v m) [
          | inr apart ↦ rw (put_other b.c m i v apart) (b.smallest v (omega arith) own o wins old)
          | inl e ↦ rw (e, put_same b.c m i) (elim (cases_lt (o.choice m) i) [
            | inr fine ↦ fine
            | inl less ↦ absurd (none (o.choice m) less (o, wins, (λ u l p. old u (omega arith) p), refl))
          ])
        ];
  }

  build : (m : ℕ) → m ≤ g.size → Built m
  build zero h = record {
    c = λ v. 0;
    t = (region_won_lem g player lawful).0;
    region = (region_won_lem g player lawful).1;
    agrees = λ u l own. absurd (omega arith);
    smallest = λ v l own o wins same_o. absurd (omega arith);
  }
  build (suc m) h = next (build m (omega arith))
    where
      unchanged : (b : Built m) → (Mine m → ⊥) → Built (suc m)
      unchanged b none = record {
        c = b.c;
        t = b.t;
        region = b.region;
        agrees = λ u l own. b.agrees u (elim (cases_eq u m) [ inl e ↦ absurd (none (subst Mine e own)) | inr apart ↦ omega arith ]) own;
        smallest = λ v l own. b.smallest v (elim (cases_eq v m) [ inl e ↦ absurd (none (subst Mine e own)) | inr apart ↦ omega arith ]) own;
      }

      arc_chosen : (b : Built m) (u : ℕ) → Mine u → b.t.choice u < length (g.arcs u)
      arc_chosen b u own = b.region.wins.choice_is_arc u ((b.region.claims_region u).1 ((region_is u).0 own.0)) (own.1 ∙ sym b.region.is_players)

      chosen : (b : Built m) → Mine m → Built (suc m)
      chosen b mine =
          let last = arc_chosen b m mine in
          elim (seek_least {P = Continues b.c m} {Q = λ i. Continues b.c m i → ⊥} (suc (b.t.choice m)) (λ i l.
          continues_or_not b.c m mine (λ u k own. rw (← b.agrees u k own) (arc_chosen b u own)) i (omega arith))) [
            | inl found ↦ one_more m b mine found.0 found.2 found.3
            | inr none ↦ absurd (none (b.t.choice m) (omega arith) (b.t, b.region, b.agrees, refl))
          ]

      next : Built m → Built (suc m)
      next b = elim (cases_Bool (is_mine m)) [
        | inl e ↦ chosen b (mine_says m e)
        | inr e ↦ unchanged b (λ mine. both_ways (is_mine m) e (mine_from m mine))
      ]

  pub first_exists_lem : (s : Plan) × FirstPlan g player s
  first_exists_lem =
      let b = build g.size (omega arith) in (
        with_choices b.c,
        turn_first g player lawful (with_choices b.c) (record {
          is_players = refl;
          claims_region = region_is;
          possible = λ v own. (b.t, b.region, λ u h mine. b.agrees u (mine_inside u mine) mine);
          smallest = λ v own. b.smallest v (mine_inside v own) own;
        }),
      )
