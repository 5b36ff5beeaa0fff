-- A split of a subgame between the players, built from splits of smaller ones.
use Rattle.std.proofs.Common.{◌≡◌, ℕ, suc, ◌%◌, ◌<◌, Bool, true, false, ◌&&◌, ◌||◌, eqb, ◌⊎◌, List, ◌∷◌, sym, ap, ◌∙◌, subst, inl, inr, arith}
use Rattle.std.proofs.lemmas.Bool.{cases_Bool, cases_eq, both_ways, eqb-true, eqb-false, and_parts, and_from, or_cases, or_left, or_right, or_from}
use Rattle.game.specs.declared.Player.{Player}
use Rattle.game.specs.Game.{Game, rival, parity}
use Rattle.game.specs.Plans.{Walk, highest}
use Rattle.determinacy.specs.Statements.{same}
use Rattle.determinacy.proofs.Players.{cases_player, rival_rival, same_true, same_from}
use Rattle.determinacy.proofs.Subgames.{Live, Subgame, to, priority, minus, minus_parts, minus_from, live_wider, live_narrower, merged, merged_inside, merged_outside}
use Rattle.determinacy.proofs.ArcWalks.{By, first_arc_lem, arcs_mapped, arcs_low, arcs_meet, arcs_fall, arcs_sides}
use Rattle.determinacy.proofs.Attractor.{Attractor}

-- a live arc from a position of the player's that follows the player's choice
pub record Goes (g : Game) (set : ℕ → Bool) (bound : ℕ) (owner : ℕ → Player) (choice : ℕ → ℕ) (player : Player) (u k : ℕ) : Type 0 where
  pub live : Live g set bound u k
  pub owned : owner u ≡ player
  pub chosen : g.mover u ≡ player → k ≡ choice u

pub record Split (g : Game) (set : ℕ → Bool) (bound : ℕ) : Type 0 where
  pub owner : ℕ → Player
  pub choice : ℕ → ℕ
  pub choice_live : (v : ℕ) → set v ≡ true → g.mover v ≡ owner v → Live g set bound v (choice v)
  pub stays : (player : Player) (u k : ℕ) → Goes g set bound owner choice player u k → owner (to g u k) ≡ player
  pub closed : (player : Player) (v p : ℕ) (ps : List ℕ) → Walk (By g (Goes g set bound owner choice player)) v v (p ∷ ps) → highest (p ∷ ps) % 2 ≡ parity player

-- the arcs of priority e
abbrev pub tops : Game → ℕ → ℕ → ℕ → Bool
tops g e v k = eqb (priority g v k) e

-- The rest has no position of the rival's: the player of the top priority's parity wins everywhere.
module _ (g : Game) (set : ℕ → Bool) (e : ℕ) (i : Player) (fits : e % 2 ≡ parity i) (near : Attractor g set (suc e) i (tops g e)) (rest : Split g (minus set near.into) e) (wins : (v : ℕ) → minus set near.into v ≡ true → rest.owner v ≡ i) where
  all_choice : ℕ → ℕ
  all_choice = merged near.into near.choice rest.choice

  all_choice_near : (v : ℕ) → near.into v ≡ true → all_choice v ≡ near.choice v
  unfolding all_choice
  all_choice_near v inside = merged_inside near.into near.choice rest.choice v inside

  all_choice_rest : (v : ℕ) → near.into v ≡ false → all_choice v ≡ rest.choice v
  unfolding all_choice
  all_choice_rest v outside = merged_outside near.into near.choice rest.choice v outside

  abbrev AllGoes : Player → ℕ → ℕ → Type 0
  AllGoes player = Goes g set (suc e) (λ v. i) all_choice player

  abbrev LowGoes : ℕ → ℕ → Type 0
  LowGoes u k = AllGoes i u k × (priority g u k < e)

  all_choice_live : (v : ℕ) → set v ≡ true → g.mover v ≡ i → Live g set (suc e) v (all_choice v)
  all_choice_live v inside mine = elim (cases_Bool (near.into v)) [
    | inl close ↦ rw (all_choice_near v close) ((near.pulled v close).own mine).0
    | inr far ↦
        let there = minus_from set near.into v inside far in
        rw (all_choice_rest v far) (live_wider g set near.into (suc e) e v (rest.choice v) (omega arith) (rest.choice_live v there (mine ∙ sym (wins v there))))
  ]

  nears : (u k : ℕ) → LowGoes u k → near.into u ≡ true → (near.into (to g u k) ≡ true) × (near.rank (to g u k) < near.rank u)
  nears u k (go, low) inside = elim pull [
    | inl hit ↦ let top = eqb-true (priority g u k) e hit in absurd (omega arith)
    | inr deeper ↦ deeper
  ]
    where
      pull : (tops g e u k ≡ true) ⊎ ((near.into (to g u k) ≡ true) × (near.rank (to g u k) < near.rank u))
      pull = elim (cases_player (g.mover u) i) [
        | inl mine ↦ rw (go.chosen mine ∙ all_choice_near u inside) ((near.pulled u inside).own mine).1
        | inr theirs ↦ (near.pulled u inside).other theirs k go.live
      ]

  rest_goes : (u k : ℕ) → LowGoes u k × (near.into u ≡ false) × (near.into (to g u k) ≡ false) → Goes g (minus set near.into) e rest.owner rest.choice i u k
  rest_goes u k ((go, low), out, out') = record {
    live = live_narrower g set near.into (suc e) e u k go.live out out' low;
    owned = wins u (minus_from set near.into u go.live.from_inside out);
    chosen = λ mine. go.chosen mine ∙ all_choice_rest u out;
  }

  all_closed : (v p : ℕ) (ps : List ℕ) → Walk (By g (AllGoes i)) v v (p ∷ ps) → highest (p ∷ ps) % 2 ≡ parity i
  all_closed v p ps walk = elim (arcs_meet g {Other = LowGoes} e top_or_low walk) [
    | inl met ↦
        let low = arcs_low g e (λ u k (go : AllGoes i u k). let h = go.live.low in omega arith) walk in
        let same : highest (p ∷ ps) ≡ e = omega arith in
        ap (λ x. x % 2) same ∙ fits
    | inr lows ↦ elim (arcs_sides g near.into (λ u k go inside. (nears u k go inside).0) lows) [
      | inl inside ↦ absurd (arcs_fall g near.rank (λ u k go. (nears u k go.0 go.1).1) inside)
      | inr outside ↦ rest.closed i v p ps (arcs_mapped g rest_goes outside)
    ]
  ]
    where
      top_or_low : (u k : ℕ) → AllGoes i u k → (priority g u k ≡ e) ⊎ LowGoes u k
      top_or_low u k go = elim (cases_eq (priority g u k) e) [ inl top ↦ inl top | inr apart ↦ inr (go, let h = go.live.low in omega arith) ]

  pub split_won : Split g set (suc e)
  split_won = record {
    owner = λ v. i;
    choice = all_choice;
    choice_live = all_choice_live;
    stays = λ player u k go. go.owned;
    closed = λ player v p ps walk.
        subst (λ q. Walk (By g (AllGoes q)) v v (p ∷ ps) → highest (p ∷ ps) % 2 ≡ parity q) (first_arc_lem g walk).1.owned (all_closed v p ps) walk;
  }

-- what a split of the rest gives to a player
pub won : (g : Game) (set : ℕ → Bool) (bound : ℕ) → Split g set bound → Player → ℕ → Bool
won g set bound split player v = set v && same (split.owner v) player

module _ (g : Game) (set : ℕ → Bool) (bound : ℕ) (split : Split g set bound) (player : Player) (v : ℕ) where
  pub won_parts : won g set bound split player v ≡ true → (set v ≡ true) × (split.owner v ≡ player)
  unfolding won
  won_parts e =
      let parts = and_parts (set v) (same (split.owner v) player) e in
      (parts.0, same_true (split.owner v) player parts.1)

  pub won_from : set v ≡ true → split.owner v ≡ player → won g set bound split player v ≡ true
  unfolding won
  won_from a b = and_from (set v) (same (split.owner v) player) a (same_from (split.owner v) player b)

abbrev pub union : (ℕ → Bool) → (ℕ → Bool) → ℕ → Bool
union one two v = one v || two v

-- The rival wins some of the rest (home): the rival wins its attractor (gone) too, and what remains is split again.
module _ (g : Game) (set : ℕ → Bool) (e : ℕ) (i : Player) (near : Attractor g set (suc e) i (tops g e)) (rest : Split g (minus set near.into) e) where
  unfoldable pub home : ℕ → Bool
  home = won g (minus set near.into) e rest (rival i)

  abbrev pub Homeward : Type 0
  Homeward = Attractor g set (suc e) (rival i) (λ v k. home (to g v k))

  -- an arc by which the rival plays at home, or any of the player's there, is one of the rest's
  home_goes : (u k : ℕ) → Live g set (suc e) u k → home u ≡ true → (g.mover u ≡ rival i → k ≡ rest.choice u) → Goes g (minus set near.into) e rest.owner rest.choice (rival i) u k
  unfolding home
  home_goes u k live here follows = record {
    live = elim (cases_player (g.mover u) i) [
      | inl mine ↦
          let far = (near.rests u live.from_inside outside).own mine k live in
          let apart = eqb-false (priority g u k) e far.0 in
          let low = live.low in
          live_narrower g set near.into (suc e) e u k live outside far.1 (omega arith)
      | inr theirs ↦ rw (follows theirs) (rest.choice_live u parts.0 (theirs ∙ sym parts.1))
    ];
    owned = parts.1;
    chosen = follows;
  }
    where
      parts : (minus set near.into u ≡ true) × (rest.owner u ≡ rival i)
      parts = won_parts g (minus set near.into) e rest (rival i) u here

      outside : near.into u ≡ false
      outside = (minus_parts set near.into u parts.0).1

  home_kept : (u k : ℕ) → Live g set (suc e) u k → home u ≡ true → (g.mover u ≡ rival i → k ≡ rest.choice u) → home (to g u k) ≡ true
  unfolding home
  home_kept u k live here follows =
      let go = home_goes u k live here follows in
      won_from g (minus set near.into) e rest (rival i) (to g u k) go.live.to_inside (rest.stays (rival i) u k go)

  module _ (back : Homeward) where
    pub gone : ℕ → Bool
    gone = union home back.into

    gone_parts : (v : ℕ) → gone v ≡ false → (home v ≡ false) × (back.into v ≡ false)
    unfolding gone
    gone_parts v out = grind arith

    pub gone_from_home : (v : ℕ) → home v ≡ true → gone v ≡ true
    unfolding gone
    gone_from_home v here = grind arith

    pub gone_inside : (v : ℕ) → gone v ≡ true → set v ≡ true
    unfolding gone home
    gone_inside v out = elim (or_cases (home v) (back.into v) out) [
      | inl here ↦ (minus_parts set near.into v (won_parts g (minus set near.into) e rest (rival i) v here).0).0
      | inr coming ↦ back.inside v coming
    ]

    -- at home, on the way home, or neither
    cases_gone : (v : ℕ) → gone v ≡ true → (home v ≡ true) ⊎ ((home v ≡ false) × (back.into v ≡ true))
    unfolding gone
    cases_gone v out = grind arith

    -- one step from the way home
    comes : (u k : ℕ) → Live g set (suc e) u k → back.into u ≡ true → (g.mover u ≡ rival i → k ≡ back.choice u) → (home (to g u k) ≡ true) ⊎ ((back.into (to g u k) ≡ true) × (back.rank (to g u k) < back.rank u))
    comes u k live coming follows = elim (cases_player (g.mover u) (rival i)) [
      | inl theirs ↦ rw (follows theirs) ((back.pulled u coming).own theirs).1
      | inr mine ↦ (back.pulled u coming).other mine k live
    ]

    -- what remains is a subgame again
    pub remains : Subgame g set (suc e) → Subgame g (minus set gone) (suc e)
    unfolding gone
    remains sub = record {
      exists = λ v inside. sub.exists v (minus_parts set gone v inside).0;
      goes_on = λ v inside.
          let parts = minus_parts set gone v inside in
          let out = gone_parts v parts.1 in
          let rests = back.rests v parts.0 out.1 in
          elim (cases_player (g.mover v) (rival i)) [
            | inl theirs ↦
                let some = sub.goes_on v parts.0 in
                let far = rests.own theirs some.0 some.1 in
                (some.0, kept v some.0 some.1 parts.1 far)
            | inr mine ↦ let some = rests.other mine in (some.0, kept v some.0 some.1 parts.1 some.2)
          ];
    }
      where
        kept : (v k : ℕ) → Live g set (suc e) v k → gone v ≡ false → (home (to g v k) ≡ false) × (back.into (to g v k) ≡ false) → Live g (minus set gone) (suc e) v k
        kept v k live out far = live_narrower g set gone (suc e) (suc e) v k live out (or_from (home (to g v k)) (back.into (to g v k)) far.0 far.1) live.low

    module _ (last : Split g (minus set gone) (suc e)) where
      two_owner : ℕ → Player
      two_owner = merged gone (λ v. rival i) last.owner

      two_choice : ℕ → ℕ
      two_choice = merged home rest.choice (merged back.into back.choice last.choice)

      owner_gone : (v : ℕ) → gone v ≡ true → two_owner v ≡ rival i
      unfolding two_owner
      owner_gone v out = merged_inside gone (λ v. rival i) last.owner v out

      owner_left : (v : ℕ) → gone v ≡ false → two_owner v ≡ last.owner v
      unfolding two_owner
      owner_left v out = merged_outside gone (λ v. rival i) last.owner v out

      choice_home : (v : ℕ) → home v ≡ true → two_choice v ≡ rest.choice v
      unfolding two_choice
      choice_home v here = merged_inside home rest.choice (merged back.into back.choice last.choice) v here

      choice_back : (v : ℕ) → home v ≡ false → back.into v ≡ true → two_choice v ≡ back.choice v
      unfolding two_choice
      choice_back v away coming =
          merged_outside home rest.choice (merged back.into back.choice last.choice) v away
          ∙ merged_inside back.into back.choice last.choice v coming

      choice_left : (v : ℕ) → gone v ≡ false → two_choice v ≡ last.choice v
      unfolding two_choice
      choice_left v out =
          let parts = gone_parts v out in
          merged_outside home rest.choice (merged back.into back.choice last.choice) v parts.0
          ∙ merged_outside back.into back.choice last.choice v parts.1

      abbrev TwoGoes : Player → ℕ → ℕ → Type 0
      TwoGoes player = Goes g set (suc e) two_owner two_choice player

      two_choice_live : (v : ℕ) → set v ≡ true → g.mover v ≡ two_owner v → Live g set (suc e) v (two_choice v)
      unfolding home
      two_choice_live v inside own = elim (cases_Bool (gone v)) [
        | inr out ↦ rw (choice_left v out) (live_wider g set gone (suc e) (suc e) v (last.choice v) (omega arith) (last.choice_live v (minus_from set gone v inside out) (own ∙ owner_left v out)))
        | inl taken ↦
            let theirs = own ∙ owner_gone v taken in
            elim (cases_gone v taken) [
              | inl here ↦
                  let parts = won_parts g (minus set near.into) e rest (rival i) v here in
                  rw (choice_home v here) (live_wider g set near.into (suc e) e v (rest.choice v) (omega arith) (rest.choice_live v parts.0 (theirs ∙ sym parts.1)))
              | inr way ↦ rw (choice_back v way.0 way.1) ((back.pulled v way.1).own theirs).0
            ]
      ]

      -- the rival's arcs from what is gone: they stay at home, or come nearer
      abbrev TheirGoes : ℕ → ℕ → Type 0
      TheirGoes u k = Live g set (suc e) u k × (gone u ≡ true) × (g.mover u ≡ rival i → k ≡ two_choice u)

      stays_home : (u k : ℕ) → TheirGoes u k → home u ≡ true → home (to g u k) ≡ true
      stays_home u k (live, taken, follows) here = home_kept u k live here (λ theirs. follows theirs ∙ choice_home u here)

      nears_home : (u k : ℕ) → TheirGoes u k → home u ≡ false → (home (to g u k) ≡ true) ⊎ ((back.into (to g u k) ≡ true) × (back.rank (to g u k) < back.rank u))
      nears_home u k (live, taken, follows) away = elim (cases_gone u taken) [
        | inl here ↦ absurd (both_ways (home u) away here)
        | inr way ↦ comes u k live way.1 (λ theirs. follows theirs ∙ choice_back u way.0 way.1)
      ]

      gone_kept : (u k : ℕ) → TheirGoes u k → gone (to g u k) ≡ true
      unfolding gone
      gone_kept u k go = elim (cases_Bool (home u)) [
        | inl here ↦ or_left (home (to g u k)) (back.into (to g u k)) (stays_home u k go here)
        | inr away ↦ elim (nears_home u k go away) [
          | inl here ↦ or_left (home (to g u k)) (back.into (to g u k)) here
          | inr coming ↦ or_right (home (to g u k)) (back.into (to g u k)) coming.0
        ]
      ]

      their_goes : (player : Player) (u k : ℕ) → TwoGoes player u k → gone u ≡ true → TheirGoes u k
      their_goes player u k go taken = (go.live, taken, λ theirs. go.chosen (theirs ∙ sym (owner_gone u taken) ∙ go.owned))

      left_goes : (player : Player) (u k : ℕ) → TwoGoes player u k → gone u ≡ false → gone (to g u k) ≡ false → Goes g (minus set gone) (suc e) last.owner last.choice player u k
      left_goes player u k go out out' = record {
        live = live_narrower g set gone (suc e) (suc e) u k go.live out out' go.live.low;
        owned = sym (owner_left u out) ∙ go.owned;
        chosen = λ mine. go.chosen mine ∙ choice_left u out;
      }

      -- only the rival's arcs lead from what is left to what is gone
      crosses : (player : Player) (u k : ℕ) → TwoGoes player u k → gone u ≡ false → gone (to g u k) ≡ true → player ≡ rival i
      unfolding gone
      crosses player u k go out taken = elim (cases_player player i) [
        | inr theirs ↦ theirs
        | inl mine ↦ elim (cases_player (g.mover u) (rival i)) [
          | inl m ↦ let far = (back.rests u go.live.from_inside (gone_parts u out).1).own m k go.live in
              absurd (both_ways (gone (to g u k)) (or_from (home (to g u k)) (back.into (to g u k)) far.0 far.1) taken)
          | inr m ↦ absurd (stayed mine (m ∙ rival_rival i))
        ]
      ]
        where
          stayed : player ≡ i → g.mover u ≡ i → ⊥
          stayed mine m =
              let chosen = go.chosen (m ∙ sym mine) ∙ choice_left u out in
              let owns = m ∙ sym mine ∙ sym go.owned ∙ owner_left u out in
              let l = last.choice_live u (minus_from set gone u go.live.from_inside out) owns in
              both_ways (gone (to g u k)) (rw chosen (minus_parts set gone (to g u (last.choice u)) l.to_inside).1) taken

      two_stays : (player : Player) (u k : ℕ) → TwoGoes player u k → two_owner (to g u k) ≡ player
      two_stays player u k go = elim (cases_Bool (gone u)) [
        | inl taken ↦ owner_gone (to g u k) (gone_kept u k (their_goes player u k go taken)) ∙ sym (owner_gone u taken) ∙ go.owned
        | inr out ↦ elim (cases_Bool (gone (to g u k))) [
          | inl taken ↦ owner_gone (to g u k) taken ∙ sym (crosses player u k go out taken)
          | inr out' ↦ owner_left (to g u k) out' ∙ last.stays player u k (left_goes player u k go out out')
        ]
      ]

      their_closed : (v p : ℕ) (ps : List ℕ) → Walk (By g TheirGoes) v v (p ∷ ps) → highest (p ∷ ps) % 2 ≡ parity (rival i)
      their_closed v p ps walk = elim (arcs_sides g home stays_home walk) [
        | inl inside ↦ rest.closed (rival i) v p ps (arcs_mapped g at_home inside)
        | inr outside ↦ absurd (arcs_fall g back.rank nearing outside)
      ]
        where
          at_home : (u k : ℕ) → TheirGoes u k × (home u ≡ true) × (home (to g u k) ≡ true) → Goes g (minus set near.into) e rest.owner rest.choice (rival i) u k
          at_home u k (go, here, there) = home_goes u k go.0 here (λ theirs. go.2 theirs ∙ choice_home u here)

          nearing : (u k : ℕ) → TheirGoes u k × (home u ≡ false) × (home (to g u k) ≡ false) → back.rank (to g u k) < back.rank u
          nearing u k (go, away, away') = elim (nears_home u k go away) [
            | inl here ↦ absurd (both_ways (home (to g u k)) away' here)
            | inr coming ↦ coming.1
          ]

      two_closed : (player : Player) (v p : ℕ) (ps : List ℕ) → Walk (By g (TwoGoes player)) v v (p ∷ ps) → highest (p ∷ ps) % 2 ≡ parity player
      two_closed player v p ps walk = elim (arcs_sides g gone (λ u k go taken. gone_kept u k (their_goes player u k go taken)) walk) [
        | inl inside ↦
            let first = (first_arc_lem g inside).1 in
            let theirs = sym (owner_gone v first.1) ∙ first.0.owned in
            their_closed v p ps (arcs_mapped g (λ u k go. their_goes player u k go.0 go.1) inside) ∙ ap parity theirs
        | inr outside ↦ last.closed player v p ps (arcs_mapped g (λ u k go. left_goes player u k go.0 go.1 go.2) outside)
      ]

      pub split_shared : Split g set (suc e)
      split_shared = record { owner = two_owner; choice = two_choice; choice_live = two_choice_live; stays = two_stays; closed = two_closed }
