-- The attractor of a player towards some arcs of a subgame: where the player can force a move by one of them.
use Rattle.std.proofs.Common.{◌≡◌, ℕ, zero, suc, ◌<◌, ◌≤◌, Bool, true, false, not, ◌⊎◌, sym, refl, ◌∙◌, inl, inr, arith}
use Rattle.std.proofs.lemmas.Bool.{cases_Bool, both_ways, not-true, not_from_false, not_from_true}
use Rattle.toolkit.specs.Finite.{count, put}
use Rattle.toolkit.proofs.Counting.{count_none, count_strict}
use Rattle.toolkit.proofs.Search.{seek}
use Rattle.toolkit.proofs.Update.{put_same, put_other, put_is}
use Rattle.game.specs.declared.Player.{Player}
use Rattle.game.specs.Game.{Game, rival}
use Rattle.determinacy.proofs.Players.{cases_player, not_both}
use Rattle.determinacy.proofs.Subgames.{Live, seek_live, to}

-- the arc is one of those sought, or leads into the set, below a rank
abbrev pub Nearer : Game → (ℕ → ℕ → Bool) → (ℕ → Bool) → (ℕ → ℕ) → ℕ → ℕ → ℕ → Type 0
Nearer g hit into rank below v k = (hit v k ≡ true) ⊎ ((into (to g v k) ≡ true) × (rank (to g v k) < below))

abbrev pub Near : Game → (ℕ → ℕ → Bool) → (ℕ → Bool) → ℕ → ℕ → Type 0
Near g hit into v k = (hit v k ≡ true) ⊎ (into (to g v k) ≡ true)

abbrev pub Far : Game → (ℕ → ℕ → Bool) → (ℕ → Bool) → ℕ → ℕ → Type 0
Far g hit into v k = (hit v k ≡ false) × (into (to g v k) ≡ false)

near_or_far : (g : Game) (hit : ℕ → ℕ → Bool) (into : ℕ → Bool) (v k : ℕ) → Near g hit into v k ⊎ Far g hit into v k
near_or_far g hit into v k = grind arith

module _ (g : Game) (set : ℕ → Bool) (bound : ℕ) (player : Player) (hit : ℕ → ℕ → Bool) where
  -- at v the player can, or the rival must, come nearer
  pub record Pulled (into : ℕ → Bool) (rank choice : ℕ → ℕ) (v : ℕ) : Type 0 where
    pub own : g.mover v ≡ player → Live g set bound v (choice v) × Nearer g hit into rank (rank v) v (choice v)
    pub other : g.mover v ≡ rival player → (k : ℕ) → Live g set bound v k → Nearer g hit into rank (rank v) v k

  -- at v the player cannot, and the rival need not, come near
  pub record Rests (into : ℕ → Bool) (v : ℕ) : Type 0 where
    pub own : g.mover v ≡ player → (k : ℕ) → Live g set bound v k → Far g hit into v k
    pub other : g.mover v ≡ rival player → (k : ℕ) × Live g set bound v k × Far g hit into v k

  -- what has been attracted so far
  record Grown : Type 0 where
    into : ℕ → Bool
    rank : ℕ → ℕ
    choice : ℕ → ℕ
    stage : ℕ
    inside : (v : ℕ) → into v ≡ true → set v ≡ true
    early : (v : ℕ) → into v ≡ true → rank v < stage
    pulled : (v : ℕ) → into v ≡ true → Pulled into rank choice v

  pub record Attractor : Type 0 where
    pub into : ℕ → Bool
    pub rank : ℕ → ℕ
    pub choice : ℕ → ℕ
    pub inside : (v : ℕ) → into v ≡ true → set v ≡ true
    pub pulled : (v : ℕ) → into v ≡ true → Pulled into rank choice v
    pub rests : (v : ℕ) → set v ≡ true → into v ≡ false → Rests into v

  -- why v is to be attracted next
  record Next (into : ℕ → Bool) (v : ℕ) : Type 0 where
    inside : set v ≡ true
    new : into v ≡ false
    number : ℕ
    own : g.mover v ≡ player → Live g set bound v number × Near g hit into v number
    other : g.mover v ≡ rival player → (k : ℕ) → Live g set bound v k → Near g hit into v k

  look : (into : ℕ → Bool) (v : ℕ) → Next into v ⊎ (set v ≡ true → into v ≡ false → Rests into v)
  look into v = elim (cases_Bool (set v)) [
    | inr out ↦ inr (λ inside. absurd (both_ways (set v) out inside))
    | inl inside ↦ elim (cases_Bool (into v)) [
      | inl old ↦ inr (λ inside new. absurd (both_ways (into v) new old))
      | inr new ↦ elim (cases_player (g.mover v) player) [
        | inl mine ↦ elim (seek_live g set bound v (near_or_far g hit into v)) [
          | inl found ↦ inl (record { inside = inside; new = new; number = found.0; own = λ m. (found.1, found.2); other = λ m. absurd (not_both (g.mover v) player mine m) })
          | inr far ↦ inr (λ a b. record { own = λ m. far; other = λ m. absurd (not_both (g.mover v) player mine m) })
        ]
        | inr theirs ↦ elim (seek_live g set bound v {P = Far g hit into v} {Q = Near g hit into v} (λ k. elim (near_or_far g hit into v k) [ inl near ↦ inr near | inr far ↦ inl far ])) [
          | inl found ↦ inr (λ a b. record { own = λ m. absurd (not_both (g.mover v) player m theirs); other = λ m. found })
          | inr near ↦ inl (record { inside = inside; new = new; number = 0; own = λ m. absurd (not_both (g.mover v) player m theirs); other = λ m. near })
        ]
      ]
    ]
  ]

  module _ (grown : Grown) (v : ℕ) (next : Next grown.into v) where
    more_into : ℕ → Bool
    more_into = put grown.into v true

    more_rank : ℕ → ℕ
    more_rank = put grown.rank v grown.stage

    more_choice : ℕ → ℕ
    more_choice = put grown.choice v next.number

    old_apart : (u : ℕ) → grown.into u ≡ true → u ≡ v → ⊥
    old_apart u old e = both_ways (grown.into v) next.new (rw e at old)

    kept : (u : ℕ) → grown.into u ≡ true → (more_into u ≡ true) × (more_rank u ≡ grown.rank u)
    unfolding more_into more_rank
    kept u old =
        let apart = old_apart u old in
        (put_other grown.into v true u apart ∙ old, put_other grown.rank v grown.stage u apart)

    nearer : (below u k : ℕ) → Nearer g hit grown.into grown.rank below u k → Nearer g hit more_into more_rank below u k
    nearer below u k (inl h) = inl h
    nearer below u k (inr t) = let still = kept (to g u k) t.0 in inr (still.0, let e = still.1 in let h = t.1 in omega arith)

    near_now : (u k : ℕ) → Near g hit grown.into u k → Nearer g hit more_into more_rank grown.stage u k
    near_now u k (inl h) = inl h
    near_now u k (inr t) = nearer grown.stage u k (inr (t, grown.early (to g u k) t))

    new_choice : more_choice v ≡ next.number
    unfolding more_choice
    new_choice = put_same grown.choice v next.number

    new_rank : more_rank v ≡ grown.stage
    unfolding more_rank
    new_rank = put_same grown.rank v grown.stage

    old_choice : (u : ℕ) → grown.into u ≡ true → more_choice u ≡ grown.choice u
    unfolding more_choice
    old_choice u old = put_other grown.choice v next.number u (old_apart u old)

    pulled_new : Pulled more_into more_rank more_choice v
    pulled_new = record {
      own = λ m. rw (new_choice, new_rank) ((next.own m).0, near_now v next.number (next.own m).1);
      other = λ m k l. rw new_rank (near_now v k (next.other m k l));
    }

    pulled_old : (u : ℕ) → grown.into u ≡ true → Pulled more_into more_rank more_choice u
    pulled_old u old =
        let was = grown.pulled u old in
        let rank_same = (kept u old).1 in
        record {
          own = λ m. rw (old_choice u old, rank_same) ((was.own m).0, nearer (grown.rank u) u (grown.choice u) (was.own m).1);
          other = λ m k l. rw rank_same (nearer (grown.rank u) u k (was.other m k l));
        }

    old_or_new : (u : ℕ) → more_into u ≡ true → (u ≡ v) ⊎ (grown.into u ≡ true)
    unfolding more_into
    old_or_new u now = elim (put_is grown.into v true u) [ inl e ↦ inl e.0 | inr e ↦ inr (sym e.1 ∙ now) ]

    grow : Grown
    grow = record {
      into = more_into;
      rank = more_rank;
      choice = more_choice;
      stage = suc grown.stage;
      inside = λ u now. elim (old_or_new u now) [ inl e ↦ rw e next.inside | inr old ↦ grown.inside u old ];
      early = λ u now. elim (old_or_new u now) [
        | inl e ↦ rw (e, new_rank) (omega arith)
        | inr old ↦ let h = grown.early u old in let r = (kept u old).1 in omega arith
      ];
      pulled = λ u now. elim (old_or_new u now) [ inl e ↦ rw e pulled_new | inr old ↦ pulled_old u old ];
    }

    fewer_left : v < g.size → count g.size (λ u. not (grow.into u)) < count g.size (λ u. not (grown.into u))
    unfolding grow more_into
    fewer_left h = count_strict g.size (λ u. not (more_into u)) (λ u. not (grown.into u)) v
        (λ u l left. elim (cases_Bool (grown.into u)) [
          | inl old ↦ absurd (both_ways (more_into u) (not-true (more_into u) left) (kept u old).0)
          | inr e ↦ not_from_false (grown.into u) e
        ])
        h (not_from_true (more_into v) (put_same grown.into v true)) (not_from_false (grown.into v) next.new)

  finished : (grown : Grown) → ((v : ℕ) → set v ≡ true → grown.into v ≡ false → Rests grown.into v) → Attractor
  finished grown rests = record {
    into = grown.into;
    rank = grown.rank;
    choice = grown.choice;
    inside = grown.inside;
    pulled = grown.pulled;
    rests = rests;
  }

  module _ (exists : (v : ℕ) → set v ≡ true → v < g.size) where
    attract : (fuel : ℕ) (grown : Grown) → count g.size (λ v. not (grown.into v)) ≤ fuel → Attractor
    attract zero grown left = finished grown (λ v inside new.
        absurd (both_ways (not (grown.into v)) (count_none g.size (λ v. not (grown.into v)) (omega arith) v (exists v inside)) (not_from_false (grown.into v) new)))
    attract (suc fuel) grown left =
        elim (seek {P = Next grown.into} {Q = λ v. set v ≡ true → grown.into v ≡ false → Rests grown.into v} g.size (λ v h. look grown.into v)) [
          | inl found ↦
              let v = found.0 in
              let next = found.2 in
              let fewer = fewer_left grown v next found.1 in
              attract fuel (grow grown v next) (omega arith)
          | inr rests ↦ finished grown (λ v inside. rests v (exists v inside) inside)
        ]

    -- every subgame has the attractor
    pub attractor : Attractor
    attractor = attract (count g.size (λ v. not (nothing.into v))) nothing (omega arith)
      where
        nothing : Grown
        nothing = record {
          into = λ v. false;
          rank = λ v. 0;
          choice = λ v. 0;
          stage = 0;
          inside = λ v e. absurd (both_ways false refl e);
          early = λ v e. absurd (both_ways false refl e);
          pulled = λ v e. absurd (both_ways false refl e);
        }
