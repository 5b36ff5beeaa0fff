-- Every subgame has a split, and so has the whole game.
use Rattle.std.proofs.Common.{◌≡◌, ℕ, zero, suc, ◌%◌, ◌<◌, ◌≤◌, Bool, true, false, ltb, ◌⊎◌, length, sym, ap, ◌∙◌, inl, inr, arith}
use Rattle.std.proofs.lemmas.Bool.{cases_Bool, both_ways, eqb-false, ltb-true, lt-ltb, and_parts, and_from}
use Rattle.toolkit.specs.Finite.{count}
use Rattle.toolkit.proofs.Counting.{count_none, count_strict}
use Rattle.toolkit.proofs.Search.{seek}
use Rattle.toolkit.proofs.Walks.{walk_mapped}
use Rattle.game.specs.declared.Player.{Player}
use Rattle.game.specs.declared.Player.TheVariants.{Even}
use Rattle.game.specs.Game.{Game, Lawful, rival, parity}
use Rattle.game.specs.Plans.{Follows, Wins}
use Rattle.determinacy.specs.Statements.{Determined, same, share}
use Rattle.determinacy.proofs.Players.{cases_player, player_of_lem, same_true, same_from}
use Rattle.determinacy.proofs.Subgames.{Live, Subgame, arc, arc_known, arc_is, to, priority, minus, minus_parts, live_narrower}
use Rattle.determinacy.proofs.ArcWalks.{By, first_arc_lem}
use Rattle.determinacy.proofs.Attractor.{Attractor, attractor}
use Rattle.determinacy.proofs.Splits.{Goes, Split, tops, won_from, split_won, home, Homeward, gone, gone_from_home, gone_inside, remains, split_shared}

empty_split : (g : Game) (set : ℕ → Bool) (bound : ℕ) → ((v : ℕ) → set v ≡ true → ⊥) → Split g set bound
empty_split g set bound none = record {
  owner = λ v. Even;
  choice = λ v. 0;
  choice_live = λ v inside. absurd (none v inside);
  stays = λ player u k go. absurd (none u go.live.from_inside);
  closed = λ player v p ps walk. absurd (none v (first_arc_lem g walk).1.live.from_inside);
}

module _ (g : Game) (e : ℕ) where
  -- without the attractor of the top priority a subgame of lower priorities is left
  lower_subgame : (set : ℕ → Bool) (i : Player) (near : Attractor g set (suc e) i (tops g e)) → Subgame g set (suc e) → Subgame g (minus set near.into) e
  lower_subgame set i near sub = record {
    exists = λ v inside. sub.exists v (minus_parts set near.into v inside).0;
    goes_on = λ v inside.
        let parts = minus_parts set near.into v inside in
        let rests = near.rests v parts.0 parts.1 in
        elim (cases_player (g.mover v) i) [
          | inl mine ↦
              let some = sub.goes_on v parts.0 in
              (some.0, kept v some.0 some.1 parts.1 (rests.own mine some.0 some.1))
          | inr theirs ↦ let some = rests.other theirs in (some.0, kept v some.0 some.1 parts.1 some.2)
        ];
  }
    where
      kept : (v k : ℕ) → Live g set (suc e) v k → near.into v ≡ false → (tops g e v k ≡ false) × (near.into (to g v k) ≡ false) → Live g (minus set near.into) e v k
      kept v k live out far =
          let apart = eqb-false (priority g v k) e far.0 in
          let low = live.low in
          live_narrower g set near.into (suc e) e v k live out far.1 (omega arith)

  -- what is gone makes the rest smaller
  fewer : (set : ℕ → Bool) (i : Player) (near : Attractor g set (suc e) i (tops g e)) (rest : Split g (minus set near.into) e) (back : Homeward g set e i near rest) → Subgame g set (suc e) → (v : ℕ) → home g set e i near rest v ≡ true → count g.size (minus set (gone g set e i near rest back)) < count g.size set
  fewer set i near rest back sub v here =
      let taken = gone_from_home g set e i near rest back v here in
      let inside = gone_inside g set e i near rest back v taken in
      count_strict g.size (minus set (gone g set e i near rest back)) set v
      (λ u l h. (minus_parts set (gone g set e i near rest back) u h).0)
      (sub.exists v inside) (outside taken) inside
    where
      outside : gone g set e i near rest back v ≡ true → minus set (gone g set e i near rest back) v ≡ false
      outside taken = elim (cases_Bool (minus set (gone g set e i near rest back) v)) [
        | inl left ↦ absurd (both_ways (gone g set e i near rest back v) (minus_parts set (gone g set e i near rest back) v left).1 taken)
        | inr out ↦ out
      ]

  module _ (lower : (set : ℕ → Bool) → Subgame g set e → Split g set e) where
    -- the rest has a position of the rival's, or none
    rivals_or_none : (set : ℕ → Bool) (i : Player) (near : Attractor g set (suc e) i (tops g e)) (rest : Split g (minus set near.into) e) → Subgame g set (suc e) → ((v : ℕ) × (home g set e i near rest v ≡ true)) ⊎ ((v : ℕ) → minus set near.into v ≡ true → rest.owner v ≡ i)
    unfolding home
    rivals_or_none set i near rest sub =
        elim (seek {P = λ v. home g set e i near rest v ≡ true} {Q = λ v. home g set e i near rest v ≡ false} g.size (λ v h. cases_Bool (home g set e i near rest v))) [
          | inl found ↦ inl (found.0, found.2)
          | inr none ↦ inr (λ v inside. elim (cases_player (rest.owner v) i) [
            | inl mine ↦ mine
            | inr theirs ↦ absurd (both_ways (home g set e i near rest v) (none v (sub.exists v (minus_parts set near.into v inside).0)) (won_from g (minus set near.into) e rest (rival i) v inside theirs))
          ])
        ]

    split_top : (fuel : ℕ) (set : ℕ → Bool) → count g.size set ≤ fuel → Subgame g set (suc e) → Split g set (suc e)
    split_top zero set few sub = empty_split g set (suc e) (λ v inside. both_ways (set v) (count_none g.size set (omega arith) v (sub.exists v inside)) inside)
    split_top (suc fuel) set few sub = go (player_of_lem e).0 (player_of_lem e).1 (attractor g set (suc e) (player_of_lem e).0 (tops g e) sub.exists) (split_top fuel)
      where
        go : (i : Player) → e % 2 ≡ parity i → (near : Attractor g set (suc e) i (tops g e)) → ((less : ℕ → Bool) → count g.size less ≤ fuel → Subgame g less (suc e) → Split g less (suc e)) → Split g set (suc e)
        go i fits near again = shared (lower (minus set near.into) (lower_subgame set i near sub))
          where
            shared : Split g (minus set near.into) e → Split g set (suc e)
            shared rest = elim (rivals_or_none set i near rest sub) [
              | inr wins ↦ split_won g set e i fits near rest wins
              | inl found ↦ with_back found.0 found.1 (attractor g set (suc e) (rival i) (λ v k. home g set e i near rest (to g v k)) sub.exists)
            ]
              where
                with_back : (v : ℕ) → home g set e i near rest v ≡ true → Homeward g set e i near rest → Split g set (suc e)
                with_back v here back =
                    let less = fewer set i near rest back sub v here in
                    split_shared g set e i near rest back (again (minus set (gone g set e i near rest back)) (omega arith) (remains g set e i near rest back sub))

pub split : (g : Game) (bound : ℕ) (set : ℕ → Bool) → Subgame g set bound → Split g set bound
split g zero set sub = empty_split g set 0 (λ v inside. let l = (sub.goes_on v inside).1.low in omega arith)
split g (suc e) set sub = split_top g e (split g e) (count g.size set) set (omega arith) sub

module _ (g : Game) (lawful : Lawful g) where
  abbrev all : ℕ → Bool
  all v = ltb v g.size

  all_live : (v k : ℕ) → v < g.size → k < length (g.arcs v) → Live g all (suc g.top) v k
  unfolding to priority
  all_live v k h l =
      let known = arc_known g v k h l in
      record {
        from_inside = lt-ltb v g.size h;
        is_arc = l;
        to_inside = lt-ltb (arc g v k).target g.size (lawful.target_inside v k (arc g v k) known);
        low = let low = lawful.priority_low v k (arc g v k) known in omega arith;
      }

  all_subgame : Subgame g all (suc g.top)
  all_subgame = record {
    exists = λ v inside. ltb-true v g.size inside;
    goes_on = λ v inside. let h = ltb-true v g.size inside in (0, all_live v 0 h (lawful.some_arc v h));
  }

  module _ (whole : Split g all (suc g.top)) (player : Player) where
    claim_parts : (v : ℕ) → (share g whole.owner whole.choice player).claims v ≡ true → (v < g.size) × (whole.owner v ≡ player)
    claim_parts v claimed =
        let parts = and_parts (ltb v g.size) (same (whole.owner v) player) claimed in
        (ltb-true v g.size parts.0, same_true (whole.owner v) player parts.1)

    follows_goes : (u w p : ℕ) → Follows g (share g whole.owner whole.choice player) u w p → By g (Goes g all (suc g.top) whole.owner whole.choice player) u w p
    unfolding to priority
    follows_goes u w p m =
        let parts = claim_parts u m.claimed in
        let known = arc_is g u m.number m.arc m.is_arc in (
          m.number,
          record { live = all_live u m.number parts.0 known.0; owned = parts.1; chosen = m.chosen },
          ap (λ a. a.target) known.1 ∙ m.leads,
          ap (λ a. a.priority) known.1 ∙ m.costs,
        )

    share_wins : Wins g (share g whole.owner whole.choice player)
    share_wins = record {
      choice_is_arc = λ v claimed mine.
          let parts = claim_parts v claimed in
          (whole.choice_live v (lt-ltb v g.size parts.0) (mine ∙ sym parts.1)).is_arc;
      claims_exist = λ v claimed. (claim_parts v claimed).0;
      stays_claimed = λ u w p m.
          let move = follows_goes u w p m in
          let kept = whole.stays player u move.0 move.1 in
          and_from (ltb w g.size) (same (whole.owner w) player)
          (rw move.2 at move.1.live.to_inside)
          (same_from (whole.owner w) player (rw move.2 at kept));
      closed_walks = λ v p ps walk. whole.closed player v p ps (walk_mapped follows_goes walk);
    }

pub determined : (g : Game) → Lawful g → Determined g
determined g lawful =
    let whole = split g (suc g.top) (all g lawful) (all_subgame g lawful) in
    (whole.owner, whole.choice, share_wins g lawful whole)
