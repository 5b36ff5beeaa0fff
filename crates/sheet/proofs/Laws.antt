-- The positions that a fitting sheet describes keep the laws of an arena.
use Rattle.std.proofs.Common.{◌≡◌, ℕ, zero, suc, ◌+◌, ◌<◌, ◌≤◌, List, [], ◌∷◌, map, length, get_or, Some, sym, refl, ap, ◌∙◌, inl, inr, arith}
use Rattle.std.proofs.lemmas.Option.{none-some}
use Rattle.std.specs.List.{concat}
use Rattle.std.specs.List.{slice_get}
use Rattle.std.proofs.lemmas.List.{length-map}
use Rattle.std.proofs.lemmas.Bool.{cases_eq, eq-eqb, ne_eqb}
use Rattle.game.specs.declared.Player.{Player}
use Rattle.game.specs.declared.Player.TheVariants.{Even, Odd}
use Rattle.game.specs.declared.Arc.{Arc}
use Rattle.game.specs.Game.{Lawful}
use Rattle.game.proofs.Arcs.{arc_there}
use Rattle.table.specs.Sites.{Site, nowhere, game_of}
use Rattle.sheet.specs.Layout.{positions, records, mover_byte, Recorded}
use Rattle.sheet.specs.Chains.{Leads, occurrences, Fits, arc_of, mover_of, losing, mended, site_at, described}
use Rattle.sheet.specs.Chains.Leads.{here, along}
use Rattle.sheet.proofs.Steps.{occurrences_append, occurrences_cons}

-- every record of a list is one of the first m
abbrev pub Within : ℕ → List ℕ → Type 0
Within m [] = Unit {0}
Within m (k ∷ ks) = ((1 ≤ k) × (k ≤ m)) × Within m ks

pub chain_within : {s : List ℕ} {e to : ℕ} {ks : List ℕ} → Recorded s → Leads s e ks to → e ≤ records s → Within (records s) ks
chain_within recorded here h = tt
chain_within recorded (along some more) h = ((some, h), chain_within recorded more (recorded.each_record _ some h).next)

-- how often the records 1 to m stand in a list, all together
together : ℕ → List ℕ → ℕ
together zero ks = 0
together (suc m) ks = occurrences (suc m) ks + together m ks

together_none : (m : ℕ) → together m [] ≡ 0
unfolding together
together_none zero = refl
together_none (suc m) = let h = together_none m in omega arith

together_past : (m k : ℕ) (ks : List ℕ) → m < k → together m (k ∷ ks) ≡ together m ks
unfolding together
together_past zero k ks h = refl
together_past (suc m) k ks h =
    let apart : suc m ≡ k → ⊥ = λ e. omega arith in
    rw (occurrences_cons (suc m) k ks, ne_eqb (suc m) k apart, together_past m k ks (omega arith)) (omega arith)

together_one : (m k : ℕ) (ks : List ℕ) → 1 ≤ k → k ≤ m → together m (k ∷ ks) ≡ 1 + together m ks
unfolding together
together_one zero k ks low high = absurd (omega arith)
together_one (suc m) k ks low high =
    elim (cases_eq (suc m) k) [
      | inl same ↦ rw (occurrences_cons (suc m) k ks, eq-eqb (suc m) k same, together_past m k ks (omega arith)) (omega arith)
      | inr apart ↦ rw (occurrences_cons (suc m) k ks, ne_eqb (suc m) k apart, together_one m k ks low (omega arith)) (omega arith)
    ]

length_together : (m : ℕ) (ks : List ℕ) → Within m ks → length ks ≡ together m ks
length_together m [] h = sym (together_none m)
length_together m (k ∷ ks) h = rw (together_one m k ks h.0.0 h.0.1) (let e = length_together m ks h.1 in omega arith)

together_once : (m : ℕ) (ks : List ℕ) → ((k : ℕ) → 1 ≤ k → k ≤ m → occurrences k ks ≤ 1) → together m ks ≤ m
unfolding together
together_once zero ks once = omega arith
together_once (suc m) ks once =
    let a = once (suc m) (omega arith) (omega arith) in
    let b = together_once m ks (λ k low high. once k low (omega arith)) in
    omega arith

-- a list in which each of m records stands at most once has at most m
pub once_short : (m : ℕ) (ks : List ℕ) → Within m ks → ((k : ℕ) → 1 ≤ k → k ≤ m → occurrences k ks ≤ 1) → length ks ≤ m
once_short m ks within once = let e = length_together m ks within in let h = together_once m ks once in omega arith

-- one chain is a part of all chains
part_of_concat : (k : ℕ) (chains : List (List ℕ)) (v : ℕ) → occurrences k (get_or chains v []) ≤ occurrences k (concat chains)
part_of_concat k [] v = omega arith
part_of_concat k (c ∷ chains) zero = let e = occurrences_append k c (concat chains) in omega arith
part_of_concat k (c ∷ chains) (suc v) = let e = occurrences_append k c (concat chains) in let h = part_of_concat k chains v in omega arith

length_described : (s : List ℕ) (u : ℕ) (chains : List (List ℕ)) → length (described s u chains) ≡ length chains
length_described s u [] = refl
length_described s u (c ∷ chains) = ap suc (length_described s (suc u) chains)

described_at : (s : List ℕ) (u : ℕ) (chains : List (List ℕ)) (v : ℕ) → v < length chains → get_or (described s u chains) v nowhere ≡ site_at s (u + v) (get_or chains v [])
described_at s u [] v h = absurd (omega arith)
described_at s u (c ∷ chains) zero h = ap (λ n. site_at s n c) (omega arith)
described_at s u (c ∷ chains) (suc v) h =
    let there : suc u + v ≡ u + suc v = omega arith in
    described_at s (suc u) chains v (omega arith) ∙ ap (λ n. site_at s n (get_or chains v [])) there

losing_low : (p : Player) → losing p ≤ 7
losing_low Even = omega arith
losing_low Odd = omega arith

record_arc : {s : List ℕ} → Recorded s → (ks : List ℕ) → Within (records s) ks → (i : ℕ) (a : Arc) → slice_get (map (arc_of s) ks) i ≡ Some a → (a.target < positions s) × (a.priority ≤ 7)
record_arc recorded [] h i a e = absurd (none-some a e)
record_arc {s} recorded (k ∷ ks) h zero a e =
    let same : arc_of s k ≡ a = cc in
    let fits = recorded.each_record k h.0.0 h.0.1 in
    rw (← same) (fits.target, fits.priority)
record_arc recorded (k ∷ ks) h (suc i) a e = record_arc recorded ks h.1 i a e

-- the arcs of one position
record Sound (n : ℕ) (arcs : List Arc) : Type 0 where
  some : 1 ≤ length arcs
  few : length arcs ≤ 64
  each : (i : ℕ) (a : Arc) → slice_get arcs i ≡ Some a → (a.target < n) × (a.priority ≤ 7)

sound_mended : (n v : ℕ) (mover : Player) (arcs : List Arc) → v < n → length arcs ≤ 64 → ((i : ℕ) (a : Arc) → slice_get arcs i ≡ Some a → (a.target < n) × (a.priority ≤ 7)) → Sound n (mended v mover arcs)
sound_mended n v mover [] h few each = record { some = omega arith; few = omega arith; each = only }
  where
    only : (i : ℕ) (a : Arc) → slice_get (mended v mover []) i ≡ Some a → (a.target < n) × (a.priority ≤ 7)
    only zero a e =
        let same : record { target = v; priority = losing mover } ≡ a = cc in
        rw (← same) (h, losing_low mover)
    only (suc i) a e = absurd (none-some a e)
sound_mended n v mover (b ∷ arcs) h few each = record { some = omega arith; few = few; each = each }

module _ {s : List ℕ} {chains : List (List ℕ)} (fits : Fits s chains) where
  pub described_size : length (described s 0 chains) ≡ positions s
  described_size = length_described s 0 chains ∙ fits.chained.count

  described_sound : (v : ℕ) → v < length (described s 0 chains) → Sound (length (described s 0 chains)) ((game_of (described s 0 chains)).arcs v)
  described_sound v h =
      let there : v < positions s = rw (← described_size) h in
      let inside : v < length chains = rw fits.chained.count there in
      let zero_v : 0 + v ≡ v = omega arith in
      let at = described_at s 0 chains v inside ∙ ap (λ n. site_at s n (get_or chains v [])) zero_v in
      let ks = get_or chains v [] in
      let within = chain_within fits.recorded (fits.chained.ended v there) (fits.recorded.placed.each_position v there).first in
      let once : (k : ℕ) → 1 ≤ k → k ≤ records s → occurrences k ks ≤ 1 = λ k low high. let a = part_of_concat k chains v in let b = fits.each_once k low high in omega arith in
      let short = once_short (records s) ks within once in
      let few : length (map (arc_of s) ks) ≤ 64 = let e = length-map ks (arc_of s) in let m = fits.recorded.placed.headed.sized.few_records in omega arith in
      rw (described_size, ap (λ (x : Site). x.arcs) at) (sound_mended (positions s) v (mover_of (mover_byte s v)) (map (arc_of s) ks) there few (record_arc fits.recorded ks within))

  pub described_few : length (described s 0 chains) ≤ 16
  described_few = let e = described_size in let h = fits.recorded.placed.headed.sized.few_positions in omega arith

  pub described_lawful : Lawful (game_of (described s 0 chains))
  described_lawful = record {
    few_positions = let h = described_few in omega arith;
    low_top = omega arith;
    some_arc = λ v h. (described_sound v h).some;
    few_arcs = λ v h. (described_sound v h).few;
    target_inside = λ v i a e. let there = arc_there (game_of (described s 0 chains)) v i a e in ((described_sound v there.0).each i a there.1).0;
    priority_low = λ v i a e. let there = arc_there (game_of (described s 0 chains)) v i a e in ((described_sound v there.0).each i a there.1).1;
  }
