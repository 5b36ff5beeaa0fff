-- The positions that have been read, one more at a time.
use Rattle.std.proofs.Common.{◌≡◌, ℕ, suc, ◌+◌, ◌<◌, ◌≤◌, Bool, true, false, List, [], ◌∷◌, ◌++◌, length, get_or, replicate, sym, refl, ap, ◌∙◌, inl, inr, append-nil, add-zero, arith, length-append}
use Rattle.std.specs.List.{concat}
use Rattle.std.proofs.Math.Seq.{get_or-append_seam}
use Rattle.std.proofs.lemmas.List.{get_or_append_left, get_or-replicate}
use Rattle.std.proofs.lemmas.List.Folds.{concat-append}
use Rattle.std.proofs.lemmas.Bool.{cases_lt}
use Rattle.game.specs.Lowest.{LowestWithout}
use Rattle.table.specs.Sites.{Site}
use Rattle.sheet.specs.declared.fault.SheetFault.TheVariants.{Short, Version, Large, Length, Position, Record, Repeated, Unused}
use Rattle.sheet.specs.declared.fault.ReadFault.{ReadFault}
use Rattle.sheet.specs.declared.fault.ReadFault.TheVariants.{Refused, Memory}
use Rattle.sheet.specs.Layout.{positions, records, first_record, Recorded}
use Rattle.sheet.specs.Chains.{Leads, Chains, occurrences, site_at, described, Describes}
use Rattle.sheet.specs.Chains.Leads.{here, along}
use Rattle.sheet.specs.Refusals.{ComesAgain, NeverComes}
use Rattle.sheet.specs.Reading.{bit, MarksAdded, MarkedTwice, PositionRead, AllRead, Stopped}
use Rattle.sheet.proofs.Steps.{occurrences_append}

pub concat_push : (chains : List (List ℕ)) (ks : List ℕ) → concat (chains ++ ks ∷ []) ≡ concat chains ++ ks
concat_push chains ks = concat-append chains (ks ∷ []) ∙ ap (λ xs. concat chains ++ xs) (append-nil ks)

described_push : (s : List ℕ) (v : ℕ) (chains : List (List ℕ)) (ks : List ℕ) → described s v (chains ++ ks ∷ []) ≡ described s v chains ++ site_at s (v + length chains) ks ∷ []
described_push s v [] ks = rw add-zero
described_push s v (c ∷ chains) ks =
    let here_is : suc v + length chains ≡ v + suc (length chains) = omega arith in
    ap (λ xs. site_at s v c ∷ xs) (described_push s (suc v) chains ks ∙ ap (λ n. described s (suc v) chains ++ site_at s n ks ∷ []) here_is)

pub chains_push : {s : List ℕ} {v : ℕ} {chains : List (List ℕ)} {ks : List ℕ} → Chains s v chains → Leads s (first_record s v) ks 0 → Chains s (v + 1) (chains ++ ks ∷ [])
chains_push {s} {v} {chains} {ks} whole ended = record {
  count = let h = whole.count in length-append chains (ks ∷ []) ∙ omega arith;
  ended = λ u h. elim (cases_lt u v) [
    | inl below ↦ let inside : u < length chains = rw whole.count below in
        rw (get_or_append_left chains (ks ∷ []) [] u inside) (whole.ended u below)
    | inr above ↦ let same : u ≡ length chains = let n = whole.count in omega arith in
        let at : length chains ≡ v = whole.count in
        rw (same, get_or-append_seam chains ks [] [], at) ended
  ];
}

marks_join : {old mid new : List Bool} {xs ys : List ℕ} → MarksAdded old mid xs → MarksAdded mid new ys → MarksAdded old new (xs ++ ys)
marks_join {xs = xs} {ys = ys} first second = record {
  each = λ k h. let a = first.each k h in let b = second.each k h in let c = occurrences_append k xs ys in omega arith;
}

pub one_more_read : {s : List ℕ} {v : ℕ} {mid new : List Bool} {sites : List Site} {site : Site} → AllRead s v mid sites → PositionRead s v mid new site → AllRead s (v + 1) new (sites ++ site ∷ [])
one_more_read {s} {v} {new = new} {sites = sites} {site = site} all one =
    let long : 0 + length all.chains ≡ v = let h = all.whole.count in omega arith in
    let last : site ≡ site_at s (0 + length all.chains) one.chain = rw long one.site_is in
    record {
      chains = all.chains ++ one.chain ∷ [];
      whole = chains_push all.whole one.ended;
      marked = rw (concat_push all.chains one.chain) (marks_join all.marked one.marked);
      sites_are = ap (λ xs. xs ++ site ∷ []) all.sites_are ∙ ap (λ x. described s 0 all.chains ++ x ∷ []) last ∙ sym (described_push s 0 all.chains one.chain);
    }

-- a record that a chain leads to is one of the sheet's
pub leads_within : {s : List ℕ} {e to : ℕ} {ks : List ℕ} → Recorded s → Leads s e ks to → e ≤ records s → to ≤ records s
leads_within recorded here h = h
leads_within recorded (along some more) h = leads_within recorded more (recorded.each_record _ some h).next

bit_low : (b : Bool) → bit b ≤ 1
bit_low true = omega arith
bit_low false = omega arith

-- the marks of all records reached say how often each was
pub reached_by_marks : {new : List Bool} {ks : List ℕ} → MarksAdded (replicate 49 false) new ks → (k : ℕ) → k < 49 → occurrences k ks ≡ bit (get_or new k false)
reached_by_marks {new} {ks} marks k h = let e = marks.each k h in let z = ap bit (get_or-replicate 49 k false false h) in omega arith

comes_again : {s : List ℕ} {v k : ℕ} {mid new : List Bool} {sites : List Site} → Recorded s → v < positions s → AllRead s v mid sites → MarkedTwice s (first_record s v) mid new k → ComesAgain s k
comes_again {s} {v} {k} {new = new} recorded there all twice =
    let joint = marks_join all.marked twice.marked in
    let few = recorded.placed.headed.sized.few_records in
    let within = leads_within recorded twice.leads (recorded.placed.each_position v there).first in
    record {
      position = v;
      before = all.chains;
      begun = twice.begun;
      position_there = there;
      whole = all.whole;
      leads = twice.leads;
      record_there = twice.record_there;
      once = λ j low high. let e = reached_by_marks joint j (omega arith) in let b = bit_low (get_or new j false) in omega arith;
      again = reached_by_marks joint k (omega arith) ∙ ap bit twice.again;
    }

pub all_stop : {s : List ℕ} {v : ℕ} {mid : List Bool} (new : List Bool) {sites : List Site} → Recorded s → v < positions s → AllRead s v mid sites → (f : ReadFault) → Stopped (MarkedTwice s (first_record s v) mid new) f → Stopped (ComesAgain s) f
all_stop new recorded there all Memory h = tt
all_stop new recorded there all (Refused Short) h = h
all_stop new recorded there all (Refused Version) h = h
all_stop new recorded there all (Refused Large) h = h
all_stop new recorded there all (Refused Length) h = h
all_stop new recorded there all (Refused (Position u)) h = h
all_stop new recorded there all (Refused (Record k)) h = h
all_stop new recorded there all (Refused (Repeated k)) h = comes_again recorded there all h
all_stop new recorded there all (Refused (Unused k)) h = h

pub describes_from : {s : List ℕ} {used : List Bool} {sites : List Site} → Recorded s → AllRead s (positions s) used sites → ((k : ℕ) → 1 ≤ k → k < records s + 1 → get_or used k false ≡ true) → Describes s sites
describes_from {s} {used} recorded all marked =
    let few = recorded.placed.headed.sized.few_records in (
      all.chains,
      record {
        recorded = recorded;
        chained = all.whole;
        each_once = λ k low high. reached_by_marks all.marked k (omega arith) ∙ ap bit (marked k low (omega arith));
      },
      all.sites_are,
    )

bit_one : (b : Bool) → bit b ≡ 1 → b ≡ true
bit_one true e = refl
bit_one false e = absurd (omega arith)

pub never_comes_from : {s : List ℕ} {used : List Bool} {sites : List Site} {k : ℕ} → Recorded s → AllRead s (positions s) used sites → LowestWithout (λ j. get_or used j false ≡ true) 1 (records s + 1) k → NeverComes s k
never_comes_from {s} {used} {k = k} recorded all lowest =
    let few = recorded.placed.headed.sized.few_records in
    let end = lowest.before_end in
    record {
      chains = all.chains;
      whole = all.whole;
      once = λ j low high. let e = reached_by_marks all.marked j (omega arith) in let b = bit_low (get_or used j false) in omega arith;
      lowest = record {
        from_start = lowest.from_start;
        before_end = end;
        lacks = λ once. lowest.lacks (bit_one (get_or used k false) (sym (reached_by_marks all.marked k (omega arith)) ∙ once));
        below_have = λ j low h. reached_by_marks all.marked j (omega arith) ∙ ap bit (lowest.below_have j low h);
      };
    }
