-- Every sheet fits the layout or has a fault.
use Rattle.std.proofs.Common.{◌≡◌, ℕ, zero, suc, ◌+◌, ◌-◌, ◌*◌, ◌<◌, ◌≤◌, ◌⊎◌, List, [], ◌∷◌, ◌++◌, length, get_or, sym, refl, ap, subst, inl, inr, append_assoc, append-nil, arith, length-append}
use Rattle.std.specs.List.{concat}
use Rattle.std.proofs.lemmas.Bool.{cases_lt, cases_eq}
use Rattle.toolkit.proofs.Search.{seek_least}
use Rattle.game.specs.Lowest.{LowestWithout}
use Rattle.table.specs.Sites.{Site}
use Rattle.sheet.specs.declared.fault.SheetFault.{SheetFault}
use Rattle.sheet.specs.declared.fault.SheetFault.TheVariants.{Short, Version, Large, Length, Position, Record, Repeated, Unused}
use Rattle.sheet.specs.Layout.{byte, positions, records, mover_byte, first_record, name_bytes, priority_byte, target_byte, next_record, Opened, Headed, Placed, Recorded, PositionFits, RecordFits, AllVisible}
use Rattle.sheet.specs.Chains.{Leads, Chains, occurrences, described, Describes}
use Rattle.sheet.specs.Chains.Leads.{here}
use Rattle.sheet.specs.Refusals.{ComesAgain, NeverComes, Refuses}
use Rattle.sheet_theory.specs.Complete.{FaultsComplete}
use Rattle.sheet.proofs.Steps.{leads_more, occurrences_append, occurs_itself, occurs_apart}
use Rattle.sheet.proofs.Gathered.{leads_within, concat_push, chains_push}
use Rattle.sheet.proofs.Laws.{Within, chain_within, once_short}
use Rattle.sheet_theory.proofs.Unique.{not_both, one_arena, one_fault}

abbrev Decided : Type 0 → Type 0
Decided P = P ⊎ (P → ⊥)

decide_le : (a b : ℕ) → Decided (a ≤ b)
decide_le a b = elim (cases_lt b a) [ inl h ↦ inr (λ k. omega arith) | inr h ↦ inl h ]

decide_both : {P Q : Type 0} → Decided P → Decided Q → Decided (P × Q)
decide_both (inl p) (inl q) = inl (p, q)
decide_both (inl p) (inr lacks) = inr (λ both. lacks both.1)
decide_both (inr lacks) q = inr (λ both. lacks both.0)

-- all of some numbers in a row have P, or one is the lowest without
lowest_to : {P : ℕ → Type 0} → ((i : ℕ) → Decided (P i)) → (start end : ℕ) → start ≤ end → ((i : ℕ) → start ≤ i → i < end → P i) ⊎ ((i : ℕ) × LowestWithout P start end i)
lowest_to {P} test start end h = elim (seek_least {P = λ i. P (start + i) → ⊥} {Q = λ i. P (start + i)} (end - start) (λ i l. elim (test (start + i)) [ inl has ↦ inr has | inr lacks ↦ inl lacks ])) [
  | inl (i, inside, lacks, below) ↦ inr (start + i, record { from_start = omega arith; before_end = omega arith; lacks = lacks; below_have = λ j low l. at j low (below (j - start) (omega arith)) })
  | inr all ↦ inl (λ i low high. at i low (all (i - start) (omega arith)))
]
  where
    at : (i : ℕ) → start ≤ i → P (start + (i - start)) → P i
    at i low has = let same : start + (i - start) ≡ i = omega arith in subst P same has

visible_or_not : (bytes : List ℕ) → Decided (AllVisible bytes)
visible_or_not bytes = elim (lowest_to (λ i. decide_both (decide_le 0x21 (get_or bytes i 0)) (decide_le (get_or bytes i 0) 0x7E)) 0 (length bytes) (omega arith)) [
  | inl all ↦ inl (λ i h. all i (omega arith) h)
  | inr (i, lowest) ↦ inr (λ all. lowest.lacks (all i lowest.before_end))
]

position_or_not : (s : List ℕ) (v : ℕ) → Decided (PositionFits s v)
position_or_not s v = elim (decide_both (decide_both (decide_le (mover_byte s v) 1) (decide_le (first_record s v) (records s))) (visible_or_not (name_bytes s v))) [
  | inl ((mover, first), name) ↦ inl (record { mover = mover; first = first; name = name })
  | inr lacks ↦ inr (λ fits. lacks ((fits.mover, fits.first), fits.name))
]

record_or_not : (s : List ℕ) (k : ℕ) → Decided (RecordFits s k)
record_or_not s k = elim (decide_both (decide_both (decide_le (priority_byte s k) 7) (decide_le (suc (target_byte s k)) (positions s))) (decide_le (next_record s k) (records s))) [
  | inl ((priority, target), next) ↦ inl (record { priority = priority; target = target; next = next })
  | inr lacks ↦ inr (λ fits. lacks ((fits.priority, fits.target), fits.next))
]

-- Every record stands at most once.
abbrev Once : List ℕ → List ℕ → Type 0
Once s ks = (j : ℕ) → 1 ≤ j → j ≤ records s → occurrences j ks ≤ 1

-- all records of the chains of some positions are the sheet's
within_append : (m : ℕ) (xs ys : List ℕ) → Within m xs → Within m ys → Within m (xs ++ ys)
within_append m [] ys h k = k
within_append m (x ∷ xs) ys h k = (h.0, within_append m xs ys h.1 k)

-- The chains of the positions below v, no record twice.
record Chained (s : List ℕ) (v : ℕ) : Type 0 where
  chains : List (List ℕ)
  whole : Chains s v chains
  once : Once s (concat chains)
  within : Within (records s) (concat chains)

module _ (s : List ℕ) (recorded : Recorded s) where
  -- how far the chain of the next position has been gone along
  record Along (v : ℕ) (done : Chained s v) (begun : List ℕ) (reached : ℕ) : Type 0 where
    leads : Leads s (first_record s v) begun reached
    once : Once s (concat done.chains ++ begun)

  module _ (v : ℕ) (there : v < positions s) (done : Chained s v) where
    along_within : (begun : List ℕ) (reached : ℕ) → Along v done begun reached → Within (records s) (concat done.chains ++ begun)
    along_within begun reached way = within_append (records s) (concat done.chains) begun done.within (chain_within recorded way.leads (recorded.placed.each_position v there).first)

    along_ends : (begun : List ℕ) → Along v done begun 0 → Chained s (v + 1)
    along_ends begun way = record {
      chains = done.chains ++ begun ∷ [];
      whole = chains_push done.whole way.leads;
      once = rw (concat_push done.chains begun) way.once;
      within = rw (concat_push done.chains begun) (along_within begun 0 way);
    }

    along_again : (begun : List ℕ) (reached : ℕ) → Along v done begun reached → 1 ≤ reached → 1 ≤ occurrences reached (concat done.chains ++ begun) → ComesAgain s reached
    along_again begun reached way some met =
        let in_sheet = leads_within recorded way.leads (recorded.placed.each_position v there).first in
        let one = way.once reached some in_sheet in
        record {
          position = v;
          before = done.chains;
          begun = begun;
          position_there = there;
          whole = done.whole;
          leads = way.leads;
          record_there = some;
          once = way.once;
          again = omega arith;
        }

    along_on : (begun : List ℕ) (reached : ℕ) → Along v done begun reached → 1 ≤ reached → occurrences reached (concat done.chains ++ begun) ≡ 0 → Along v done (begun ++ reached ∷ []) (next_record s reached)
    along_on begun reached way some new = record {
      leads = leads_more way.leads some;
      once = λ j low high. let before = way.once j low high in
          let regroup = ap (occurrences j) (sym (append_assoc (concat done.chains) begun (reached ∷ []))) in
          let count = occurrences_append j (concat done.chains ++ begun) (reached ∷ []) in
          elim (cases_eq j reached) [
            | inl same ↦ let itself = occurs_itself reached in
                let at : occurrences j (reached ∷ []) ≡ occurrences reached (reached ∷ []) = ap (λ x. occurrences x (reached ∷ [])) same in
                let zero_here : occurrences j (concat done.chains ++ begun) ≡ occurrences reached (concat done.chains ++ begun) = ap (λ x. occurrences x (concat done.chains ++ begun)) same in
                omega arith
            | inr apart ↦ let none = occurs_apart j reached apart in omega arith
          ];
    }

    -- to the end of the chain or to a record met before; no longer than there are records
    go : (fuel : ℕ) (begun : List ℕ) (reached : ℕ) → Along v done begun reached → records s < fuel + length (concat done.chains ++ begun) → Chained s (v + 1) ⊎ ((k : ℕ) × ComesAgain s k)
    go zero begun reached way enough =
        let short = once_short (records s) (concat done.chains ++ begun) (along_within begun reached way) way.once in
        absurd (omega arith)
    go (suc fuel) begun zero way enough = inl (along_ends begun way)
    go (suc fuel) begun (suc r) way enough = elim (cases_eq (occurrences (suc r) (concat done.chains ++ begun)) 0) [
      | inr met ↦ inr (suc r, along_again begun (suc r) way (omega arith) (omega arith))
      | inl new ↦ let longer = length-append (concat done.chains) (begun ++ suc r ∷ []) in
          let by_one = length-append begun (suc r ∷ []) in
          let was = length-append (concat done.chains) begun in
          go fuel (begun ++ suc r ∷ []) (next_record s (suc r)) (along_on begun (suc r) way (omega arith) new) (omega arith)
    ]

    one_position : Chained s (v + 1) ⊎ ((k : ℕ) × ComesAgain s k)
    one_position = go (suc (records s)) [] (first_record s v) (record { leads = here; once = rw (append-nil (concat done.chains)) done.once }) (omega arith)

  all_chains : (v : ℕ) → v ≤ positions s → Chained s v ⊎ ((k : ℕ) × ComesAgain s k)
  all_chains zero h = inl (record { chains = []; whole = record { count = refl; ended = λ u l. absurd (omega arith) }; once = λ j low high. omega arith; within = tt })
  all_chains (suc v) h = elim (all_chains v (omega arith)) [
    | inl done ↦ let next : v + 1 ≡ suc v = omega arith in
        subst (λ n. Chained s n ⊎ ((k : ℕ) × ComesAgain s k)) next (one_position v h done)
    | inr again ↦ inr again
  ]

  all_used : Chained s (positions s) → ((sites : List Site) × Describes s sites) ⊎ ((k : ℕ) × NeverComes s k)
  all_used done = elim (lowest_to (λ j. cases_eq (occurrences j (concat done.chains)) 1) 1 (records s + 1) (omega arith)) [
    | inl all ↦ inl (described s 0 done.chains, (done.chains, record { recorded = recorded; chained = done.whole; each_once = λ k low high. all k low (omega arith) }, refl))
    | inr (k, lowest) ↦ inr (k, record { chains = done.chains; whole = done.whole; once = done.once; lowest = lowest })
  ]

  by_chains : ((sites : List Site) × Describes s sites) ⊎ ((f : SheetFault) × Refuses s f)
  by_chains = elim (all_chains (positions s) (omega arith)) [
    | inr (k, again) ↦ inr (Repeated k, (recorded, again))
    | inl done ↦ elim (all_used done) [ inl read ↦ inl read | inr (k, never) ↦ inr (Unused k, (recorded, never)) ]
  ]

by_records : (s : List ℕ) → Placed s → ((sites : List Site) × Describes s sites) ⊎ ((f : SheetFault) × Refuses s f)
by_records s placed = elim (lowest_to (record_or_not s) 1 (records s + 1) (omega arith)) [
  | inl all ↦ by_chains s (record { placed = placed; each_record = λ k low high. all k low (omega arith) })
  | inr (k, lowest) ↦ inr (Record k, (placed, lowest))
]

by_positions : (s : List ℕ) → Headed s → ((sites : List Site) × Describes s sites) ⊎ ((f : SheetFault) × Refuses s f)
by_positions s headed = elim (lowest_to (position_or_not s) 0 (positions s) (omega arith)) [
  | inl all ↦ by_records s (record { headed = headed; each_position = λ v h. all v (omega arith) h })
  | inr (v, lowest) ↦ inr (Position v, (headed, lowest))
]

by_sizes : (s : List ℕ) → Opened s → ((sites : List Site) × Describes s sites) ⊎ ((f : SheetFault) × Refuses s f)
by_sizes s opened = elim (cases_lt 16 (positions s)) [
  | inl many ↦ inr (Large, (opened, inl many))
  | inr few ↦ elim (cases_lt 48 (records s)) [
    | inl many ↦ inr (Large, (opened, inr many))
    | inr few_records ↦ elim (cases_eq (length s) (4 + 6 * positions s + 3 * records s)) [
      | inl whole ↦ by_positions s (record { sized = record { opened = opened; few_positions = few; few_records = few_records }; whole = whole })
      | inr other ↦ inr (Length, (record { opened = opened; few_positions = few; few_records = few_records }, other))
    ]
  ]
]

read_or_refused : (s : List ℕ) → ((sites : List Site) × Describes s sites) ⊎ ((f : SheetFault) × Refuses s f)
read_or_refused s = elim (cases_lt (length s) 4) [
  | inl short ↦ inr (Short, short)
  | inr long ↦ elim (cases_eq (byte s 0) 1) [
    | inr other ↦ inr (Version, (long, inl other))
    | inl version ↦ elim (cases_eq (byte s 3) 0) [
      | inr other ↦ inr (Version, (long, inr other))
      | inl reserved ↦ by_sizes s (record { long = long; version = version; reserved = reserved })
    ]
  ]
]

pub faults_complete : FaultsComplete
faults_complete = record { read_or_refused = read_or_refused; not_both = not_both; one_arena = one_arena; one_fault = one_fault }
