-- A sheet is read in one way, or refused for one reason.
use Rattle.std.proofs.Common.{◌≡◌, ℕ, zero, suc, pred, ◌+◌, ◌-◌, ◌<◌, ◌≤◌, cond, eqb, ◌⊎◌, List, [], ◌∷◌, ◌++◌, length, get_or, take, sym, refl, ap, ◌∙◌, subst, inl, inr, arith, length-take}
use Rattle.std.specs.List.{concat}
use Rattle.std.proofs.lemmas.List.{get_or-take, ext_get_or}
use Rattle.std.proofs.lemmas.Bool.{cases_order}
use Rattle.game.specs.Lowest.{LowestWithout}
use Rattle.table.specs.Sites.{Site}
use Rattle.sheet.specs.declared.fault.SheetFault.{SheetFault}
use Rattle.sheet.specs.declared.fault.SheetFault.TheVariants.{Short, Version, Large, Length, Position, Record, Repeated, Unused}
use Rattle.sheet.specs.Layout.{positions, records, first_record, Opened, Sized, Headed, Placed, Recorded}
use Rattle.sheet.specs.Chains.{Leads, Chains, occurrences, Fits, described, Describes}
use Rattle.sheet.specs.Chains.Leads.{here, along}
use Rattle.sheet.specs.Refusals.{number_of, place_of, ComesAgain, NeverComes, Refuses}
use Rattle.sheet.proofs.Steps.{occurrences_append, occurs_itself}
use Rattle.sheet.proofs.Gathered.{leads_within}

-- one way ks from a record is the other, or goes on where the other stops
abbrev Goes_on : List ℕ → ℕ → List ℕ → Type 0
Goes_on ks e longer = (1 ≤ e) × ((rest : List ℕ) × (longer ≡ ks ++ e ∷ rest))

two_ways : {s : List ℕ} {a e e' : ℕ} {ks ks' : List ℕ} → Leads s a ks e → Leads s a ks' e' → ((ks ≡ ks') × (e ≡ e')) ⊎ (Goes_on ks e ks' ⊎ Goes_on ks' e' ks)
two_ways here here = inl (refl, refl)
two_ways here (along {ks = ks} some more) = inr (inl (some, (ks, refl)))
two_ways (along {ks = ks} some more) here = inr (inr (some, (ks, refl)))
two_ways (along {k = k} some more) (along other more') = elim (two_ways more more') [
  | inl (same, end) ↦ inl (ap (λ xs. k ∷ xs) same, end)
  | inr (inl (some_e, (rest, e))) ↦ inr (inl (some_e, (rest, ap (λ xs. k ∷ xs) e)))
  | inr (inr (some_e, (rest, e))) ↦ inr (inr (some_e, (rest, ap (λ xs. k ∷ xs) e)))
]

one_chain : {s : List ℕ} {a : ℕ} {ks ks' : List ℕ} → Leads s a ks 0 → Leads s a ks' 0 → ks ≡ ks'
one_chain way way' = elim (two_ways way way') [
  | inl (same, _) ↦ same
  | inr (inl (some, _)) ↦ absurd (omega arith)
  | inr (inr (some, _)) ↦ absurd (omega arith)
]

-- the chains of fewer positions are the first of those of more
chains_take : {s : List ℕ} {v w : ℕ} {chains : List (List ℕ)} → Chains s w chains → v ≤ w → Chains s v (take v chains)
chains_take {s} {v} {chains = chains} whole h = record {
  count = let n = whole.count in length-take v chains ∙ omega arith;
  ended = λ u below. rw (get_or-take v chains u [] below) (whole.ended u (omega arith));
}

one_chains : {s : List ℕ} {v : ℕ} {a b : List (List ℕ)} → Chains s v a → Chains s v b → a ≡ b
one_chains {v = v} {a} {b} left right =
    let n = left.count in
    let m = right.count in
    ext_get_or [] a b (omega arith) (λ i h. one_chain (left.ended i (omega arith)) (right.ended i (omega arith)))

concat_holds : (k : ℕ) (chains : List (List ℕ)) (v : ℕ) → v < length chains → occurrences k (concat (take v chains)) + occurrences k (get_or chains v []) ≤ occurrences k (concat chains)
concat_holds k [] v h = absurd (omega arith)
concat_holds k (c ∷ chains) zero h = let e = occurrences_append k c (concat chains) in omega arith
concat_holds k (c ∷ chains) (suc v) h =
    let a = occurrences_append k c (concat chains) in
    let b = occurrences_append k c (concat (take v chains)) in
    let r = concat_holds k chains v (omega arith) in
    omega arith

-- where a way goes on past record e, e stands once more on it
once_more : (ks rest : List ℕ) (e : ℕ) → occurrences e ks + 1 ≤ occurrences e (ks ++ e ∷ rest)
once_more ks rest e =
    let a = occurrences_append e ks (e ∷ rest) in
    let b = occurrences_append e (e ∷ []) rest in
    let c = occurs_itself e in
    omega arith

-- a record that comes again is twice in the chains that go past it
twice_in : {s : List ℕ} {k w : ℕ} {chains : List (List ℕ)} → (c : ComesAgain s k) → Chains s w chains → c.position < w → 2 ≤ occurrences k (concat chains)
twice_in {s} {k} {w} {chains} c whole past =
    let n = whole.count in
    let same : c.before ≡ take c.position chains = one_chains c.whole (chains_take whole (omega arith)) in
    let parts = concat_holds k chains c.position (omega arith) in
    let split = occurrences_append k (concat c.before) c.begun in
    let again = c.again in
    let front = ap (λ cs. occurrences k (concat cs)) same in
    elim (two_ways c.leads (whole.ended c.position past)) [
      | inl (_, end) ↦ let some = c.record_there in absurd (omega arith)
      | inr (inl (_, (rest, e))) ↦ let more = once_more c.begun rest k in let there = ap (occurrences k) e in omega arith
      | inr (inr (some, _)) ↦ absurd (omega arith)
    ]

comes_in : {s : List ℕ} {k : ℕ} → Recorded s → ComesAgain s k → k ≤ records s
comes_in recorded c = leads_within recorded c.leads (recorded.placed.each_position c.position c.position_there).first

-- of two records that come again, neither comes before the other
not_further : {s : List ℕ} {k j : ℕ} → Recorded s → (c : ComesAgain s k) (d : ComesAgain s j) → c.position < d.position → ⊥
not_further {k = k} recorded c d past =
    let twice = twice_in c d.whole past in
    let split = occurrences_append k (concat d.before) d.begun in
    let once = d.once k c.record_there (comes_in recorded c) in
    omega arith

not_later : {s : List ℕ} {k j : ℕ} → Recorded s → (c : ComesAgain s k) (d : ComesAgain s j) → c.before ≡ d.before → (rest : List ℕ) → d.begun ≡ c.begun ++ k ∷ rest → ⊥
not_later {k = k} recorded c d same rest e =
    let once = d.once k c.record_there (comes_in recorded c) in
    let front = ap (λ cs. occurrences k (concat cs)) same in
    let there = ap (occurrences k) e in
    let more = once_more c.begun rest k in
    let left = occurrences_append k (concat c.before) c.begun in
    let right = occurrences_append k (concat d.before) d.begun in
    let again = c.again in
    omega arith

same_position : {s : List ℕ} {k j : ℕ} → Recorded s → (c : ComesAgain s k) (d : ComesAgain s j) → c.position ≡ d.position → k ≡ j
same_position {s} {k} {j} recorded c d at =
    let whole : Chains s c.position d.before = subst (λ v. Chains s v d.before) (sym at) d.whole in
    let leads : Leads s (first_record s c.position) d.begun j = subst (λ v. Leads s (first_record s v) d.begun j) (sym at) d.leads in
    let same = one_chains c.whole whole in
    elim (two_ways c.leads leads) [
      | inl (_, end) ↦ end
      | inr (inl (_, (rest, e))) ↦ absurd (not_later recorded c d same rest e)
      | inr (inr (_, (rest, e))) ↦ absurd (not_later recorded d c (sym same) rest e)
    ]

one_comes_again : {s : List ℕ} {k j : ℕ} → Recorded s → ComesAgain s k → ComesAgain s j → k ≡ j
one_comes_again recorded c d = elim (cases_order c.position d.position) [
  | inl same ↦ same_position recorded c d same
  | inr (inl past) ↦ absurd (not_further recorded c d past)
  | inr (inr past) ↦ absurd (not_further recorded d c past)
]

one_lowest : {P : ℕ → Type 0} {start end i j : ℕ} → LowestWithout P start end i → LowestWithout P start end j → i ≡ j
one_lowest {i = i} {j} a b = elim (cases_order i j) [
  | inl same ↦ same
  | inr (inl less) ↦ absurd (a.lacks (b.below_have i a.from_start less))
  | inr (inr less) ↦ absurd (b.lacks (a.below_have j b.from_start less))
]

one_never_comes : {s : List ℕ} {k j : ℕ} → NeverComes s k → NeverComes s j → k ≡ j
one_never_comes {s} {k} {j} c d =
    let same = one_chains d.whole c.whole in
    one_lowest c.lowest (subst (λ cs. LowestWithout (λ i. occurrences i (concat cs) ≡ 1) 1 (records s + 1) j) same d.lowest)

-- What holds of a sheet that has come past the faults up to the number.
abbrev Past : List ℕ → ℕ → Type 0
Past s zero = Unit {0}
Past s (suc zero) = 4 ≤ length s
Past s (suc (suc zero)) = Opened s
Past s (suc (suc (suc zero))) = Sized s
Past s (suc (suc (suc (suc zero)))) = Headed s
Past s (suc (suc (suc (suc (suc zero))))) = Placed s
Past s (suc (suc (suc (suc (suc (suc zero)))))) = Recorded s
Past s (suc (suc (suc (suc (suc (suc (suc zero))))))) =
    Recorded s × ((chains : List (List ℕ)) × Chains s (positions s) chains × ((j : ℕ) → 1 ≤ j → j ≤ records s → occurrences j (concat chains) ≤ 1))
Past s (suc (suc (suc (suc (suc (suc (suc (suc n)))))))) = (chains : List (List ℕ)) × Fits s chains

past_before : (s : List ℕ) (n : ℕ) → Past s (suc n) → Past s n
past_before s zero h = tt
past_before s (suc zero) h = h.long
past_before s (suc (suc zero)) h = h.opened
past_before s (suc (suc (suc zero))) h = h.sized
past_before s (suc (suc (suc (suc zero)))) h = h.headed
past_before s (suc (suc (suc (suc (suc zero))))) h = h.placed
past_before s (suc (suc (suc (suc (suc (suc zero)))))) h = h.0
past_before s (suc (suc (suc (suc (suc (suc (suc zero))))))) (chains, fits) =
    (fits.recorded, (chains, fits.chained, λ j low high. let e = fits.each_once j low high in omega arith))
past_before s (suc (suc (suc (suc (suc (suc (suc (suc n)))))))) h = h

past_all : (s : List ℕ) (d n : ℕ) → Past s (d + n) → Past s n
past_all s zero n h = let same : 0 + n ≡ n = omega arith in subst (Past s) same h
past_all s (suc d) n h =
    let next : suc d + n ≡ suc (d + n) = omega arith in
    past_all s d n (past_before s (d + n) (subst (Past s) next h))

-- a fault is given past those before it, and not past itself
came_past : (s : List ℕ) (f : SheetFault) → Refuses s f → Past s (pred (number_of f))
came_past s Short r = tt
came_past s Version r = r.0
came_past s Large r = r.0
came_past s Length r = r.0
came_past s (Position v) r = r.0
came_past s (Record k) r = r.0
came_past s (Repeated k) r = r.0
came_past s (Unused k) r = (r.0, (r.1.chains, r.1.whole, r.1.once))

not_past : (s : List ℕ) (f : SheetFault) → Refuses s f → Past s (number_of f) → ⊥
not_past s Short r h = omega arith
not_past s Version r h = elim r.1 [ inl no_version ↦ no_version h.version | inr not_reserved ↦ not_reserved h.reserved ]
not_past s Large r h = elim r.1 [ inl many ↦ let few = h.few_positions in omega arith | inr many ↦ let few = h.few_records in omega arith ]
not_past s Length r h = r.1 h.whole
not_past s (Position v) r h = r.1.lacks (h.each_position v r.1.before_end)
not_past s (Record k) r h = let end = r.1.before_end in r.1.lacks (h.each_record k r.1.from_start (omega arith))
not_past s (Repeated k) r (recorded, (chains, whole, once)) =
    let twice = twice_in r.1 whole r.1.position_there in
    let one = once k r.1.record_there (comes_in recorded r.1) in
    omega arith
not_past s (Unused k) r (chains, fits) =
    let never = r.1 in
    let end = never.lowest.before_end in
    let same = one_chains fits.chained never.whole in
    never.lowest.lacks (ap (λ cs. occurrences k (concat cs)) (sym same) ∙ fits.each_once k never.lowest.from_start (omega arith))

pub not_both : (s : List ℕ) (sites : List Site) (f : SheetFault) → Describes s sites → Refuses s f → ⊥
not_both s sites f (chains, fits, _) r = not_past s f r (fit_past (number_of f) (number_low f))
  where
    number_low : (f : SheetFault) → number_of f ≤ 8
    number_low Short = omega arith
    number_low Version = omega arith
    number_low Large = omega arith
    number_low Length = omega arith
    number_low (Position v) = omega arith
    number_low (Record k) = omega arith
    number_low (Repeated k) = omega arith
    number_low (Unused k) = omega arith

    fit_past : (n : ℕ) → n ≤ 8 → Past s n
    fit_past n h = let all : 8 - n + n ≡ 8 = omega arith in past_all s (8 - n) n (subst (Past s) (sym all) (chains, fits))

pub one_arena : (s : List ℕ) (a b : List Site) → Describes s a → Describes s b → a ≡ b
one_arena s a b (chains, fits, is) (chains', fits', is') = is ∙ ap (described s 0) (one_chains fits.chained fits'.chained) ∙ sym is'

-- a fault from its number and place
fault_of : ℕ → ℕ → SheetFault
fault_of n p =
    cond (eqb n 1) Short
    (cond (eqb n 2) Version
    (cond (eqb n 3) Large (cond (eqb n 4) Length (cond (eqb n 5) (Position p) (cond (eqb n 6) (Record p) (cond (eqb n 7) (Repeated p) (Unused p)))))))

fault_is : (f : SheetFault) → fault_of (number_of f) (place_of f) ≡ f
unfolding fault_of
fault_is Short = refl
fault_is Version = refl
fault_is Large = refl
fault_is Length = refl
fault_is (Position v) = refl
fault_is (Record k) = refl
fault_is (Repeated k) = refl
fault_is (Unused k) = refl

one_place : (s : List ℕ) (f : SheetFault) (p : ℕ) → Refuses s f → Refuses s (fault_of (number_of f) p) → f ≡ fault_of (number_of f) p
unfolding fault_of
one_place s Short p r r' = refl
one_place s Version p r r' = refl
one_place s Large p r r' = refl
one_place s Length p r r' = refl
one_place s (Position v) p r r' = ap Position (one_lowest r.1 r'.1)
one_place s (Record k) p r r' = ap Record (one_lowest r.1 r'.1)
one_place s (Repeated k) p r r' = ap Repeated (one_comes_again r.0 r.1 r'.1)
one_place s (Unused k) p r r' = ap Unused (one_never_comes r.1 r'.1)

-- no fault is given past another one
not_after : (s : List ℕ) (a b : SheetFault) → Refuses s a → Refuses s b → number_of a < number_of b → ⊥
not_after s a b r r' h =
    let between : pred (number_of b) - number_of a + number_of a ≡ pred (number_of b) = omega arith in
    not_past s a r (past_all s (pred (number_of b) - number_of a) (number_of a) (subst (Past s) (sym between) (came_past s b r')))

pub one_fault : (s : List ℕ) (a b : SheetFault) → Refuses s a → Refuses s b → a ≡ b
one_fault s a b r r' = elim (cases_order (number_of a) (number_of b)) [
  | inl same ↦ let is : b ≡ fault_of (number_of a) (place_of b) = sym (ap (λ n. fault_of n (place_of b)) same ∙ fault_is b) in
      one_place s a (place_of b) r (subst (Refuses s) is r') ∙ sym is
  | inr (inl less) ↦ absurd (not_after s a b r r' less)
  | inr (inr less) ↦ absurd (not_after s b a r' r less)
]
