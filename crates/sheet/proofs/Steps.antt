-- Going along a chain, one record at a time.
use Rattle.std.proofs.Common.{◌≡◌, ℕ, ◌+◌, ◌<◌, ◌≤◌, cond, eqb, Bool, true, false, List, [], ◌∷◌, ◌++◌, map, length, get_or, set, sym, refl, ap, ◌∙◌, inl, inr, add-zero, arith, length-set, get_or-set_other, get_or-set_same}
use Rattle.std.proofs.lemmas.List.{map-append}
use Rattle.std.proofs.lemmas.List.Sums.{sum_by-append, sum_by-cons}
use Rattle.std.proofs.lemmas.Bool.{cases_eq, eq-eqb, ne_eqb, true≢false}
use Rattle.game.specs.declared.Arc.{Arc}
use Rattle.sheet.specs.Layout.{records, next_record, Recorded}
use Rattle.sheet.specs.Chains.{Leads, occurrences, arc_of}
use Rattle.sheet.specs.Chains.Leads.{here, along}
use Rattle.sheet.specs.Reading.{bit, MarksAdded}

-- one record more
pub leads_more : {s : List ℕ} {e k : ℕ} {ks : List ℕ} → Leads s e ks k → 1 ≤ k → Leads s e (ks ++ k ∷ []) (next_record s k)
leads_more here h = along h here
leads_more (along l more) h = along l (leads_more more h)

pub occurrences_append : (k : ℕ) (xs ys : List ℕ) → occurrences k (xs ++ ys) ≡ occurrences k xs + occurrences k ys
occurrences_append k xs ys = sum_by-append (λ j. cond (eqb k j) 1 0) xs ys

pub occurrences_cons : (k j : ℕ) (ks : List ℕ) → occurrences k (j ∷ ks) ≡ cond (eqb k j) 1 0 + occurrences k ks
occurrences_cons k j ks = sum_by-cons (λ j. cond (eqb k j) 1 0) j ks

pub occurs_itself : (k : ℕ) → occurrences k (k ∷ []) ≡ 1
occurs_itself k = occurrences_cons k k [] ∙ rw (eq-eqb k k refl)

pub occurs_apart : (j k : ℕ) → (j ≡ k → ⊥) → occurrences j (k ∷ []) ≡ 0
occurs_apart j k apart = occurrences_cons j k [] ∙ rw (ne_eqb j k apart)

-- a mark that was not there is added
pub marks_more : (old now : List Bool) (ks : List ℕ) (k : ℕ) → MarksAdded old now ks → length now ≡ 49 → k < 49 → get_or now k false ≡ false → MarksAdded old (set now k true) (ks ++ k ∷ [])
marks_more old now ks k marks long within unmarked = record {
  each = λ j h. elim (cases_eq j k) [
    | inl same ↦ let before = marks.each k within in
        let count = occurrences_append k ks (k ∷ []) in
        let itself = occurs_itself k in
        let fits : k < length now = omega arith in
        let set_there : get_or (set now k true) k false ≡ true = get_or-set_same now k true false fits in
        rw (same, set_there) (sum_is (get_or now k false) (bit (get_or old k false)) (occurrences k ks) (occurrences k (ks ++ k ∷ [])) (occurrences k (k ∷ [])) unmarked before count itself)
    | inr apart ↦ let before = marks.each j h in
        let count = occurrences_append j ks (k ∷ []) in
        let none = occurs_apart j k apart in
        rw (get_or-set_other now k j true false apart) (omega arith)
  ];
}
  where
    sum_is : (b : Bool) (x y z w : ℕ) → b ≡ false → bit b ≡ x + y → z ≡ y + w → w ≡ 1 → 1 ≡ x + z
    sum_is true x y z w e h count itself = absurd (true≢false e)
    sum_is false x y z w e h count itself = omega arith

-- How far the chain that begins at record first has been gone along: to record reached, over records whose arcs are these.
pub record UnderWay (s : List ℕ) (first : ℕ) (old now : List Bool) (reached : ℕ) (arcs : List Arc) : Type 0 where
  pub begun : List ℕ
  pub leads : Leads s first begun reached
  pub marked : MarksAdded old now begun
  pub arcs_are : arcs ≡ map (arc_of s) begun
  pub within : reached ≤ records s
  pub as_many : length now ≡ 49

module _ (s : List ℕ) (first : ℕ) (recorded : Recorded s) where
  pub way_begins : (old : List Bool) → first ≤ records s → length old ≡ 49 → UnderWay s first old old first []
  way_begins old there long = record {
    begun = [];
    leads = here;
    marked = record { each = λ k h. sym (add-zero (bit (get_or old k false))) };
    arcs_are = refl;
    within = there;
    as_many = long;
  }

  -- a record has a mark of its own
  pub way_room : {old now : List Bool} {reached : ℕ} {arcs : List Arc} → UnderWay s first old now reached arcs → reached < 49
  way_room way = let h = way.within in let few = recorded.placed.headed.sized.few_records in omega arith

  pub way_goes_on : {old now : List Bool} {reached : ℕ} {arcs : List Arc} → UnderWay s first old now reached arcs → 1 ≤ reached → get_or now reached false ≡ false → UnderWay s first old (set now reached true) (next_record s reached) (arcs ++ arc_of s reached ∷ [])
  way_goes_on {old} {now} {reached} way some unmarked = record {
    begun = way.begun ++ reached ∷ [];
    leads = leads_more way.leads some;
    marked = marks_more old now way.begun reached way.marked way.as_many (way_room way) unmarked;
    arcs_are = ap (λ xs. xs ++ arc_of s reached ∷ []) way.arcs_are ∙ sym (map-append (arc_of s) way.begun (reached ∷ []));
    within = (recorded.each_record reached some way.within).next;
    as_many = length-set now reached true ∙ way.as_many;
  }
