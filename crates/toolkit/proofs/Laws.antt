-- The laws, gathered.
use Rattle.std.proofs.Common.{◌≡◌, ℕ, Bool, true, sym, ◌∙◌, inl, inr}
use Rattle.std.proofs.lemmas.Bool.{cases_Bool, both_ways}
use Rattle.toolkit.specs.Laws.{Counting, Adding, LeastOrNone, Digits, Walking}
use Rattle.toolkit.proofs.Search.{seek_least}
use Rattle.toolkit.proofs.Counting.{count_at_most, count_monotone, count_strict, count_union, count_positive, count_witness, count_extensional, sum_monotone, sum_strict, sum_at_most}
use Rattle.toolkit.proofs.Digits.{digits_below, digits_quotient, quotient_falls}
use Rattle.toolkit.proofs.Walks.{highest_append, walk_joined, walk_peak, walk_keeps, no_closed_walk}

pub counting : (n : ℕ) → Counting n
counting n = record {
  at_most = count_at_most n;
  monotone = count_monotone n;
  strict = count_strict n;
  union = count_union n;
  positive = λ test. (count_witness n test, λ found. count_positive n test found.0 found.1 found.2);
  extensional = count_extensional n;
}

pub adding : (n : ℕ) → Adding n
adding n = record { monotone = sum_monotone n; strict = sum_strict n; at_most = sum_at_most n }

pub least_or_none : (n : ℕ) (test : ℕ → Bool) → LeastOrNone n test
least_or_none n test = seek_least n (λ i l. cases_Bool (test i))

pub digits_laws_lem : (n k : ℕ) → Digits n k
digits_laws_lem n k = record {
  below = digits_below n k;
  quotient = digits_quotient n k;
  falls = quotient_falls n k;
}

pub walking : (test : ℕ → ℕ → ℕ → Bool) → Walking test
walking test = record {
  joined = λ u v w ps qs one two. (walk_joined one two, highest_append ps qs);
  peak = λ u w p ps walk.
      let peak = walk_peak walk in
      (peak.from, peak.to, peak.before, peak.behind, peak.walk_before, rw (← peak.is_highest) peak.move, peak.walk_behind);
  not_closed = λ rank falls v p ps walk. no_closed_walk rank falls walk;
  one_side = λ set kept v w ps qs there back. elim (cases_Bool (set v)) [
    | inl inside ↦ inside ∙ sym (walk_keeps {In = λ a. set a ≡ true} kept inside there).1
    | inr outside ↦ elim (cases_Bool (set w)) [
      | inl inside ↦ absurd (both_ways (set v) outside (walk_keeps {In = λ a. set a ≡ true} kept inside back).1)
      | inr out ↦ outside ∙ sym out
    ]
  ];
}
