-- Two pieces written one behind the other are one piece.
use Rattle.std.proofs.Common.{◌≡◌, ℕ, ◌+◌, ◌-◌, ◌^◌, ◌<◌, ◌≤◌, decimal, lit<, List, ◌++◌, length, take, drop, sym, ap, ◌∙◌, subst, append_assoc, arith, length-append, take-append-drop, drop-drop}
use Rattle.std.proofs.lemmas.Fmt.{length-decimal-le}
use Rattle.text.specs.Output.{Appended, Written}

drop_further : {A : Type 0} (xs ys : List A) (m n : ℕ) → m ≤ n → drop m xs ≡ drop m ys → drop n xs ≡ drop n ys
drop_further xs ys m n h e =
    let far : m + (n - m) ≡ n = omega arith in
    subst (λ k. drop k xs ≡ drop k ys) far (sym (drop-drop (n - m) m xs) ∙ ap (drop (n - m)) e ∙ drop-drop (n - m) m ys)

pub appended_join : {at mid end : ℕ} {p q old between new : List ℕ} → Appended at p old mid between → Appended mid q between end new → Appended at (p ++ q) old end new
appended_join {at} {mid} {end} {p} {q} {old} {between} {new} first second =
    let a = first.end_is in
    let b = second.end_is in
    let c = length-append p q in
    record {
      end_is = omega arith;
      front = second.front ∙ ap (λ xs. xs ++ q) first.front ∙ append_assoc (take at old) p q;
      rest = second.rest ∙ drop_further between old mid end (omega arith) first.rest;
    }

-- a number has at most 20 digits
pub decimal_short : (n : ℕ) → n < 2 ^ 64 → length (decimal n) ≤ 20
decimal_short n h = length-decimal-le 20 n (lit< tt) (omega arith) h

-- what was written from the start on
pub appended_all : {at end : ℕ} {text old before after new : List ℕ} → at ≡ 0 → before ≡ old → new ≡ after → Appended at text before end after → Written text old end new
appended_all {at} {end} {text} {old} {before} {after} {new} start unchanged left all =
    let e = all.end_is in
    let same : end ≡ length text = omega arith in
    let front : take end after ≡ text = all.front ∙ rw start in
    let rest : drop end after ≡ drop (length text) old = all.rest ∙ rw (same, unchanged) in
    record { count = same; bytes = left ∙ sym (take-append-drop end after) ∙ rw (front, rest) }
