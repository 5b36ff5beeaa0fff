-- Binomials, and a table of them: the rule of the table is tested over all of its entries by one computation.
use Rattle.std.proofs.Common.{◌≡◌, ℕ, zero, suc, ◌+◌, ◌<◌, ◌≤◌, true, eqb, List, [], ◌∷◌, length, get_or, sym, refl, ap, ◌∙◌, add-zero, zero-add, arith}
use Rattle.std.proofs.lemmas.Bool.{and_parts, eqb-true}
use Rattle.rows.specs.Choose.{choose, rule, row_keeps, keeps}

pub choose_over : (a b : ℕ) → a < b → choose a b ≡ 0
choose_over a zero h = omega arith
choose_over zero (suc b) h = refl
choose_over (suc a) (suc b) h =
    let l = choose_over a b (omega arith) in
    let r = choose_over a (suc b) (omega arith) in
    omega arith

pub choose_both : (m n a b : ℕ) → m ≡ n → a ≡ b → choose m a ≡ choose n b
choose_both m n a b e f = ap (λ x. choose x a) e ∙ ap (λ x. choose n x) f

pub choose_all : (n : ℕ) → choose n n ≡ 1
choose_all zero = refl
choose_all (suc n) = let l = choose_all n in let r = choose_over n (suc n) (omega arith) in omega arith

-- a row that keeps the rule ends before column 16, and has what the rule says in each
row_length : (above : List ℕ) (b : ℕ) (ys : List ℕ) → row_keeps above b ys ≡ true → b + length ys ≡ 16
row_length above b [] t = let e = eqb-true b 16 t in omega arith
row_length above b (y ∷ ys) t =
    let e = row_length above (suc b) ys (and_parts (eqb y (rule above b)) (row_keeps above (suc b) ys) t).1 in omega arith

row_at : (above : List ℕ) (b : ℕ) (ys : List ℕ) → row_keeps above b ys ≡ true →
    (i : ℕ) → i < length ys → get_or ys i 0 ≡ rule above (b + i)
row_at above b [] t i h = absurd (omega arith)
row_at above b (y ∷ ys) t zero h =
    eqb-true y (rule above b) (and_parts (eqb y (rule above b)) (row_keeps above (suc b) ys) t).0 ∙ ap (λ n. rule above n) (sym (add-zero b))
row_at above b (y ∷ ys) t (suc i) h =
    row_at above (suc b) ys (and_parts (eqb y (rule above b)) (row_keeps above (suc b) ys) t).1 i (omega arith) ∙
    ap (λ n. rule above n) (omega arith)

-- the row xs has the binomials C(n, b), and the row below one that has them has the next ones
abbrev Gives : ℕ → List ℕ → Type 0
Gives n xs = (b : ℕ) → b ≤ 15 → get_or xs b 0 ≡ choose n b

rule_below : (n : ℕ) (above : List ℕ) → Gives n above → (b : ℕ) → b ≤ 15 → rule above b ≡ choose (suc n) b
rule_below n above w zero h = refl
rule_below n above w (suc b) h = let l = w b (omega arith) in let r = w (suc b) h in omega arith

row_gives : (n : ℕ) (above xs : List ℕ) → row_keeps above 0 xs ≡ true → ((b : ℕ) → b ≤ 15 → rule above b ≡ choose n b) → Gives n xs
row_gives n above xs t w b h =
    let e = row_length above 0 xs t in row_at above 0 xs t b (omega arith) ∙ ap (λ m. rule above m) (zero-add b) ∙ w b h

-- so the rows of a table are the binomials, from row n on if the rule gives those of row n first
rows_give : (n : ℕ) (above : List ℕ) (xss : List (List ℕ)) → keeps above xss ≡ true → ((b : ℕ) → b ≤ 15 → rule above b ≡ choose n b) →
    (a : ℕ) → a < length xss → Gives (n + a) (get_or xss a [])
rows_give n above [] t w a h = absurd (omega arith)
rows_give n above (xs ∷ xss) t w zero h =
    rw add-zero (row_gives n above xs (and_parts (row_keeps above 0 xs) (keeps xs xss) t).0 w)
rows_give n above (xs ∷ xss) t w (suc a) h =
    let parts = and_parts (row_keeps above 0 xs) (keeps xs xss) t in
    let e : n + suc a ≡ suc n + a = omega arith in
    rw e (rows_give (suc n) xs xss parts.1 (rule_below n xs (row_gives n above xs parts.0 w)) a (omega arith))

none_above : (b : ℕ) → rule [] b ≡ choose 0 b
none_above zero = refl
none_above (suc b) = refl

pub entry_is : (xss : List (List ℕ)) → keeps [] xss ≡ true → (a b : ℕ) → a < length xss → b ≤ 15 → get_or (get_or xss a []) b 0 ≡ choose a b
entry_is xss t a b ha hb = rows_give 0 [] xss t (λ b h. none_above b) a ha b hb ∙ ap (λ m. choose m b) (zero-add a)
