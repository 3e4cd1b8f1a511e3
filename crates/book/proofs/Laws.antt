-- Laws of questions in a row and of the places of pairs. Assumes nothing.
use Rattle.std.proofs.Common.{◌≡◌, ℕ, zero, suc, ◌+◌, ◌-◌, ◌*◌, ◌%◌, ◌<◌, ◌≤◌, Bool, true, false, ◌&&◌, eqb, ltb, leb, List, length, sym, refl, true≢false, add-one, arith, lt-ltb, eq-eqb, ne_eqb, leb-true}
use Rattle.blocks.specs.declared.Rule.TheVariants.{Plain}
use Rattle.floats.specs.Fold.{all_to}
use Rattle.floats.specs.Outcome.{Out, no, need}
use Rattle.floats.specs.Vector.{places}
use Rattle.floats.proofs.Folds.{all_at}
use Rattle.book.specs.Places.{words, pair_count, block_count, row_from, pair_place}
use Rattle.book.specs.declared.Head.{Head}
use Rattle.book.specs.Book.{head_right, whole_blocks, rule_in, rule_of, book_of}

-- what is no book by question 1
pub no_rule : (s : List ℕ) → false ≡ whole_blocks s → Plain ≡ rule_of s
unfolding rule_of
no_rule s e = rw (← e)

pub no_book : (s : List ℕ) → false ≡ whole_blocks s → no 1 ≡ book_of s
unfolding book_of need
no_book s e = pick (eqb (length s % 512) 0) (ltb 0 (length s)) _ e
  where
    pick : (a b : Bool) (o : Out Head) → false ≡ (a && b) → no 1 ≡ need a 1 (need b 1 o)
    pick true b o e = rw (← e)
    pick false b o e = refl

-- what is one
pub whole_sized : (s : List ℕ) (n : ℕ) → 0 < n → length s ≡ 512 * n → whole_blocks s ≡ true
whole_sized s n h e = let f : length s % 512 ≡ 0 = omega arith in let z : 0 < length s = omega arith in rw (eq-eqb (length s % 512) 0 f, lt-ltb 0 (length s) z)

pub rule-sized : (s : List ℕ) (n : ℕ) → length s ≡ 512 * block_count n → rule_of s ≡ rule_in (words s 0)
unfolding rule_of
rule-sized s n e = rw (whole_sized s (block_count n) (omega arith) e)

-- the rows of pairs end where the book does, and a count of pairs is small: at n up to 8 antt computes it
fitting : ℕ → ℕ → Bool
fitting n i = leb (row_from n i) (block_count n)

pub row_fits : (n i : ℕ) → n ≤ 8 → i ≤ n → row_from n i ≤ block_count n
unfolding fitting all_to row_from
row_fits n i a b =
    leb-true (row_from n i) (block_count n) (all_at (fitting n) (suc n) i (omega arith) (all_at (λ m. all_to (fitting m) (suc m)) 9 n (omega arith) refl))

pub few : (n : ℕ) → n ≤ 8 → n * (n - 1) ≤ 56
unfolding all_to
few n a = leb-true (n * (n - 1)) 56 (all_at (λ m. leb (m * (m - 1)) 56) 9 n (omega arith) refl)

pub row_next : (n i : ℕ) → row_from n (i + 1) ≡ row_from n i + (n - i - 1)
unfolding row_from
row_next n i = rw add-one

-- a row ends within the book, which is short
pub row_ends : (n i : ℕ) {from : ℕ} → n ≤ 8 → i < n → from ≡ row_from n i → (from + (n - i - 1) ≤ block_count n) × (block_count n ≤ 37)
row_ends n i a l e = (omega (arith, e, row_fits n (i + 1) a (omega arith), row_next n i), omega (arith, few n a))

-- the pairs stand behind the solvents
pub row-above : (n i : ℕ) → n < row_from n i
unfolding row_from
row-above n zero = omega arith
row-above n (suc i) = omega (arith, row-above n i)

-- a pair's block stands behind the solvents and in the book
pub place-above : (n i j : ℕ) → n < pair_place n i j
unfolding pair_place
place-above n i j = omega (arith, row-above n i)

pub place-within : (n i j : ℕ) → n ≤ 8 → i < j → j < n → pair_place n i j < block_count n
unfolding pair_place
place-within n i j a h l = omega (arith, row_fits n (i + 1) a (omega arith), row_next n i)

second : (a : Bool) {b : Bool} → a && b ≡ true → b ≡ true
second true e = e
second false e = absurd (true≢false (sym e))

pub head_few : (w : ℕ → ℕ) → head_right w ≡ true → w 2 ≤ 8
unfolding head_right
head_few w h = leb-true (w 2) 8 (second (eqb (w 0) 1 && ltb 0 (w 2)) h)

pub head_count : (w : ℕ → ℕ) {k n : ℕ} → true ≡ head_right w → k ≡ w 2 → n ≡ places k → n ≡ w 2
head_count w h e p = omega (arith, head_few w (sym h))

pub count_no : {count r n m : ℕ} → (count ≡ 1 + n + r → ⊥) → r ≡ pair_count n → n ≡ m → eqb count (block_count m) ≡ false
count_no {count} {r} {n} {m} f e q = ne_eqb count (block_count m) (λ p. f (rw (e, q) p))

pub count_yes : {count r n m : ℕ} → count ≡ 1 + n + r → r ≡ pair_count n → n ≡ m → eqb count (block_count m) ≡ true
count_yes {count} {r} {n} {m} p e q = eq-eqb count (block_count m) (rw (e, q) at p)
