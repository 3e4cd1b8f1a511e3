-- book2 and question2 are the shorter book and question of book3 and question3: what is asked of closed words is computed, then spread over indices. Assumes nothing.
use Prim.Native.Nat.{ℕ, zero, suc, ◌+◌, ◌*◌, ◌<◌}
use mathlib.Core.Path.{◌≡◌, refl, sym, ap, ◌∙◌, subst}
use mathlib.Core.Bool.{Bool, true, false, ◌||◌}
use mathlib.Core.Logic.{◌⊎◌, inl, inr, ◌≢◌}
use native.Mathlib.Omega.{arith}
use borrow.Author.Tests.{eqb-true, ne_eqb, le-ltb}
use lib.Dec.{T, eqb, ltb}
use lib.ListN.{length}
use Rattle.floats.specs.Fold.{all_to}
use Rattle.floats.proofs.Folds.{all_at}
use Rattle.blocks.specs.Words.{word, block, check_sum, sum_by, check_right}
use Rattle.blocks.specs.Bytes.{bytes, row_to, block_bytes}
use Rattle.book.specs.Places.{words, block_count, row_from, pair_place}
use Rattle.book.specs.Book.{rule_in, rule_of}
use Rattle.striking.specs.Places.{cnt}
use Rattle.striking.specs.Books.{ShorterBook}
use Rattle.striking.specs.Questions.{kept_in, ShorterQuestion, solvents, Shorter}
use Rattle.samples.specs.Sheets.{book2}
use Rattle.samples.specs.Absent.{book3, question3, question2}

-- words 0 to n - 1 are equal but for those that a test names
abbrev alike : (ℕ → Bool) → (ℕ → ℕ) → (ℕ → ℕ) → ℕ → Bool
alike but w w' n = all_to (λ k. but k || eqb (w k) (w' k)) n

alike_at : (but : ℕ → Bool) (w w' : ℕ → ℕ) (n k : ℕ) → alike but w w' n ≡ true → k < n → but k ≡ false → w k ≡ w' k
alike_at but w w' n k h l e = eqb-true (w k) (w' k) (ap (λ (b : Bool). b || eqb (w k) (w' k)) (sym e) ∙ all_at (λ k. but k || eqb (w k) (w' k)) n k l h)

abbrev keep : ℕ → Bool
keep i = kept_in question3 i

record Closed : Type 0 where
  solvents3 : solvents book3 ≡ 3
  absent0 : keep 0 ≡ false
  place1 : cnt keep 1 ≡ 0
  place2 : cnt keep 2 ≡ 1
  kept3 : cnt keep 3 ≡ 2
  size : length book2 ≡ 512 * block_count 2
  checks : all_to (λ b. check_right (rule_of book2) (words book2 b)) (block_count 2) ≡ true
  head : alike (λ k. eqb k 2) (words book3 0) (words book2 0) 63 ≡ true
  count : words book2 0 2 ≡ 2
  solvent1 : alike (λ k. eqb k 1) (words book3 2) (words book2 1) 63 ≡ true
  solvent2 : alike (λ k. eqb k 1) (words book3 3) (words book2 2) 63 ≡ true
  index1 : words book2 1 1 ≡ 0
  index2 : words book2 2 1 ≡ 1
  pair12 : alike (λ k. eqb k 1 || eqb k 2) (words book3 (pair_place 3 1 2)) (words book2 (pair_place 2 0 1)) 63 ≡ true
  pair-i : words book2 (pair_place 2 0 1) 1 ≡ 0
  pair-j : words book2 (pair_place 2 0 1) 2 ≡ 1
  long : length question2 ≡ 512
  check : check_right (rule_of book2) (word question2) ≡ true
  front : alike (λ k. false) (word question3) (word question2) 4 ≡ true
  fraction1 : word question3 5 ≡ word question2 4
  fraction2 : word question3 6 ≡ word question2 5
  options : alike (λ k. ltb k 12) (word question3) (word question2) 19 ≡ true
  ratio1 : word question3 20 ≡ word question2 19
  ratio2 : word question3 21 ≡ word question2 20
  unnamed : alike (λ k. ltb k 27) (word question3) (word question2) 63 ≡ true

closed : Closed
unfolding word block check_sum sum_by check_right bytes row_to block_bytes all_to row_from pair_place rule_in rule_of cnt kept_in
closed = record {
  solvents3 = refl;
  absent0 = refl;
  place1 = refl;
  place2 = refl;
  kept3 = refl;
  size = refl;
  checks = refl;
  head = refl;
  count = refl;
  solvent1 = refl;
  solvent2 = refl;
  index1 = refl;
  index2 = refl;
  pair12 = refl;
  pair-i = refl;
  pair-j = refl;
  long = refl;
  check = refl;
  front = refl;
  fraction1 = refl;
  fraction2 = refl;
  options = refl;
  ratio1 = refl;
  ratio2 = refl;
  unnamed = refl;
}

-- solvents 1 and 2 are kept
kept : (i : ℕ) → i < 3 → T (keep i) → (i ≡ 1) ⊎ (i ≡ 2)
kept zero l t = absurd (subst T closed.absent0 t)
kept (suc zero) l t = inl refl
kept (suc (suc zero)) l t = inr refl
kept (suc (suc (suc i))) l t = absurd (omega arith)

one-two : (i j : ℕ) → i < j → (i ≡ 1) ⊎ (i ≡ 2) → (j ≡ 1) ⊎ (j ≡ 2) → (i ≡ 1) × (j ≡ 2)
one-two i j l (inl a) (inl b) = absurd (omega arith)
one-two i j l (inl a) (inr b) = (a, b)
one-two i j l (inr a) (inl b) = absurd (omega arith)
one-two i j l (inr a) (inr b) = absurd (omega arith)

-- a fact of solvents 1 and 2 holds of each kept one
each : (P : ℕ → ℕ → Type 0) → P 1 0 → P 2 1 → (i : ℕ) → i < 3 → T (keep i) → P i (cnt keep i)
each P a b i l t = go i (kept i l t)
  where
    go : (i : ℕ) → (i ≡ 1) ⊎ (i ≡ 2) → P i (cnt keep i)
    go i (inl e) = rw (e, closed.place1) a
    go i (inr e) = rw (e, closed.place2) b

-- a fact of the pair (1, 2) holds of each kept one
each-pair : (P : ℕ → ℕ → ℕ → ℕ → ℕ → Type 0) → P 1 2 2 0 1 → (i j : ℕ) → i < j → j < 3 → T (keep i) → T (keep j) → P i j (cnt keep 3) (cnt keep i) (cnt keep j)
each-pair P a i j l m t u = go (one-two i j l (kept i (omega arith) t) (kept j m u))
  where
    go : (i ≡ 1) × (j ≡ 2) → P i j (cnt keep 3) (cnt keep i) (cnt keep j)
    go (d, e) = rw (d, e, closed.kept3, closed.place1, closed.place2) a

not_1_2 : (k : ℕ) → k ≢ 1 → k ≢ 2 → (eqb k 1 || eqb k 2) ≡ false
not_1_2 k a b = rw (ne_eqb k 1 a, ne_eqb k 2 b)

shorter-book : ShorterBook (λ i. keep i) 3 book3 book2
shorter-book = record {
  size = rw closed.kept3 closed.size;
  checks = rw (closed.kept3, closed.checks) tt;
  head = λ k l n. alike_at (λ k. eqb k 2) (words book3 0) (words book2 0) 63 k closed.head l (ne_eqb k 2 n);
  count = closed.count ∙ sym closed.kept3;
  solvent = λ i l t k m n. each (λ i p. words book3 (i + 1) k ≡ words book2 (p + 1) k)
      (alike_at (λ k. eqb k 1) (words book3 2) (words book2 1) 63 k closed.solvent1 m (ne_eqb k 1 n))
      (alike_at (λ k. eqb k 1) (words book3 3) (words book2 2) 63 k closed.solvent2 m (ne_eqb k 1 n)) i l t;
  index = λ i l t. each (λ i p. words book2 (p + 1) 1 ≡ p) closed.index1 closed.index2 i l t;
  pair = λ i j l m t u k o a b. each-pair (λ i j n p q. words book3 (pair_place 3 i j) k ≡ words book2 (pair_place n p q) k)
      (alike_at (λ k. eqb k 1 || eqb k 2) (words book3 (pair_place 3 1 2)) (words book2 (pair_place 2 0 1)) 63 k closed.pair12 o (not_1_2 k a b)) i j l m t u;
  pair-i = λ i j l m t u. each-pair (λ i j n p q. words book2 (pair_place n p q) 1 ≡ p) closed.pair-i i j l m t u;
  pair-j = λ i j l m t u. each-pair (λ i j n p q. words book2 (pair_place n p q) 2 ≡ q) closed.pair-j i j l m t u;
}

shorter-question : ShorterQuestion (rule_of book2) (λ i. keep i) 3 question3 question2
shorter-question = record {
  size = closed.long;
  check = rw closed.check tt;
  head = λ k l. alike_at (λ k. false) (word question3) (word question2) 4 k closed.front l refl;
  fraction = λ i l t. each (λ i p. word question3 (4 + i) ≡ word question2 (4 + p)) closed.fraction1 closed.fraction2 i l t;
  options = λ k a l. alike_at (λ k. ltb k 12) (word question3) (word question2) 19 k closed.options l (le-ltb k 12 a);
  ratio = λ i l t. each (λ i p. word question3 (19 + i) ≡ word question2 (19 + p)) closed.ratio1 closed.ratio2 i l t;
  unnamed = λ k a l. alike_at (λ k. ltb k 27) (word question3) (word question2) 63 k closed.unnamed l (le-ltb k 27 a);
}

pub shorter : Shorter book3 question3 book2 question2
shorter = record {
  of_book = subst (λ (n : ℕ). ShorterBook (kept_in question3) n book3 book2) (sym closed.solvents3) shorter-book;
  of_question = subst (λ (n : ℕ). ShorterQuestion (rule_of book2) (kept_in question3) n question3 question2) (sym closed.solvents3) shorter-question;
}
