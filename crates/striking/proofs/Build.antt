-- The book and the question that specs/Build.antt makes are the shorter ones, and are bytes. Assumes nothing.
use mathlib.Core.Path.{◌≡◌, refl, sym, ◌∙◌}
use mathlib.Core.Logic.{◌≢◌, inl, inr}
use mathlib.Core.Bool.{Bool, true, false, not, cond, ◌&&◌}
use mathlib.Core.List.{List, ◌++◌}
use Prim.Native.Nat.{ℕ, zero, suc, ◌+◌, ◌-◌, ◌*◌, ◌%◌, ◌^◌, ◌≤◌, ◌<◌}
use native.Mathlib.Nat.{le_refl, le_trans, eq-or-lt_of_le}
use native.Mathlib.Numerals.{add-one}
use native.Mathlib.Omega.{arith}
use borrow.Author.Tests.{lt-ltb, le-ltb, le-leb, lt-leb, eq-eqb, ne_eqb}
use lib.ListN.{length, length-append}
use lib.Dec.{T, eqb, ltb, leb, ltb→lt, nltb→le}
use lib.Ieee.Bits.{is_true}
use Rattle.floats.specs.Outcome.{Out, ok, no, bind}
use Rattle.blocks.specs.Words.{Bytes, word, check_right}
use Rattle.blocks.specs.Bytes.{row_to, block_bytes}
use Rattle.blocks.proofs.Laws.{length_row, length_block-bytes}
use Rattle.blocks.proofs.Small.{Small, word_small, words_small, append-bytes, row-bytes, block-bytes}
use Rattle.book.specs.Places.{words, block_count, row_from, pair_place}
use Rattle.book.specs.Book.{rule_in, rule_of, book_of}
use Rattle.book.specs.declared.Head.{Head}
use Rattle.blocks.specs.declared.Rule.{Rule}
use Rattle.sheet.specs.Sheet.{sheet_of}
use Rattle.book.proofs.Laws.{row_fits}
use Rattle.book.proofs.Accepted as open-book
use Rattle.striking.specs.Places.{cnt}
use Rattle.striking.specs.Books.{ShorterBook}
use Rattle.striking.specs.Questions.{ShorterQuestion, Shorter, kept_in, solvents}
use Rattle.striking.specs.Build.{kept_at, change, head_words, solvent_words, pair_words, pair_row, shorter_book, move_up, shorter_question, shorter_of, shorter_ask}
use Rattle.striking.specs.Theorem.{Accepted}
use Rattle.striking.proofs.Strike.{cnt_lt}
use Rattle.striking.proofs.Acc.{all_of}
use Rattle.striking.proofs.Excess.{cnt_le}
use Rattle.striking.proofs.Books.{PairOf, found, rows_end}
use Rattle.striking.proofs.Written.{Stands, first_of, last_of, inside, in_row, written-word, written-check, read_word, read-check}

cond_small : (b : Bool) (x y : ℕ) → x < 2 ^ 64 → y < 2 ^ 64 → cond b x y < 2 ^ 64
cond_small true x y p q = p
cond_small false x y p q = q

-- ---- the index at a place
at_place : (keep : ℕ → Bool) (n i : ℕ) → i < n → T (keep i) → kept_at keep n (cnt keep i) ≡ i
unfolding kept_at
at_place keep zero i l t = absurd (omega arith)
at_place keep (suc n) i l t = elim (eq-or-lt_of_le l) [
  | inl e ↦ let d : n ≡ i = omega arith in rw (d, eq-eqb (cnt keep i) (cnt keep i) refl, is_true (keep i) t)
  | inr m ↦ let h : i < n = omega arith in
      let q : cnt keep i < cnt keep n = cnt_lt keep i n t h in
      rw (ne_eqb (cnt keep n) (cnt keep i) (λ (z : cnt keep n ≡ cnt keep i). omega arith)) (at_place keep n i h t)
]

-- ---- a change of one word
module _ (f x : ℕ) (w : ℕ → ℕ) where
  change-at : change f x w f ≡ x
  unfolding change
  change-at = rw (eq-eqb f f refl)

  change-other : (k : ℕ) → k ≢ f → change f x w k ≡ w k
  unfolding change
  change-other k d = rw (ne_eqb k f d)

  change-small : x < 2 ^ 64 → Small w → Small (change f x w)
  unfolding change
  change-small p q = record { fits = λ k. cond_small (eqb k f) x (w k) p (q.fits k) }

-- ---- the book: where each block stands
module _ (keep : ℕ → Bool) (n : ℕ) (book : List ℕ) where
  abbrev rule : Rule
  rule = rule_in (words book 0)

  solvents-long : (k : ℕ) → length (row_to (λ k. block_bytes rule (solvent_words keep n book k)) k) ≡ k * 512
  solvents-long k = length_row (λ k. block_bytes rule (solvent_words keep n book k)) 512 k (λ k. length_block-bytes rule (solvent_words keep n book k))

  row-long : (i d : ℕ) → length (row_to (λ d. block_bytes rule (pair_words keep n book i (i + 1 + d))) d) ≡ d * 512
  row-long i d = length_row (λ d. block_bytes rule (pair_words keep n book i (i + 1 + d))) 512 d (λ d. length_block-bytes rule (pair_words keep n book i (i + 1 + d)))

  front_long : length (block_bytes rule (head_words keep n book) ++ row_to (λ k. block_bytes rule (solvent_words keep n book k)) (cnt keep n)) ≡ 512 * (1 + cnt keep n)
  front_long = rw (length-append, length_block-bytes, solvents-long (cnt keep n)) (omega arith)

  rows_long : (i : ℕ) → 512 * (1 + cnt keep n) + length (row_to (pair_row keep n book) i) ≡ 512 * row_from (cnt keep n) i
  unfolding row_to row_from pair_row
  rows_long zero = omega arith
  rows_long (suc i) = rw (length-append, row-long i (cnt keep n - i - 1)) (omega (arith, rows_long i))

  head_at : Stands (shorter_book keep n book) (512 * 0) (block_bytes rule (head_words keep n book))
  unfolding shorter_book
  head_at = inside (first_of _ _) (first_of _ _) (omega arith)

  solvent-at : (k : ℕ) → k < cnt keep n → Stands (shorter_book keep n book) (512 * (k + 1)) (block_bytes rule (solvent_words keep n book k))
  unfolding shorter_book
  solvent-at k l =
      inside (first_of _ _) (inside (last_of (block_bytes rule (head_words keep n book)) _) (in_row (λ k. block_bytes rule (solvent_words keep n book k)) (cnt keep n) k l) refl)
      (omega (arith, length_block-bytes rule (head_words keep n book), solvents-long k))

  pair_in_row : (i j : ℕ) → i < j → j < cnt keep n → Stands (pair_row keep n book i) (512 * (j - i - 1)) (block_bytes rule (pair_words keep n book i j))
  unfolding pair_row
  pair_in_row i j l m =
      let e : i + 1 + (j - i - 1) ≡ j = omega arith in
      let f : length (row_to (λ d. block_bytes rule (pair_words keep n book i (i + 1 + d))) (j - i - 1)) ≡ 512 * (j - i - 1) = omega (arith, row-long i (j - i - 1)) in
      rw (e, f) at (in_row (λ d. block_bytes rule (pair_words keep n book i (i + 1 + d))) (cnt keep n - i - 1) (j - i - 1) (omega arith))

  pair-at : (i j : ℕ) → i < j → j < cnt keep n → Stands (shorter_book keep n book) (512 * pair_place (cnt keep n) i j) (block_bytes rule (pair_words keep n book i j))
  unfolding shorter_book pair_place
  pair-at i j l m =
      inside (last_of (block_bytes rule (head_words keep n book) ++ row_to (λ k. block_bytes rule (solvent_words keep n book k)) (cnt keep n)) _)
      (inside (in_row (pair_row keep n book) (cnt keep n) i (omega arith)) (pair_in_row i j l m) refl) (omega (arith, front_long, rows_long i))

  pub book-bytes : Bytes (shorter_book keep n book)
  unfolding shorter_book pair_row
  book-bytes =
      append-bytes _ _ (append-bytes _ _ (block-bytes rule (head_words keep n book)) (row-bytes _ (cnt keep n) (λ k. block-bytes rule (solvent_words keep n book k))))
      (row-bytes (pair_row keep n book) (cnt keep n) (λ i. row-bytes _ (cnt keep n - i - 1) (λ d. block-bytes rule (pair_words keep n book i (i + 1 + d)))))

  -- ---- the book: what is read of each block
  module _ (few : n ≤ 8) (h : Bytes book) where
    fewer : cnt keep n ≤ 8
    fewer = le_trans (cnt_le keep n) few

    head_small : Small (head_words keep n book)
    head_small = change-small 2 (cnt keep n) _ (omega (arith, fewer)) (words_small book h 0)

    solvent-small : (k : ℕ) → k < cnt keep n → Small (solvent_words keep n book k)
    solvent-small k l = change-small 1 k _ (omega (arith, fewer)) (words_small book h (kept_at keep n k + 1))

    pair_small : (i j : ℕ) → i < j → j < cnt keep n → Small (pair_words keep n book i j)
    pair_small i j l m =
        change-small 1 i _ (omega (arith, fewer)) (change-small 2 j _ (omega (arith, fewer)) (words_small book h (pair_place n (kept_at keep n i) (kept_at keep n j))))

    head_read : (f : ℕ) → f < 63 → words (shorter_book keep n book) 0 f ≡ head_words keep n book f
    head_read = read_word rule (head_words keep n book) head_small _ 0 head_at

    solvent-read : (i : ℕ) → i < n → T (keep i) → (f : ℕ) → f < 63 → words (shorter_book keep n book) (cnt keep i + 1) f ≡ change 1 (cnt keep i) (words book (i + 1)) f
    solvent-read i l t f u =
        let m : cnt keep i < cnt keep n = cnt_lt keep i n t l in
        read_word rule (solvent_words keep n book (cnt keep i)) (solvent-small (cnt keep i) m) _ (cnt keep i + 1) (solvent-at (cnt keep i) m) f u ∙ rw (at_place keep n i l t)

    pair_read : (i j : ℕ) → i < j → j < n → T (keep i) → T (keep j) → (f : ℕ) → f < 63
        → words (shorter_book keep n book) (pair_place (cnt keep n) (cnt keep i) (cnt keep j)) f ≡ change 1 (cnt keep i) (change 2 (cnt keep j) (words book (pair_place n i j))) f
    pair_read i j l m p q f u =
        let a : cnt keep i < cnt keep j = cnt_lt keep i j p l in
        let b : cnt keep j < cnt keep n = cnt_lt keep j n q m in
        let e : i < n = omega arith in
        read_word rule (pair_words keep n book (cnt keep i) (cnt keep j)) (pair_small _ _ a b) _ (pair_place (cnt keep n) (cnt keep i) (cnt keep j)) (pair-at _ _ a b) f u
        ∙ rw (at_place keep n i e p, at_place keep n j m q)

    pair-check : (b : ℕ) → PairOf (cnt keep n) b → T (check_right rule (words (shorter_book keep n book) b))
    pair-check b r =
        rw r.stands
        (read-check rule (pair_words keep n book r.first r.second) (pair_small _ _ r.ordered r.below) _ (pair_place (cnt keep n) r.first r.second) (pair-at _ _ r.ordered r.below))

    each-check : (b : ℕ) → b < block_count (cnt keep n) → T (check_right rule (words (shorter_book keep n book) b))
    each-check zero l = read-check rule (head_words keep n book) head_small _ 0 head_at
    each-check (suc k) l = go (ltb k (cnt keep n)) (ltb→lt k (cnt keep n)) (nltb→le k (cnt keep n))
      where
        go : (b : Bool) → (T b → k < cnt keep n) → (T (not b) → cnt keep n ≤ k) → T (check_right rule (words (shorter_book keep n book) (suc k)))
        go true f g = rw add-one at (read-check rule (solvent_words keep n book k) (solvent-small k (f tt)) _ (k + 1) (solvent-at k (f tt)))
        go false f g = pair-check (suc k) (found (cnt keep n) (suc k) (cnt keep n) (le_refl (cnt keep n)) (omega (arith, g tt)) (omega (arith, rows_end (cnt keep n) fewer)))

    book-long : length (shorter_book keep n book) ≡ 512 * block_count (cnt keep n)
    unfolding shorter_book
    book-long = rw length-append (omega (arith, front_long, rows_long (cnt keep n), rows_end (cnt keep n) fewer, row_fits (cnt keep n) (cnt keep n) fewer (le_refl (cnt keep n))))

    -- the rule that its blocks were made by is its own
    pub built_rule : rule_of (shorter_book keep n book) ≡ rule
    unfolding rule_of rule_in
    built_rule =
        let b = shorter_book keep n book in
        let kind : words b 0 0 ≡ words book 0 0 = head_read 0 (omega arith) ∙ change-other 2 _ _ 0 (λ (z : 0 ≡ 2). omega arith) in
        let version : words b 0 1 ≡ words book 0 1 = head_read 1 (omega arith) ∙ change-other 2 _ _ 1 (λ (z : 1 ≡ 2). omega arith) in
        let whole : length b % 512 ≡ 0 = omega (arith, book-long) in
        let long : 0 < length b = omega (arith, book-long) in
        rw (eq-eqb (length b % 512) 0 whole, lt-ltb 0 (length b) long, kind, version)

    pub builds-book : ShorterBook keep n book (shorter_book keep n book)
    builds-book = record {
      size = book-long;
      checks = rw built_rule (all_of (λ b. check_right rule (words (shorter_book keep n book) b)) (block_count (cnt keep n)) each-check);
      head = λ k l d. sym (head_read k l ∙ change-other 2 _ _ k d);
      count = head_read 2 (omega arith) ∙ change-at 2 _ _;
      solvent = λ i l t k u d. sym (solvent-read i l t k u ∙ change-other 1 _ _ k d);
      index = λ i l t. solvent-read i l t 1 (omega arith) ∙ change-at 1 _ _;
      pair = λ i j l m p q k u d e. sym (pair_read i j l m p q k u ∙ change-other 1 _ _ k d ∙ change-other 2 _ _ k e);
      pair-i = λ i j l m p q. pair_read i j l m p q 1 (omega arith) ∙ change-at 1 _ _;
      pair-j = λ i j l m p q. pair_read i j l m p q 2 (omega arith) ∙ change-other 1 _ _ 2 (λ (z : 2 ≡ 1). omega arith) ∙ change-at 2 _ _;
    }

-- ---- the question
module _ (keep : ℕ → Bool) (n f : ℕ) (w : ℕ → ℕ) where
  moved-small : Small w → Small (move_up keep n f w)
  unfolding move_up
  moved-small h = record {
    fits = λ k. cond_small (leb f k && ltb k (f + 8)) _ _ (cond_small (ltb (k - f) (cnt keep n)) _ 0 (h.fits (f + kept_at keep n (k - f))) (omega arith)) (h.fits k);
  }

  moved-kept : n ≤ 8 → (i : ℕ) → i < n → T (keep i) → move_up keep n f w (f + cnt keep i) ≡ w (f + i)
  unfolding move_up
  moved-kept few i l t =
      let m : cnt keep i < cnt keep n = cnt_lt keep i n t l in
      let e : f + cnt keep i - f ≡ cnt keep i = omega arith in
      rw (le-leb f (f + cnt keep i) (omega arith), lt-ltb (f + cnt keep i) (f + 8) (omega (arith, cnt_le keep n)), e, lt-ltb (cnt keep i) (cnt keep n) m, at_place keep n i l t)

  moved_before : (k : ℕ) → k < f → move_up keep n f w k ≡ w k
  unfolding move_up
  moved_before k l = rw (lt-leb f k l)

  moved-behind : (k : ℕ) → f + 8 ≤ k → move_up keep n f w k ≡ w k
  unfolding move_up
  moved-behind k l = rw (le-leb f k (omega arith), le-ltb k (f + 8) l)

module _ (rule : Rule) (keep : ℕ → Bool) (n : ℕ) (question : List ℕ) where
  pub question-bytes : Bytes (shorter_question rule keep n question)
  unfolding shorter_question
  question-bytes = block-bytes rule _

  pub builds-question : n ≤ 8 → Bytes question → ShorterQuestion rule keep n question (shorter_question rule keep n question)
  unfolding shorter_question
  builds-question few h =
      let r = written-word rule (move_up keep n 4 (move_up keep n 19 (word question))) small in
      record {
        size = length_block-bytes rule _;
        check = written-check rule _ small;
        head = λ k l. sym (r k (omega arith) ∙ moved_before keep n 4 _ k l ∙ moved_before keep n 19 _ k (omega arith));
        fraction = λ i l t. sym (r (4 + cnt keep i) (below i 4 l (omega arith)) ∙ moved-kept keep n 4 _ few i l t ∙ moved_before keep n 19 _ (4 + i) (omega arith));
        options = λ k l m. sym (r k (omega arith) ∙ moved-behind keep n 4 _ k l ∙ moved_before keep n 19 _ k m);
        ratio = λ i l t. sym (r (19 + cnt keep i) (below i 19 l (omega arith)) ∙ moved-behind keep n 4 _ (19 + cnt keep i) (omega arith) ∙ moved-kept keep n 19 _ few i l t);
        unnamed = λ k l m. sym (r k m ∙ moved-behind keep n 4 _ k (omega arith) ∙ moved-behind keep n 19 _ k l);
      }
    where
      small : Small (move_up keep n 4 (move_up keep n 19 (word question)))
      small = moved-small keep n 4 _ (moved-small keep n 19 _ (word_small question h))

      below : (i f : ℕ) → i < n → f ≤ 19 → f + cnt keep i < 63
      below i f l m = omega (arith, cnt_le keep i)

-- ---- both, of any book that says it has up to 8 solvents
pub builds : (book question : List ℕ) → solvents book ≤ 8 → Bytes book → Bytes question → Shorter book question (shorter_of book question) (shorter_ask book question)
builds book question few b q = record {
  of_book = builds-book (kept_in question) (solvents book) book few b;
  of_question = rw (built_rule (kept_in question) (solvents book) book few b) (builds-question (rule_in (words book 0)) (kept_in question) (solvents book) question few q);
}

-- so of every accepted call
few_of : (book : List ℕ) (o : Out Head) → book_of book ≡ o → (k : Head → Out (List ℕ)) → Accepted (bind o k) → solvents book ≤ 8
unfolding Accepted bind
few_of book (no r) e k h = absurd h
few_of book (ok g) e k h = let a = open-book.accepted book e in omega (arith, a.few, a.count)

pub accepted-builds : (book question : List ℕ) (room : ℕ) → Accepted (sheet_of book question room) → Bytes book → Bytes question
    → Shorter book question (shorter_of book question) (shorter_ask book question)
unfolding sheet_of
accepted-builds book question room a b q = builds book question (few_of book (book_of book) refl _ a) b q
