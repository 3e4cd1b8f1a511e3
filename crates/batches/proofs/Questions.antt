-- The question with a feed's words in place of words 4 to 11, made: of bytes where question and feeds are. Assumes nothing.
use Prim.Native.Nat.{ℕ, ◌+◌, ◌*◌, ◌^◌, ◌≤◌, ◌<◌}
use mathlib.Core.Path.{◌≡◌, subst, sym, ap, ◌∙◌}
use mathlib.Core.Logic.{◌⊎◌, inl, inr}
use mathlib.Core.Bool.{Bool, true, false, not}
use mathlib.Core.List.{List, [], append-nil}
use native.Mathlib.Omega.{arith}
use borrow.Author.Tests.{eq-eqb}
use lib.Dec.{T, ltb, ltb→lt, nltb→le}
use lib.ListN.{length, take, drop, length-take, length-drop, get_or-eq_default}
use lib.Seq.{drop_at, get_or-take, get_or-drop}
use Rattle.blocks.specs.declared.Rule.{Rule}
use Rattle.blocks.specs.Words.{Bytes, byte, word, sum_by, check_right}
use Rattle.blocks.specs.Bytes.{bytes, row_to, put, block_bytes}
use Rattle.blocks.proofs.Laws.{length_bytes, length_words, word_bytes, block-check, sum_same}
use Rattle.blocks.proofs.Small.{append-bytes, block-bytes, word_small}
use Rattle.exchanges.proofs.Places.{put_before, put-inside, put-behind, word-by}
use Rattle.batch.specs.Feeds.{feed_count}
use Rattle.batches.specs.Alone.{WithFeed, fed, with_feed, FeedQuestion}
use Rattle.batches.proofs.Parts.{put-long}

-- ---- parts of bytes are bytes
take_bytes : (n : ℕ) (s : List ℕ) → Bytes s → Bytes (take n s)
take_bytes n s h = record { small = λ i. go i (ltb i n) (ltb→lt i n) (nltb→le i n) }
  where
    go : (i : ℕ) (b : Bool) → (T b → i < n) → (T (not b) → n ≤ i) → byte (take n s) i < 256
    go i true f g = rw (get_or-take n s i 0 (f tt)) (h.small i)
    go i false f g =
        let l : length (take n s) ≤ i = simp length-take (omega (arith, g tt)) in
        rw (get_or-eq_default (take n s) 0 l) (omega arith)

drop-bytes : (n : ℕ) (s : List ℕ) → Bytes s → Bytes (drop n s)
drop-bytes n s h = record { small = λ i. rw (get_or-drop n s i 0) (h.small (n + i)) }

put-bytes : (l : List ℕ) (from : ℕ) (bs : List ℕ) → Bytes l → Bytes bs → Bytes (put l from bs)
put-bytes l from bs h g = append-bytes _ _ (append-bytes _ _ (take_bytes from l h) g) (drop-bytes (from + length bs) l h)

-- a check is the last word of a block: it fits, and its eight are bytes
check-small : (rule : Rule) (w : ℕ → ℕ) → sum_by rule w < 2 ^ 64
check-small rule w =
    let e : word (block_bytes rule w) 63 ≡ sum_by rule w = rw append-nil at (block-check rule w []) in
    rw (← e) ((word_small (block_bytes rule w) (block-bytes rule w)).fits 63)

check-bytes : (rule : Rule) (w : ℕ → ℕ) → Bytes (bytes (sum_by rule w))
unfolding block_bytes
check-bytes rule w =
    let front = row_to (λ i. bytes (w i)) 63 in
    subst Bytes (drop_at front (bytes (sum_by rule w)) 504 (length_words w 63)) (drop-bytes 504 (block_bytes rule w) (block-bytes rule w))

module _ (rule : Rule) (question feeds : List ℕ) (k : ℕ) (size : length question ≡ 512) (below : k < feed_count feeds) where
  feed : List ℕ
  feed = take 64 (drop (64 * k) feeds)

  feed-long : length feed ≡ 64
  unfolding feed
  feed-long = simp (length-take, length-drop) (omega arith)

  abbrev with : List ℕ
  with = fed question feeds k

  with-long : length with ≡ 512
  unfolding feed
  with-long = put-long question feed 32 (omega (arith, feed-long)) ∙ size

  abbrev check : ℕ
  check = sum_by rule (word with)

  abbrev asked : List ℕ
  asked = with_feed rule question feeds k

  -- ---- of the words of feed and question
  with-feed : (i : ℕ) → i < 8 → word with (4 + i) ≡ word feeds (8 * k + i)
  unfolding word feed
  with-feed i l =
      word-by feeds with (8 * (4 + i)) (8 * (8 * k + i)) (λ j m.
      let a : 8 * (4 + i) + j ≡ 32 + (8 * i + j) = omega arith in
      let b : 64 * k + (8 * i + j) ≡ 8 * (8 * k + i) + j = omega arith in
      ap (λ (x : ℕ). byte with x) a ∙ put-inside question feed 32 (omega arith) (8 * i + j) (omega (arith, feed-long))
      ∙ get_or-take 64 (drop (64 * k) feeds) (8 * i + j) 0 (omega arith) ∙ get_or-drop (64 * k) feeds (8 * i + j) 0 ∙ ap (λ (x : ℕ). byte feeds x) b)

  with-other : (j : ℕ) → (j < 4) ⊎ (12 ≤ j) → word with j ≡ word question j
  unfolding word feed
  with-other j (inl h) = word-by question with (8 * j) (8 * j) (λ i m. put_before question feed 32 (omega arith) (8 * j + i) (omega arith))
  with-other j (inr h) = word-by question with (8 * j) (8 * j) (λ i m. put-behind question feed 32 (omega arith) (8 * j + i) (omega (arith, feed-long)))

  -- ---- with the check
  asked-long : length asked ≡ length with
  unfolding with_feed
  asked-long = put-long with (bytes check) 504 (omega (arith, length_bytes check, with-long))

  asked-other : (j : ℕ) → j < 63 → word asked j ≡ word with j
  unfolding word with_feed
  asked-other j l = word-by with asked (8 * j) (8 * j) (λ i m. put_before with (bytes check) 504 (omega (arith, with-long)) (8 * j + i) (omega arith))

  asked-check : word asked 63 ≡ check
  unfolding word with_feed
  asked-check =
      word-by (bytes check) asked 504 0 (λ i m.
      let z : 0 + i ≡ i = omega arith in
      put-inside with (bytes check) 504 (omega (arith, with-long)) i (omega (arith, length_bytes check)) ∙ ap (λ (x : ℕ). byte (bytes check) x) (sym z))
      ∙ word_bytes check (check-small rule (word with))

  check-right : check_right rule (word asked) ≡ true
  unfolding check_right
  check-right = eq-eqb _ _ (sum_same rule (word asked) (word with) asked-other ∙ sym asked-check)

  made : WithFeed rule question feeds k asked
  made = record {
    size = size ∙ sym (asked-long ∙ with-long);
    fraction = λ i l. asked-other (4 + i) (omega arith) ∙ with-feed i l;
    others = λ j l h. sym (asked-other j l ∙ with-other j h);
    check = check-right;
  }

  of_bytes : Bytes question → Bytes feeds → Bytes asked
  unfolding with_feed
  of_bytes h g =
      put-bytes with 504 (bytes check)
      (put-bytes question 32 (take 64 (drop (64 * k) feeds)) h (take_bytes 64 (drop (64 * k) feeds) (drop-bytes (64 * k) feeds g)))
      (check-bytes rule (word with))

pub feed-question : FeedQuestion
feed-question rule question feeds k size below = (made rule question feeds k size below, of_bytes rule question feeds k size below)
