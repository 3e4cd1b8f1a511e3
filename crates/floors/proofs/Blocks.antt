-- Blocks that both readers take, wherever they stand at the front of a slice: an answer's with its trials, a refusal's, and what is put off. Assumes nothing.
use Prim.Native.Nat.{ℕ, zero, suc, ◌+◌, ◌*◌, ◌^◌, ◌≤◌, ◌<◌}
use mathlib.Core.Path.{◌≡◌, refl, ap, ◌∙◌}
use mathlib.Core.Bool.{Bool, true}
use mathlib.Core.List.{List, [], ◌++◌, append_assoc, append-nil}
use native.Mathlib.Omega.{arith}
use borrow.Author.Tests.{eq-eqb, le-leb}
use lib.ListN.{length, get_or, drop, take, length-append}
use lib.Seq.{take_at}
use Rattle.floats.specs.Fold.{all_to}
use Rattle.floats.specs.Vector.{fill_from}
use Rattle.floats.specs.Outcome.{ok}
use Rattle.floats.proofs.Outcomes.{need_yes, bind_yes}
use Rattle.blocks.specs.declared.Rule.{Rule}
use Rattle.blocks.specs.Words.{word, block}
use Rattle.blocks.specs.Bytes.{word_at, row_to, put, block_bytes}
use Rattle.blocks.proofs.Laws.{length_block-bytes, length_row, block-word}
use Rattle.liquid_stability.specs.Stability.{no_trial}
use Rattle.replies.specs.Blocks.{state_words, answer_words, trial_words, Answer, trial_bytes, answer_bytes, refusal_words, refusal_bytes, put_off_words, put_off_bytes}
use Rattle.readers.specs.Readers.{part_length, trials_right, part_of, floor_words, floor_of, lab_of}
use Rattle.striking.proofs.Written.{Stands, first_of, last_of, inside, in_row, block-is}
use Rattle.floors.specs.Written.{Reads, Readable}

all_true : (p : ℕ → Bool) (n : ℕ) → ((k : ℕ) → k < n → p k ≡ true) → all_to p n ≡ true
unfolding all_to
all_true p zero h = refl
all_true p (suc n) h = rw (all_true p n (λ k l. h k (omega arith)), h n (omega arith))

-- ---- a block of kind 9 and n of kind 10, n in its word 12
module _ (rule : Rule) (w : ℕ → ℕ) (t : ℕ → ℕ → ℕ) (n : ℕ)
    (kind : w 0 ≡ 9) (count : w 12 ≡ n) (few : n ≤ 8) (trial : (k : ℕ) → t k 0 ≡ 10) where
  abbrev trials : List ℕ
  trials = row_to (λ k. block_bytes rule (t k)) n

  abbrev whole : List ℕ
  whole = block_bytes rule w ++ trials

  module _ (rest : List ℕ) where
    abbrev s : List ℕ
    s = whole ++ rest

    long : length whole ≡ part_length n
    long = rw (length-append, length_block-bytes rule w, length_row (λ k. block_bytes rule (t k)) 512 n (λ k. length_block-bytes rule (t k))) (omega arith)

    first : (k : ℕ) → k < 63 → w k < 2 ^ 64 → word s k ≡ w k
    first k l h = rw append_assoc (block-word rule w k (trials ++ rest) l h)

    nine : word s 0 ≡ 9
    nine = first 0 (omega arith) (omega arith) ∙ kind

    counted : word s 12 ≡ n
    counted = first 12 (omega arith) (omega arith) ∙ count

    trial-at : (k : ℕ) → k < n → Stands s (512 * (1 + k)) (block_bytes rule (t k))
    trial-at k l =
        inside (first_of whole rest) (inside (last_of (block_bytes rule w) trials) (in_row (λ k. block_bytes rule (t k)) n k l) refl)
        (omega (arith, length_block-bytes rule w, length_row (λ k. block_bytes rule (t k)) 512 k (λ i. length_block-bytes rule (t i))))

    ten : (k : ℕ) → k < n → word (block s (1 + k)) 0 ≡ 10
    ten k l =
        rw (block-is rule (t k) s (1 + k) (trial-at k l))
        (rw append-nil at (block-word rule (t k) 0 [] (omega arith) (omega (arith, trial k))) ∙ trial k)

    all-ten : trials_right s n ≡ true
    unfolding trials_right
    all-ten = all_true _ n (λ k l. eq-eqb _ 10 (ten k l))

    part-is : part_of s ≡ ok (part_length n)
    unfolding part_of
    part-is =
        need_yes 1 _ (eq-eqb (word s 0) 9 nine)
        ∙ rw counted (need_yes 1 _ (le-leb n 8 few)
        ∙ need_yes 1 _ (le-leb (part_length n) (length s) (rw (length-append, long) (omega arith)))
        ∙ need_yes 1 _ all-ten)

    both : Reads s whole
    unfolding floor_of lab_of
    both = record {
      floor = bind_yes (λ m. ok (floor_words s)) part-is;
      lab = bind_yes (λ m. ok (take m s)) part-is ∙ ap ok (take_at whole rest (part_length n) long);
    }

  pub blocks-read : Readable whole
  blocks-read = record { reads = both }

-- one block, without trials
pub block_reads : (rule : Rule) (w : ℕ → ℕ) → w 0 ≡ 9 → w 12 ≡ 0 → Readable (block_bytes rule w)
unfolding row_to
block_reads rule w kind count = rw append-nil at (blocks-read rule w (λ k i. 10) 0 kind count (omega arith) (λ k. refl))

-- ---- the blocks that calls write
pub answer-reads : (rule : Rule) (task : ℕ) (a : Answer) → a.block.state.trials ≤ 8 → Readable (answer_bytes rule task a)
unfolding answer_bytes trial_bytes answer_words state_words trial_words fill_from
answer-reads rule task a few =
    blocks-read rule (word_at (answer_words task a.block)) (λ k. word_at (trial_words (get_or a.trials k no_trial))) a.block.state.trials
    refl refl few (λ k. refl)

pub refusal-reads : (rule : Rule) (question : List ℕ) (r : ℕ) → Readable (refusal_bytes rule question r)
unfolding refusal_bytes refusal_words
refusal-reads rule question r = block_reads rule (word_at (refusal_words question r)) refl refl

pub put-off-reads : (rule : Rule) → Readable (put_off_bytes rule)
unfolding put_off_bytes put_off_words
put-off-reads rule = block_reads rule (word_at put_off_words) refl refl

-- ---- a slice that begins with such blocks
pub put_reads : (bs l : List ℕ) → Readable bs → Reads (put l 0 bs) bs
put_reads bs l h = h.reads (drop (0 + length bs) l)
