-- The words of a block from the words that were made one by one, and the length of an answer. Assumes nothing.
use Prim.Native.Nat.{ℕ, ◌+◌, ◌*◌, ◌^◌, ◌≤◌, ◌<◌}
use mathlib.Core.Path.{◌≡◌, refl, sym, ◌∙◌}
use mathlib.Core.List.{List, ◌++◌, append_assoc}
use native.Mathlib.Omega.{arith}
use borrow.Author.Tests.{le-leb}
use lib.ListN.{length, get_or, length-append}
use Rattle.floats.specs.Vector.{fill_from}
use Rattle.blocks.specs.declared.Rule.{Rule}
use Rattle.blocks.specs.Words.{word}
use Rattle.blocks.specs.Bytes.{word_at}
use Rattle.blocks.proofs.Laws.{length_block-bytes, length_row, block-word}
use Rattle.liquid_stability.specs.Stability.{no_trial}
use Rattle.replies.specs.declared.AnswerBlock.{AnswerBlock}
use Rattle.replies.specs.Blocks.{state_words, answer_words, trial_words, Answer, trial_bytes, answer_bytes, answer_length}

-- ---- an answer's bytes say their own length
trials-word : (task : ℕ) (b : AnswerBlock) → word_at (answer_words task b) 12 ≡ b.state.trials
unfolding answer_words state_words fill_from
trials-word task b = refl

pub answer_length_lem : (rule : Rule) (task : ℕ) (a : Answer) (rest : List ℕ) → a.block.state.trials ≤ 8 → answer_length (answer_bytes rule task a ++ rest) ≡ length (answer_bytes rule task a)
unfolding answer_length answer_bytes trial_bytes
answer_length_lem rule task a rest h =
    let k = a.block.state.trials in
    let w = word_at (answer_words task a.block) in
    let t : w 12 ≡ k = trials-word task a.block in
    let l : w 12 < 2 ^ 64 = omega arith in
    let e : word (answer_bytes rule task a ++ rest) 12 ≡ k = rw append_assoc (block-word rule w 12 _ (omega arith) l ∙ t) in
    let n : length (answer_bytes rule task a) ≡ 512 * (1 + k) =
    rw (length-append, length_block-bytes rule w, length_row (trial_bytes rule a.trials) 512 k (λ i. length_block-bytes rule (word_at (trial_words (get_or a.trials i no_trial))))) (omega arith) in
    rw (e, le-leb k 8 h) (sym n)
