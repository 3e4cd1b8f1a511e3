-- Samples of pooled calls, from the bytes of book, question and drums: task 8 on two solvents, K 2 and 0.5, as (d) of docs/FORMAT.md. Assumes nothing.
use Rattle.std.specs.Prelude.{ℕ, ◌≡◌, List, [], ◌∷◌, ◌++◌}
use Rattle.floats.specs.Outcome.{Out, no}
use Rattle.blocks.specs.Bytes.{bytes, word_at, row_to}
use Rattle.replies.specs.Blocks.{answer_room}
use Rattle.samples.specs.Sheets.{½, two, book2, question}
use Rattle.samples.specs.Samples.{halves}
use Rattle.pool.specs.Pool.{pooled_of}

-- a drum from its first counts, 0 behind them
abbrev pub drum : List ℕ → List ℕ
drum counts = row_to (λ i. bytes (word_at counts i)) 8

-- the question's own fractions aren't read
abbrev pub pooled : List ℕ → Out (List ℕ)
pooled drums = pooled_of book2 (question 8 0 0 (two ∷ two ∷ []) 200 (two ∷ ½ ∷ [])) drums answer_room

pub record PoolSamples : Type 0 where
  -- 3 and 1, then 1 and 3 micromoles: 4 of each, and the answer of (d); the third count isn't read
  pub two_drums : pooled (drum (3 ∷ 1 ∷ 7 ∷ []) ++ drum (1 ∷ 3 ∷ [])) ≡ halves
  -- no drum: 31, though the total is 0 too
  pub none : pooled [] ≡ no 31
  -- a drum of zeros: 32
  pub zeros : pooled (drum []) ≡ no 32
  -- counts of 2^64 - 1 and 2, whose sum modulo 2^64 is 1: 32
  pub wraps : pooled (drum (0xffffffffffffffff ∷ []) ++ drum (2 ∷ [])) ≡ no 32
