-- Where the blocks of a book of n solvents stand: block 0, n solvents, then the pairs (0, 1), (0, 2) and on. Assumes nothing.
use Rattle.std.specs.Prelude.{◌≡◌, ℕ, zero, suc, ◌+◌, ◌-◌, ◌*◌, ◌/◌, ◌<◌, List, [], length, get_or}
use Rattle.blocks.specs.Words.{word, block}

-- the words of block j of a book's bytes
abbrev pub words : List ℕ → ℕ → ℕ → ℕ
words s j = word (block s j)

-- of block j of a book that is read as a slice of blocks
abbrev pub words_in : List (List ℕ) → ℕ → ℕ → ℕ
words_in blocks j = word (get_or blocks j [])

-- the bytes are whole blocks, at least one, and these are they
pub record Whole (s : List ℕ) (blocks : List (List ℕ)) : Type 0 where
  pub some : 0 < length blocks
  pub size : length s ≡ 512 * length blocks
  pub same : (j : ℕ) → get_or blocks j [] ≡ block s j

-- how many pairs i < j
abbrev pub pair_count : ℕ → ℕ
pair_count n = n * (n - 1) / 2

-- how many blocks
abbrev pub block_count : ℕ → ℕ
block_count n = 1 + n + pair_count n

-- the first block of the pairs (i, i + 1), (i, i + 2) and on
unfoldable pub row_from : ℕ → ℕ → ℕ
row_from n zero = 1 + n
row_from n (suc i) = row_from n i + (n - i - 1)

-- the block of the pair (i, j), i < j
unfoldable pub pair_place : ℕ → ℕ → ℕ → ℕ
pair_place n i j = row_from n i + (j - i - 1)
