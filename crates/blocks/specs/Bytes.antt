-- Words and blocks as bytes, for writing: the bytes of a word, of a block with its check, and what a slice holds once they are written to it. Assumes nothing.
use Rattle.std.specs.Prelude.{ℕ, zero, suc, ◌+◌, ◌/◌, ◌%◌, cond, List, [], ◌∷◌, ◌++◌, length, take, drop, nat_le, slice_index}
use Rattle.blocks.specs.Words.{sum_by}
use Rattle.blocks.specs.declared.Rule.{Rule}

-- the eight bytes of a word, lowest first
unfoldable pub bytes : ℕ → List ℕ
bytes w =
    w % 256 ∷ w / 256 % 256 ∷ w / 65536 % 256 ∷ w / 16777216 % 256 ∷ w / 4294967296 % 256 ∷ w / 1099511627776 % 256
    ∷ w / 281474976710656 % 256 ∷ w / 72057594037927936 % 256 ∷ []

-- f 0 to f (n - 1) in a row
unfoldable pub row_to : (ℕ → List ℕ) → ℕ → List ℕ
row_to f zero = []
row_to f (suc n) = row_to f n ++ f n

-- a block: words 0 to 62 and their check
unfoldable pub block_bytes : Rule → (ℕ → ℕ) → List ℕ
block_bytes rule w = row_to (λ k. bytes (w k)) 63 ++ bytes (sum_by rule w)

-- word k of an array of words
abbrev pub word_at : List ℕ → ℕ → ℕ
word_at ws k = slice_index ws k

-- a list with `bs` at an index, in the place of what stood there
abbrev pub put : List ℕ → ℕ → List ℕ → List ℕ
put l from bs = take from l ++ bs ++ drop (from + length bs) l

-- a slice once `bs` is written to it at an index: as it was, where `bs` does not fit
unfoldable pub stored : List ℕ → ℕ → List ℕ → List ℕ
stored l from bs = cond (nat_le (from + length bs) (length l)) (put l from bs) l
