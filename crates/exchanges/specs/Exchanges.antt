-- Two neighbouring words of a block are exchanged: the book is then refused, as a law for each version. Assumes nothing.
use Rattle.std.specs.Prelude.{ℕ, ◌+◌, ◌*◌, ◌/◌, ◌<◌, ◌≡◌, ◌≢◌, true, List, ◌++◌, length, take, drop}
use Rattle.floats.specs.Fold.{all_to}
use Rattle.floats.specs.Outcome.{ok, no}
use Rattle.blocks.specs.Words.{Bytes, check_right}
use Rattle.blocks.specs.Bytes.{put}
use Rattle.book.specs.declared.Head.{Head}
use Rattle.book.specs.Places.{words, block_count}
use Rattle.book.specs.Book.{version_right, head_right, whole_blocks, rule_of, book_of}

-- the bytes of a book with the eight of word k of block j and the eight behind them exchanged
unfoldable pub exchange : List ℕ → ℕ → ℕ → List ℕ
exchange s j k =
    let at = 512 * j + 8 * k in
    put s at (take 8 (drop (at + 8) s) ++ take 8 (drop at s))

-- bytes that are a book of a version as far as 1, 38, 2 and 3 go
pub record Passes (version : ℕ) (s : List ℕ) : Type 0 where
  pub bytes : Bytes s
  pub says : words s 0 1 ≡ version
  pub whole : whole_blocks s ≡ true
  pub known : version_right (words s 0) ≡ true
  pub checks : all_to (λ b. check_right (rule_of s) (words s b)) (length s / 512) ≡ true
  pub head : head_right (words s 0) ≡ true
  pub count : length s / 512 ≡ block_count (words s 0 2)

-- in a book of that version any two unequal neighbouring words among 0 to 62 of a block are exchanged: it is refused, with some number
abbrev pub Exchanges : ℕ → Type 0
Exchanges version =
    (s : List ℕ) (j k : ℕ) → Passes version s → j < length s / 512 → k < 62 → words s j k ≢ words s j (k + 1)
    → (r : ℕ) × (book_of (exchange s j k) ≡ no r)

-- a book of that version that is accepted, and refused by its checks once two unequal neighbours are exchanged
pub record Catches (version : ℕ) : Type 0 where
  pub book : List ℕ
  pub j : ℕ
  pub k : ℕ
  pub passes : Passes version book
  pub taken : (h : Head) × (book_of book ≡ ok h)
  pub there : j < length book / 512
  pub among : k < 62
  pub unequal : words book j k ≢ words book j (k + 1)
  pub refused : book_of (exchange book j k) ≡ no 2
