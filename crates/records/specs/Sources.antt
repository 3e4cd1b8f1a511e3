-- A book's own pairs as a source of parameters for tables: six to an ordered pair. Assumes nothing.
use Rattle.std.specs.Prelude.{ℕ, ◌≡◌, ◌<◌, List, [], ◌∷◌, get_or, Float}
use Rattle.blocks.specs.Words.{block}
use Rattle.book.specs.declared.Model.{Model}
use Rattle.book.specs.Places.{words_in, block_count}
use Rattle.records.specs.declared.Terms.{Terms}
use Rattle.records.specs.Parameters.{parameter, terms_of}

unfoldable pub six_in : Terms → List Float
six_in t = t.t0 ∷ t.t1 ∷ t.t2 ∷ t.t3 ∷ t.a0 ∷ t.a1 ∷ []

-- of the ordered pair (i, j) of n solvents, by the model m, in a book read as a slice of blocks
unfoldable pub six_by : Model → List (List ℕ) → ℕ → ℕ → ℕ → List Float
six_by m blocks n i j = six_in (terms_of (parameter m (words_in blocks) n i j))

-- the blocks, for m solvents, are those of a book of n
pub record Reads (blocks : List (List ℕ)) (m : ℕ) (book : List ℕ) (n : ℕ) : Type 0 where
  pub count : m ≡ n
  pub same : (k : ℕ) → k < block_count n → get_or blocks k [] ≡ block book k
