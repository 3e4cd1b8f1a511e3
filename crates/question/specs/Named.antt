-- Which words of a question are read for a book of n solvents, and two questions that differ in no such word. Assumes nothing.
use Rattle.std.specs.Prelude.{◌≡◌, List, Bool, ◌&&◌, ◌||◌, ℕ, ◌+◌, T, eqb, ltb, leb, length}
use Rattle.blocks.specs.Words.{word}

-- 0 to 3, n fractions from 4 on; 12 to 18, n K values from 19 on; 27
unfoldable pub named_asked : ℕ → ℕ → Bool
named_asked n k = ltb k (4 + n) || (leb 12 k && ltb k (19 + n)) || eqb k 27

-- equally long, and equal in every named word
pub record AgreeAsked (q r : List ℕ) (n : ℕ) : Type 0 where
  pub size : length q ≡ length r
  pub same : (k : ℕ) → T (named_asked n k) → word q k ≡ word r k
