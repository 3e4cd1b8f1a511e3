-- The shorter book (docs/FORMAT.md, "The shorter sheet"), and what of it the calculations read: the data of the solvents kept, and of the pairs of two of them.
-- Assumes nothing.
use Rattle.std.specs.Prelude.{ℕ, ◌+◌, ◌*◌, ◌≤◌, ◌<◌, ◌≡◌, Bool, List, ◌≢◌, length, T}
use Rattle.floats.specs.Fold.{all_to}
use Rattle.blocks.specs.Words.{check_right}
use Rattle.book.specs.Places.{words, block_count, pair_place}
use Rattle.book.specs.Book.{rule_of}
use Rattle.book.specs.declared.Head.{Head}
use Rattle.striking.specs.Places.{cnt}

-- words 3 to 44 of a solvent's block: its two correlations
pub record KeptSolvents (keep : ℕ → Bool) (n : ℕ) (book book' : List ℕ) : Type 0 where
  pub solvent : (i : ℕ) → i < n → T (keep i) → (k : ℕ) → 3 ≤ k → k ≤ 44 → words book (i + 1) k ≡ words book' (cnt keep i + 1) k

-- words 3 to 18 of a pair's block: the model's parameters, the interval
pub record KeptPairs (keep : ℕ → Bool) (n : ℕ) (book book' : List ℕ) : Type 0 where
  pub pair : (i j : ℕ) → i < j → j < n → T (keep i) → T (keep j) → (k : ℕ) → 3 ≤ k → k ≤ 18 → words book (pair_place n i j) k ≡ words book' (pair_place (cnt keep n) (cnt keep i) (cnt keep j)) k

-- the shorter book s' of a book s of n solvents: block 0 with the count of kept solvents, their blocks, and the pairs of two kept ones, in the old order. Index, i and j
-- are places among the kept; all other words stand; checks are right
pub record ShorterBook (keep : ℕ → Bool) (n : ℕ) (s s' : List ℕ) : Type 0 where
  pub size : length s' ≡ 512 * block_count (cnt keep n)
  pub checks : T (all_to (λ b. check_right (rule_of s') (words s' b)) (block_count (cnt keep n)))
  pub head : (k : ℕ) → k < 63 → k ≢ 2 → words s 0 k ≡ words s' 0 k
  pub count : words s' 0 2 ≡ cnt keep n
  pub solvent : (i : ℕ) → i < n → T (keep i) → (k : ℕ) → k < 63 → k ≢ 1 → words s (i + 1) k ≡ words s' (cnt keep i + 1) k
  pub index : (i : ℕ) → i < n → T (keep i) → words s' (cnt keep i + 1) 1 ≡ cnt keep i
  pub pair : (i j : ℕ) → i < j → j < n → T (keep i) → T (keep j) → (k : ℕ) → k < 63 → k ≢ 1 → k ≢ 2 → words s (pair_place n i j) k ≡ words s' (pair_place (cnt keep n) (cnt keep i) (cnt keep j)) k
  pub pair-i : (i j : ℕ) → i < j → j < n → T (keep i) → T (keep j) → words s' (pair_place (cnt keep n) (cnt keep i) (cnt keep j)) 1 ≡ cnt keep i
  pub pair-j : (i j : ℕ) → i < j → j < n → T (keep i) → T (keep j) → words s' (pair_place (cnt keep n) (cnt keep i) (cnt keep j)) 2 ≡ cnt keep j

-- what its block 0 says: the count of kept solvents, all else as it was
unfoldable pub shorter_head : (ℕ → Bool) → Head → Head
shorter_head keep h = record { n = cnt keep h.n; version = h.version; model = h.model }
