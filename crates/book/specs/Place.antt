-- Where a book said no, beside the number it was refused with: the lowest block, or the first pair of solvents with one CAS number; and what a preview's offered
-- block has in the place of these. Assumes nothing.
use Rattle.std.specs.Prelude.{ℕ, zero, suc, ◌+◌, ◌-◌, ◌/◌, Bool, true, cond, not, ◌&&◌, ◌||◌, List, [], ◌∷◌, ◌++◌, length, drop, slice_index, ◌==◌, nat_le, nat_lt, Option, Some, None, option_and_then, option_map, is_none}
use Rattle.floats.specs.Fold.{all_to}
use Rattle.floats.specs.Outcome.{Out, ok, no}
use Rattle.blocks.specs.Words.{check_right}
use Rattle.book.specs.Places.{words, pair_count, block_count, pair_place}
use Rattle.book.specs.declared.Head.{Head}
use Rattle.book.specs.Book.{head_right, solvent_right, records_right, pair_right, pair_finite, alphas_equal, head_in, whole_blocks, rule_of, book_of}
use Rattle.book.specs.declared.Place.{Place}
use Rattle.book.specs.declared.Place.TheVariants.{Nowhere, Block, Pair, Offered}

-- the lowest k below n of which q is false
unfoldable pub lowest : (ℕ → Bool) → ℕ → Option ℕ
lowest q zero = None
lowest q (suc n) = cond (all_to q n) (cond (q n) None (Some n)) (lowest q n)

-- of i + 1, i + 2 and on to n - 1, how far the first j behind i + 1 is of which q i j is false
abbrev pub first_behind : (ℕ → ℕ → Bool) → ℕ → ℕ → Option ℕ
first_behind q n i = lowest (λ d. q i (i + 1 + d)) (n - i - 1)

-- the first pair of (0, 1), (0, 2) and on to (n - 2, n - 1) of which q is false: the lowest i that has such a j behind it, and its first j
unfoldable pub first_pair : (ℕ → ℕ → Bool) → ℕ → Option (ℕ × ℕ)
first_pair q n =
    option_and_then (λ i. option_map (λ d. (i, i + 1 + d)) (first_behind q n i)) (lowest (λ i. is_none (first_behind q n i)) n)

-- the block behind `before` others
unfoldable pub block_behind : ℕ → Option ℕ → Place
block_behind before (Some k) = Block (before + k)
block_behind before None = Nowhere

-- the two solvents
unfoldable pub solvents_at : Option (ℕ × ℕ) → Place
solvents_at (Some p) = Pair p.0 p.1
solvents_at None = Nowhere

-- the block of a pair
unfoldable pub pair_at : ℕ → Option (ℕ × ℕ) → Place
pair_at n (Some p) = Block (pair_place n p.0 p.1)
pair_at n None = Nowhere

-- 4 to 9, asked of a book that has a block for each solvent and each pair
unfoldable pub place_in : (ℕ → ℕ → ℕ) → Head → ℕ → Place
place_in w h r =
    cond (r == 4) (block_behind 1 (lowest (λ i. solvent_right (w (i + 1)) i) h.n))
    (cond (r == 5) (block_behind 1 (lowest (λ i. records_right (w (i + 1))) h.n))
    (cond (r == 6) (solvents_at (first_pair (λ i j. not (w (i + 1) 2 == w (j + 1) 2)) h.n))
    (cond (r == 7) (pair_at h.n (first_pair (λ i j. pair_right (w (pair_place h.n i j)) i j) h.n))
    (cond (r == 8) (block_behind (1 + h.n) (lowest (λ d. pair_finite h.model (w (1 + h.n + d))) (pair_count h.n)))
    (cond (r == 9) (block_behind (1 + h.n) (lowest (λ d. alphas_equal h.model (w (1 + h.n + d))) (pair_count h.n)))
    Nowhere)))))

-- as many blocks as 1 to 8 solvents need: question 3, by the words of block 0
abbrev pub shaped_by : (ℕ → ℕ) → ℕ → Bool
shaped_by w count = head_right w && (count == block_count (w 2))

-- from the book's bytes
abbrev pub shaped : List ℕ → Bool
shaped s = shaped_by (words s 0) (length s / 512)

-- of a book that is refused with number r; other numbers have no place
unfoldable pub place_of : List ℕ → ℕ → Place
place_of s r =
    cond (not (whole_blocks s)) Nowhere
    (cond (r == 2) (block_behind 0 (lowest (λ k. check_right (rule_of s) (words s k)) (length s / 512)))
    (cond (shaped s) (place_in (words s) (head_in (words s 0)) r) Nowhere))

-- ---- of a preview, and which numbers have which place

-- the offered block is put 1, 2, 7, 8 and 9
abbrev pub put_to_offered : ℕ → Bool
put_to_offered r = (r == 1) || (r == 2) || (r == 7) || (r == 8) || (r == 9)

-- once the book passed, these are the offered block's
unfoldable pub place_past : Out Head → List ℕ → ℕ → Place
place_past (ok h) s r = cond (put_to_offered r) Offered Nowhere
place_past (no q) s r = place_of s r

-- of a preview that is refused with number r
abbrev pub preview_place : List ℕ → ℕ → Place
preview_place s r = place_past (book_of s) s r

-- a number of the book's blocks
abbrev pub put_to_blocks : ℕ → Bool
put_to_blocks r = (r == 2) || (r == 4) || (r == 5) || (r == 7) || (r == 8) || (r == 9)

-- which places a number can have: none, any; the blocks' a block, 6 two solvents, the offered block's that
unfoldable pub can_have : ℕ → Place → Bool
can_have r Nowhere = true
can_have r (Block k) = put_to_blocks r
can_have r (Pair i j) = r == 6
can_have r Offered = put_to_offered r

-- ---- a place as three words: its kind (0 none, 1 a block, 2 a pair, 3 the offered block), then the block or i and j, else 0

unfoldable pub place_words : Place → List ℕ
place_words Nowhere = 0 ∷ 0 ∷ 0 ∷ []
place_words (Block k) = 1 ∷ k ∷ 0 ∷ []
place_words (Pair i j) = 2 ∷ i ∷ j ∷ []
place_words Offered = 3 ∷ 0 ∷ 0 ∷ []

-- at the front of a slice that has room for them
unfoldable pub place_written : Place → List ℕ → List ℕ
place_written p old = cond (nat_le 3 (length old)) (place_words p ++ drop 3 old) old

-- read back; another kind, or fewer words, is no place
unfoldable pub place_from : List ℕ → Place
place_from ws =
    cond (nat_lt (length ws) 3) Nowhere
    (cond (slice_index ws 0 == 1) (Block (slice_index ws 1))
    (cond (slice_index ws 0 == 2) (Pair (slice_index ws 1) (slice_index ws 2))
    (cond (slice_index ws 0 == 3) Offered Nowhere)))
