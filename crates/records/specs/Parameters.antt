-- The parameters of all ordered pairs in one flat table, six to a pair, w j k being word k of block j. Assumes nothing.
use Rattle.std.specs.Prelude.{List, cond, ℕ, ◌+◌, ◌*◌, ltb, Float, replicate, Option}
use Rattle.blocks.specs.Words.{word}
use Rattle.floats.specs.Arithmetic.{0f}
use Rattle.floats.specs.Fold.{fold_to}
use Rattle.floats.specs.Vector.{fill_from}
use Rattle.floats.specs.Small.{float}
use Rattle.book.specs.declared.Model.{Model}
use Rattle.book.specs.declared.Model.TheVariants.{Nrtl, Wilson}
use Rattle.book.specs.Places.{words, pair_place}
use Rattle.book.specs.Book.{model_of}
use Rattle.records.specs.declared.Terms.{Terms}
use Rattle.records.specs.Offered.{pair_at}

-- NRTL's parameter k in a pair's block: tau's t0 to t3 from word f on, then alpha's a0 and a1, words 11 and 12
unfoldable pub term_in : (ℕ → ℕ) → ℕ → ℕ → Float
term_in w f k = cond (ltb k 4) (float w (f + k)) (float w (7 + k))

-- Wilson's: a and b from word f on, then +0
unfoldable pub wilson_term : (ℕ → ℕ) → ℕ → ℕ → Float
wilson_term w f k = cond (ltb k 2) (float w (f + k)) 0f

-- the model's
unfoldable pub pair_term : Model → (ℕ → ℕ) → ℕ → ℕ → Float
pair_term Nrtl = term_in
pair_term Wilson = wilson_term

-- the word that those of (j, i) start at in the block of i < j: tau_ji's t0, and a_ji
unfoldable pub lower_from : Model → ℕ
lower_from Nrtl = 7
lower_from Wilson = 5

-- of the ordered pair (i, j): in the block of i < j those of (i, j) start at word 3; NRTL has the one alpha, which question 9 found the same both ways
unfoldable pub parameter : Model → (ℕ → ℕ → ℕ) → ℕ → ℕ → ℕ → ℕ → Float
parameter m w n i j k = cond (ltb i j) (pair_term m (w (pair_place n i j)) 3 k) (cond (ltb j i) (pair_term m (w (pair_place n j i)) (lower_from m) k) 0f)

-- where a block is offered for the pair at `place`
abbrev pub offered_parameter : Model → List ℕ → List ℕ → Option ℕ → ℕ → ℕ → ℕ → ℕ → Float
offered_parameter m book offered place n = parameter m (λ k. word (pair_at book offered place k)) n

-- as the code has them
unfoldable pub terms_of : (ℕ → Float) → Terms
terms_of f = record { t0 = f 0; t1 = f 1; t2 = f 2; t3 = f 3; a0 = f 4; a1 = f 5 }

-- row i: f j 0 to f j 5 from (i * 8 + j) * 6 on, for j below n
unfoldable pub parameter_row : (ℕ → ℕ → Float) → ℕ → ℕ → List Float → List Float
parameter_row f n i l = fold_to (λ j (l : List Float). fill_from (f j) ((i * 8 + j) * 6) 6 l) l n

-- both pairs of a block with the words w, its (i, j) from `upper` on
abbrev pub both_of : Model → (ℕ → ℕ) → ℕ → ℕ → List Float → List Float
both_of m w upper lower l = fill_from (pair_term m w 3) upper 6 (fill_from (pair_term m w (lower_from m)) lower 6 l)

-- the pairs (i, j) and (j, i), and those for j below r
abbrev pub parameter_both : (ℕ → ℕ → ℕ → Float) → ℕ → ℕ → List Float → List Float
parameter_both f i j l = fill_from (f j i) ((j * 8 + i) * 6) 6 (fill_from (f i j) ((i * 8 + j) * 6) 6 l)

abbrev pub parameter_border : (ℕ → ℕ → ℕ → Float) → ℕ → ℕ → List Float → List Float
parameter_border f i r l = fold_to (λ j (l : List Float). parameter_both f i j l) l r

-- these rows for i below r, +0 elsewhere
unfoldable pub parameter_rows : (ℕ → ℕ → ℕ → Float) → ℕ → ℕ → List Float
parameter_rows f n r = fold_to (λ i (l : List Float). parameter_row (f i) n i l) (replicate 384 0f) r

-- of a book of n solvents
unfoldable pub parameters_of : List ℕ → ℕ → List Float
parameters_of book n = parameter_rows (parameter (model_of book) (words book) n) n n
