-- Slices of floats as C lends them, read and written as arrays of eight; outcomes as numbers. Assumes nothing.
use Rattle.std.specs.Prelude.{ℕ, ◌+◌, ◌≡◌, cond, List, leb, length, Float}
use Rattle.floats.specs.Vector.{at, vec, fill}
use Rattle.floats.specs.Outcome.{Out, ok, no}
use Rattle.book.specs.declared.Head.{Head}

-- the first eight entries, NaN past the end
unfoldable pub eight_of : List Float → List Float
eight_of l = vec (at l) 8

-- f 0 to f (count - 1) in the first places of a slice that has them; a shorter one stays as it is
unfoldable pub filled_front : (ℕ → Float) → ℕ → List Float → List Float
filled_front f count old = cond (leb count (length old)) (fill f count old) old

-- 0 for an answer, else the number of the refusal
unfoldable pub outcome_number : {A : Type 0} → Out A → ℕ
outcome_number (ok a) = 0
outcome_number (no r) = r

-- normalised fractions in a slice; a refusal leaves it as it was
unfoldable pub fractions_written : Out (List Float) → List Float → List Float
fractions_written (ok x) old = filled_front (at x) 8 old
fractions_written (no r) old = old

pub record NormalizedGives (o : Out (List Float)) (r : ℕ) (old new : List Float) : Type 0 where
  pub number : r ≡ outcome_number o
  pub fractions : new ≡ fractions_written o old

-- 100 + n for a book of n solvents, else the refusal's number
unfoldable pub book_number : Out Head → ℕ
book_number (ok h) = 100 + h.n
book_number (no r) = r

-- how often the benchmark's call is made: not at all without a temperature
unfoldable pub repeated : Out Float → ℕ → ℕ
repeated (ok t) count = count
repeated (no r) count = 0
