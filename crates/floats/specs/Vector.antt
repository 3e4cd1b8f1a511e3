-- Arrays as lists: an entry, arrays filled in index order, arrays of eight, flat tables with rows of eight. Assumes nothing.
use Rattle.std.specs.Prelude.{ℕ, zero, suc, ◌+◌, ◌*◌, min, List, get_or, set, replicate, Float}
use Rattle.std.specs.Float.{nan}
use Rattle.floats.specs.Arithmetic.{0f}

-- entry k; past the end a NaN, as the code's own reading has it
abbrev pub at : List Float → ℕ → Float
at l k = get_or l k nan

-- entry (i, j) of a flat table with rows of eight
abbrev pub at8 : List Float → ℕ → ℕ → Float
at8 l i j = at l (i * 8 + j)

module _ {A : Type 0} where
  -- f 0 to f (n - 1), stored from index `from` on
  unfoldable pub fill_from : (ℕ → A) → ℕ → ℕ → List A → List A
  fill_from f from zero l = l
  fill_from f from (suc n) l = set (fill_from f from n l) (from + n) (f n)

  -- the first k rows of n entries each, in a flat table with rows of eight
  unfoldable pub fill_rows : (ℕ → ℕ → A) → ℕ → ℕ → List A → List A
  fill_rows f n zero l = l
  fill_rows f n (suc k) l = fill_from (f k) (k * 8) n (fill_rows f n k l)

  -- f 0 to f (n - 1), stored from the front
  unfoldable pub fill : (ℕ → A) → ℕ → List A → List A
  fill f zero l = l
  fill f (suc n) l = set (fill f n l) n (f n)

abbrev pub zeros8 : List Float
zeros8 = replicate 8 0f

-- an array of eight: f 0 to f (n - 1), and +0 past them
abbrev pub vec : (ℕ → Float) → ℕ → List Float
vec f n = fill f n zeros8

-- how many of eight places a count n takes: a count past eight is read as eight
abbrev pub places : ℕ → ℕ
places n = min n 8
