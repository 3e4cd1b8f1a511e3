-- Mole fractions: the tests of `with_fractions` (15, 16, 18) and `normalize` (34). Assumes nothing.
use Rattle.std.specs.Prelude.{ℕ, Bool, not, List, Float}
use Rattle.std.specs.Float.Ieee.{lt}
use Rattle.floats.specs.Arithmetic.{◌⊖◌, ◌⊘◌, #, 0f, 1f}
use Rattle.floats.specs.Small.{is_finite, positive, abs_of}
use Rattle.floats.specs.Fold.{sum_to, all_to}
use Rattle.floats.specs.Vector.{vec}
use Rattle.floats.specs.Outcome.{Out, ok, need}

-- COMPOSITION_SUM_TOLERANCE, 1e-10
abbrev pub sum_tolerance : Float
sum_tolerance = # 0x3ddb7cdfd9d7bdbb

-- ---- tests of the first n entries
abbrev pub all_finite : (ℕ → Float) → ℕ → Bool
all_finite x n = all_to (λ i. is_finite (x i)) n

abbrev pub none_negative : (ℕ → Float) → ℕ → Bool
none_negative x n = all_to (λ i. not (lt (x i) 0f)) n

abbrev pub all_positive : (ℕ → Float) → ℕ → Bool
all_positive x n = all_to (λ i. lt 0f (x i)) n

-- the sum is 1 within the tolerance
unfoldable pub sums_to_one : (ℕ → Float) → ℕ → Bool
sums_to_one x n = not (lt sum_tolerance (abs_of (sum_to x n ⊖ 1f)))

-- the first n entries are finite (15), not negative (16), and sum to 1 (18): then go on
unfoldable pub with_fractions : {A : Type 0} → (ℕ → Float) → ℕ → Out A → Out A
with_fractions x n next = need (all_finite x n) 15 (need (none_negative x n) 16 (need (sums_to_one x n) 18 next))

-- each of the first n entries over their sum, whatever that is, +0 past them
unfoldable pub shares_of : (ℕ → Float) → ℕ → List Float
shares_of x n = vec (λ i. x i ⊘ sum_to x n) n

-- `normalize`: the shares of a sum that is finite and positive, else 34
unfoldable pub normalize_of : (ℕ → Float) → ℕ → Out (List Float)
normalize_of x n = need (positive (sum_to x n)) 34 (ok (shares_of x n))
