-- Loops over the indices 0 to n - 1, in order, for every n: folds, sums and tests. Assumes nothing.
use Rattle.std.specs.Prelude.{ℕ, zero, suc, Bool, true, cond, ◌&&◌, Float}
use Rattle.std.specs.Float.Ieee.{lt}
use Rattle.floats.specs.Arithmetic.{◌⊕◌, 0f}

-- step (n - 1) (.. (step 1 (step 0 s)))
unfoldable pub fold_to : {S : Type 0} → (ℕ → S → S) → S → ℕ → S
fold_to step s zero = s
fold_to step s (suc n) = step n (fold_to step s n)

-- a + f 0 + f 1 + .. + f (n - 1), in that order
abbrev pub sum_from : Float → (ℕ → Float) → ℕ → Float
sum_from a f n = fold_to (λ k (s : Float). s ⊕ f k) a n

-- the sum from +0
abbrev pub sum_to : (ℕ → Float) → ℕ → Float
sum_to f n = sum_from 0f f n

-- a step at the positive entries of z alone
abbrev pub active : {S : Type 0} → (ℕ → Float) → (ℕ → S → S) → ℕ → S → S
active z f i s = cond (lt 0f (z i)) (f i s) s

-- a test of every index below n
unfoldable pub all_to : (ℕ → Bool) → ℕ → Bool
all_to p zero = true
all_to p (suc n) = all_to p n && p n
