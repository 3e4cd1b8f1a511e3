-- Numbers over their sum pass the tests of `with_fractions` (15, 16, 18): finite, not negative, and their sum is 1 within the tolerance. Assumes nothing.
use Rattle.std.specs.Prelude.{ℕ, ◌<◌, ◌≤◌, ◌≡◌, true, T, Float}
use Rattle.std.specs.Float.{binary64}
use Rattle.std.specs.Float.Ieee.{lt, fits}
use Rattle.floats.specs.Arithmetic.{◌⊘◌, 0f}
use Rattle.floats.specs.Small.{is_finite}
use Rattle.floats.specs.Fold.{sum_to}
use Rattle.thermo_types.specs.Composition.{all_finite, none_negative, sums_to_one}

-- each of the first n entries over their sum, as `normalize_of` stores them
abbrev pub share_of : (ℕ → Float) → ℕ → ℕ → Float
share_of x n i = x i ⊘ sum_to x n

-- where the first n entries are f64s, finite and not negative (a -0 is let in), and their sum is finite and positive
abbrev pub SharesPass : Type 0
SharesPass =
    (x : ℕ → Float) (n : ℕ) → n ≤ 1024 → ((i : ℕ) → i < n → T (fits binary64 (x i))) → all_finite x n ≡ true → none_negative x n ≡ true
    → is_finite (sum_to x n) ≡ true → lt 0f (sum_to x n) ≡ true
    → (all_finite (share_of x n) n ≡ true) × (none_negative (share_of x n) n ≡ true) × (sums_to_one (share_of x n) n ≡ true)
