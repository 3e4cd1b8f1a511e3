-- The places of the solvents kept: the new place of index k is the number of kept indices before it. Assumes nothing.
use Rattle.std.specs.Prelude.{ℕ, zero, suc, Bool, true, false}

abbrev pub tick : Bool → ℕ → ℕ
tick true c = suc c
tick false c = c

-- how many indices below n are kept
unfoldable pub cnt : (ℕ → Bool) → ℕ → ℕ
cnt keep zero = 0
cnt keep (suc n) = tick (keep n) (cnt keep n)
