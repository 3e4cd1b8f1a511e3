-- Floats up to the sign of zero, as docs/FORMAT.md compares them: equal, or +0 and -0. Assumes nothing.
use Rattle.std.specs.Prelude.{zero, suc, ◌≡◌, false, pos, Float}
use Rattle.std.specs.Float.{nan, inf, fin}

abbrev pub plus0 : Float
plus0 = fin false 0 (pos 0)

-- every zero is sent to +0, all else is left
unfoldable pub canon : Float → Float
canon nan = nan
canon (inf s) = inf s
canon (fin s zero e) = plus0
canon (fin s (suc m) e) = fin s (suc m) e

infix 50 ◌≈◌
pub record ◌≈◌ (x y : Float) : Type 0 where
  pub is : canon x ≡ canon y
