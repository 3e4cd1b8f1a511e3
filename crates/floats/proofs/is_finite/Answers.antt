-- `floats::is_finite` meets its contract, by cases on x.
use mathlib.Core.Path.{◌≡◌, refl}
use mathlib.Core.Bool.{true, false, false≢true, true≢false}
use lib.Ieee.{Float, nan, inf, fin, binary64, of_bits, lt}
use Rattle.floats.specs.Small.{is_finite}
use Rattle.floats.proofs.is_finite.Goals as goal

below : (x : Float) → lt x (of_bits binary64 0x7ff0000000000000) ≡ true → lt (of_bits binary64 0xfff0000000000000) x ≡ is_finite x
unfolding lt of_bits is_finite
below nan h = absurd (false≢true h)
below (inf true) h = refl
below (inf false) h = absurd (false≢true h)
below (fin s m e) h = refl

above : (x : Float) → lt x (of_bits binary64 0x7ff0000000000000) ≡ false → false ≡ is_finite x
unfolding lt of_bits is_finite
above nan h = refl
above (inf s) h = refl
above (fin s m e) h = absurd (true≢false h)

pub returns-then-x : goal.returns-then-x
returns-then-x c = below c.args.x c.if-x.true

pub returns-else-x : goal.returns-else-x
returns-else-x c = rw c.if-x.false (above c.args.x c.if-x.false)
