-- `exports::zektonk_normalize` meets its contract. Assumes nothing.
use mathlib.Core.Path.{◌≡◌, refl}
use native.Mathlib.Omega.{arith}
use borrow.Author.Tests.{le-leb}
use lib.Ieee.{nan}
use lib.ListN.{length}
use Rattle.floats.proofs.Copies.{copied-front}
use Rattle.exports.specs.Slices.{outcome_number, fractions_written, filled_front}
use Rattle.exports.proofs.zektonk_normalize.Goals as goal

pub returns-in-Some : goal.returns-in-Some
unfolding outcome_number fractions_written filled_front
returns-in-Some c = let h = c.in-Some.ensures.cases.enough in let few : length c.in-Ok.fractions ≡ 8 = omega arith in
    rw (← c.eight.ensures, ← c.in-Ok.ensures) (record { number = refl; fractions = rw (le-leb 8 _ h) (copied-front _ nan 8 _ few h) })
