-- `exports::excess_at` meets its contract: the book's questions, the temperature's, then the state. Assumes nothing.
use mathlib.Core.Path.{◌≡◌, refl, sym}
use native.Mathlib.Omega.{arith}
use Rattle.floats.specs.Outcome.{bind}
use Rattle.floats.specs.Vector.{places}
use Rattle.outcome.proofs.Exits.{met}
use Rattle.book.proofs.Accepted.{accepted}
use Rattle.exports.specs.Slices.{outcome_number}
use Rattle.exports.specs.Models.{excess_at, excess_from, excess_written}
use Rattle.exports.proofs.Ways.{number-no}
use Rattle.exports.proofs.excess_at.Goals as goal

pub returns-in_err-head : goal.returns-in_err-head
unfolding excess_at bind outcome_number excess_written
returns-in_err-head c = rw (← c.in_err-head.ensures)
    (record { number = number-no _ (met c.in_err-head.field-0.0 c.from_residual.result c.from_residual.ensures.1); floats = refl })

pub returns-in_err-kelvin : goal.returns-in_err-kelvin
unfolding excess_at excess_from bind outcome_number excess_written
returns-in_err-kelvin c = rw (← c.in_ok-head.ensures, ← c.in_err-kelvin.ensures)
    (record { number = number-no _ (met c.in_err-kelvin.field-0.0 c.from_residual-in_err-kelvin.result c.from_residual-in_err-kelvin.ensures.1); floats = refl })

pub returns : goal.returns
unfolding excess_at excess_from bind
returns c = let n = c.in_ok-head.head.n in
    let few : places n ≡ n = omega (arith, (accepted _ (sym c.in_ok-head.ensures)).few) in
    rw (← c.in_ok-head.ensures, ← c.in_ok-kelvin.ensures, ← c.eight.ensures) (rw few at c.excess_in.ensures)
