-- `exports::excess_in` meets its contract. Assumes nothing.
use mathlib.Core.Path.{refl}
use Rattle.outcome.proofs.Exits.{met}
use Rattle.exports.proofs.Ways.{number-no}
use Rattle.exports.proofs.States.{excess-no, excess-ok}
use Rattle.exports.proofs.excess_in.Goals as goal

pub returns-in_err-e : goal.returns-in_err-e
returns-in_err-e c = rw (number-no _ (met c.in_err-e.field-0.0 c.from_residual.result c.from_residual.ensures.1))
    (excess-no _ _ _ refl c.book_tables-s.ensures c.in_err-e.ensures refl)

pub returns : goal.returns
returns c = excess-ok _ _ _ refl c.book_tables-s.ensures c.in_ok-e.ensures refl c.validity-a.ensures c.store_state.ensures
