-- Wilson's excess state at a temperature and a composition, or a refusal (13, 15, 16, 18, 25). Assumes nothing.
use Rattle.std.specs.Prelude.{ℕ, List, Float}
use Rattle.floats.specs.Outcome.{Out}
use Rattle.excess.specs.State.{Excess, state_from, with_state}
use Rattle.wilson_tables.specs.Pair.{lambda_ij}
use Rattle.wilson.specs.Sums.{wilson_ln_gamma, wilson_reduced}

-- of the parameters P for n solvents, at t (K) and the mole fractions x
unfoldable pub wilson_of : List Float → ℕ → Float → (ℕ → Float) → Out Excess
wilson_of P n t x = with_state t x n (state_from (wilson_reduced (lambda_ij P t) x n) (wilson_ln_gamma (lambda_ij P t) x n) n t)
