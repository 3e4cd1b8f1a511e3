-- NRTL's excess state at a temperature and a composition, or a refusal (13, 15, 16, 18, 24, 25). Assumes nothing.
use Rattle.std.specs.Prelude.{ℕ, List, Float}
use Rattle.floats.specs.Outcome.{Out, need}
use Rattle.excess.specs.State.{Excess, state_from, with_state}
use Rattle.nrtl_tables.specs.Pair.{tau_at, g_at, alphas_right}
use Rattle.nrtl.specs.Columns.{ln_gamma_j, reduced_j}

-- of the parameters P for n solvents, at t (K) and the mole fractions x
unfoldable pub nrtl_of : List Float → ℕ → Float → (ℕ → Float) → Out Excess
nrtl_of P n t x =
    with_state t x n
    (need (alphas_right P t n) 24
    (state_from (reduced_j (tau_at P t) (g_at P t) x n) (ln_gamma_j (tau_at P t) (g_at P t) x n) n t))
