-- Λ of one ordered pair at a temperature (Wilson 1964). The parameters P are a flat list: a and b of the pair (i, j) from (i * 8 + j) * 6 on.
-- Assumes nothing.
use Rattle.std.specs.Prelude.{ℕ, ◌+◌, ◌*◌, cond, List, eqb, Float}
use Rattle.floats.specs.Arithmetic.{0f, 1f}
use Rattle.floats.specs.Vector.{at}
use Rattle.jet.specs.declared.Jet.{Jet}
use Rattle.jet.specs.Jets.{const_j, add_j, div_j, exp_j}

-- T with its derivatives
unfoldable pub kelvin_j : Float → Jet
kelvin_j t = record { v = t; d = 1f; dd = 0f }

-- a + b / T of the pair at e = i * 8 + j
unfoldable pub ln_lambda_j : List Float → Float → ℕ → Jet
ln_lambda_j P t e = add_j (const_j (at P (e * 6))) (div_j (const_j (at P (e * 6 + 1))) (kelvin_j t))

-- Λ_ij = exp (a_ij + b_ij / T), Λ_ii = 1
unfoldable pub lambda_ij : List Float → Float → ℕ → ℕ → Jet
lambda_ij P t i j = cond (eqb i j) (const_j 1f) (exp_j (ln_lambda_j P t (i * 8 + j)))
