-- A pair's cells from its parameters are those of the definitions. Assumes nothing.
use Prim.Native.Nat.{ℕ, ◌<◌}
use mathlib.Core.Path.{◌≡◌, refl, ◌∙◌}
use mathlib.Core.Bool.{Bool, true, false}
use mathlib.Core.List.{List}
use borrow.Author.Tests.{eqb-false}
use lib.Dec.{eqb}
use lib.Ieee.{Float}
use Rattle.floats.specs.Arithmetic.{1f}
use Rattle.jet.specs.Jets.{const_j, exp_j}
use Rattle.jet.specs.Planes.{plane_rows}
use Rattle.jet.specs.Lanes.{cell_in, Lists}
use Rattle.jet.proofs.Planes.{rows_same}
use Rattle.wilson_tables.specs.Pair.{ln_lambda_j, lambda_ij}
use Rattle.wilson_tables.specs.Table.{kept_of, lambdas_of}

-- what `Pairs` keeps of one pair, and of a solvent with itself
abbrev pub cells : Float → List Float → ℕ → Float
cells t p = kept_of (exp_j (ln_lambda_j p t 0))

abbrev pub own_cells : ℕ → Float
own_cells = kept_of (const_j 1f)

module _ (S : ℕ → ℕ → List Float) (P : List Float) (n : ℕ) (t : Float) (lists : Lists S n P) where
  cell_is : (i j k : ℕ) → i < n → j < n → cell_in (cells t) own_cells S i j k ≡ kept_of (lambda_ij P t i j) k
  unfolding cell_in lambda_ij ln_lambda_j
  cell_is i j k h l = go (eqb i j) refl
    where
      go : (c : Bool) → eqb i j ≡ c → cell_in (cells t) own_cells S i j k ≡ kept_of (lambda_ij P t i j) k
      go true e = rw e
      go false e = rw (e, lists i j h l (eqb-false i j e))

  pub filled : (old : List Float) {new : List Float} → new ≡ plane_rows (cell_in (cells t) own_cells S) 3 n n old → new ≡ lambdas_of P n t old
  unfolding lambdas_of
  filled old p = p ∙ rows_same 3 n n old (λ i j k h l. cell_is i j k h l)
