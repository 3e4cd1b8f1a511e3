-- What the functions inside a trial ensure; `liquid_stability` itself is stated by Stability.antt alone. Assumes nothing.
use Rattle.std.specs.Prelude.{ℕ, suc, ◌≡◌, cond, List, Float}
use Rattle.std.specs.Float.Ieee.{lt}
use Rattle.std.specs.declared.ops.ControlFlow.{ControlFlow}
use Rattle.std.specs.declared.ops.ControlFlow.TheVariants.{Break, Continue}
use Rattle.floats.specs.Arithmetic.{0f}
use Rattle.floats.specs.Vector.{at, vec}
use Rattle.floats.specs.Outcome.{Out, ok}
use Rattle.counted.specs.Counted.{Counted, uncounted, evaluated, bind_counted}
use Rattle.numerics.specs.Numerics.{exp_of}
use Rattle.thermo_models.specs.Model.{Activity}
use Rattle.liquid_stability.specs.declared.LiquidStabilityTrial.{LiquidStabilityTrial}
use Rattle.liquid_stability.specs.Counted.{trial_counted}

-- W_i of the solvents present, worked out once for the sums that use it
unfoldable pub amounts_of : List Float → List Float → ℕ → List Float
amounts_of x lnW n = vec (λ i. cond (lt 0f (at x i)) (exp_of (at lnW i)) 0f) n

-- what a turn is followed by: the trial that it ends, or the rest from the next ln W
unfoldable pub after : (List Float → Counted LiquidStabilityTrial) → ControlFlow LiquidStabilityTrial (List Float) → Counted LiquidStabilityTrial
after rest (Break found) = uncounted (ok found)
after rest (Continue lnW) = rest lnW

-- a turn from ln W of the trial near solvent j: it is one evaluation, begun whatever comes of it, and the definition goes on as the turn says
pub record TrialTurn (E : List Float → Out Activity) (threshold : Float) (n : ℕ) (x d : List Float) (j iteration : ℕ) (lnW : List Float)
    (o : Out (ControlFlow LiquidStabilityTrial (List Float))) : Type 0 where
  pub goes : (left done : ℕ) → iteration ≡ suc done
      → trial_counted E threshold n x d j (suc left) done lnW ≡ bind_counted (evaluated o) (after (trial_counted E threshold n x d j left (suc done)))
