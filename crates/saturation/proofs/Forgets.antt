-- Without its count, the dew point is the one of Saturation.antt. Assumes nothing.
use Prim.Native.Nat.{ℕ, zero, suc}
use mathlib.Core.Path.{◌≡◌, refl}
use mathlib.Core.List.{List}
use lib.Ieee.{Float}
use Rattle.floats.specs.Vector.{zeros8}
use Rattle.floats.specs.Outcome.{Out}
use Rattle.counted.specs.Counted.{uncounted, evaluated_after}
use Rattle.counted.proofs.Laws.{forget_bind, forget_choose}
use Rattle.thermo_types.specs.declared.ActivityOptions.{ActivityOptions}
use Rattle.thermo_models.specs.Model.{Activity}
use Rattle.saturation.specs.Saturation.{dew_loop, dew_at}
use Rattle.saturation.specs.Counted.{dew_turn_counted, dew_point_counted, dew_loop_counted, dew_counted}

module _ (E : List Float → Out Activity) (ps : List Float) (n : ℕ) where
  loop-outcome : (y : List Float) (tolerance : Float) (left done : ℕ) (lg : List Float) → (dew_loop_counted E ps n y tolerance left done lg).outcome ≡ dew_loop E ps n y tolerance left done lg
  unfolding dew_loop_counted dew_loop dew_turn_counted dew_point_counted uncounted evaluated_after
  loop-outcome y tolerance zero done lg = refl
  loop-outcome y tolerance (suc left) done lg =
      forget_bind _ _ _ refl (λ a. forget_choose _ _ _ refl (loop-outcome y tolerance left (suc done) a.ln_gamma))

  pub dew-outcome : (o : ActivityOptions) (y : List Float) → (dew_counted E ps n o y).outcome ≡ dew_at E ps n o y
  unfolding dew_counted dew_at
  dew-outcome o y = loop-outcome y o.tolerance o.max_iterations 0 zeros8
