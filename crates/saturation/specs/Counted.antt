-- The dew point with the evaluations of E that it begins: the steps of Saturation.antt, counted. Assumes nothing.
use Rattle.std.specs.Prelude.{ℕ, zero, suc, List, Float}
use Rattle.std.specs.Float.Ieee.{le}
use Rattle.floats.specs.Vector.{zeros8}
use Rattle.floats.specs.Outcome.{Out, no}
use Rattle.counted.specs.Counted.{Counted, uncounted, evaluated_after, bind_counted, choose_counted}
use Rattle.thermo_types.specs.declared.ActivityOptions.{ActivityOptions}
use Rattle.thermo_models.specs.Model.{Activity}
use Rattle.saturation.specs.Saturation.{Dew, dew_liquid, change_of, dew_turn, dew_point}

module _ (E : List Float → Out Activity) (ps : List Float) (n : ℕ) where
  -- a turn, and the last step: the activity at the incipient liquid, once that is there (34)
  unfoldable pub dew_turn_counted : List Float → List Float → Counted Activity
  dew_turn_counted y lg = evaluated_after (dew_liquid y ps lg n) (dew_turn E ps n y lg)

  unfoldable pub dew_point_counted : List Float → List Float → ℕ → Counted Dew
  dew_point_counted y lg iteration = evaluated_after (dew_liquid y ps lg n) (dew_point E ps n y lg iteration)

  -- `dew_loop`
  unfoldable pub dew_loop_counted : List Float → Float → ℕ → ℕ → List Float → Counted Dew
  dew_loop_counted y tolerance zero done lg = uncounted (no 27)
  dew_loop_counted y tolerance (suc left) done lg =
      bind_counted (dew_turn_counted y lg) (λ a.
      choose_counted (le (change_of y a.ln_gamma lg n) tolerance)
      (dew_point_counted y a.ln_gamma (suc done))
      (dew_loop_counted y tolerance left (suc done) a.ln_gamma))

  -- `dew_at`
  unfoldable pub dew_counted : ActivityOptions → List Float → Counted Dew
  dew_counted o y = dew_loop_counted y o.tolerance o.max_iterations 0 zeros8
