-- Bubble and dew temperatures at a pressure: ln p_sat(T) = ln p on the bracket, over activities E and the pure liquids L, in the order of activity.rs.
-- Assumes nothing.
use Rattle.std.specs.Prelude.{ℕ, ◌+◌, ◌%◌, ◌^◌, List, Float}
use Rattle.floats.specs.Arithmetic.{◌⊕◌, ◌⊖◌, ◌⊗◌, ◌⊘◌, 0f}
use Rattle.floats.specs.Small.{max_of, abs_of}
use Rattle.floats.specs.Fold.{fold_to, active}
use Rattle.floats.specs.Vector.{at}
use Rattle.floats.specs.Outcome.{Out, ok, bind, need}
use Rattle.numerics.specs.Numerics.{exp_of, ln_of}
use Rattle.thermo_types.specs.declared.ActivityOptions.{ActivityOptions}
use Rattle.thermo_types.specs.Quantities.{positive_of}
use Rattle.thermo_models.specs.Model.{Activity, Activities, Pures, Liquids, pressure_in_domain}
use Rattle.saturation.specs.Saturation.{Saturation, Dew, bubble_at, residual, residual_with, dew_at}
use Rattle.saturation_temperature.specs.Search.{Point, solve_temperature}

-- w_i = x_i γ_i p_i^sat
abbrev pub weight : List Float → Activity → Pures → ℕ → Float
weight x a pure i = at x i ⊗ exp_of (at a.ln_gamma i) ⊗ at pure.pressure i

-- over positive x_i: Σ w_i, and Σ w_i (∂ ln γ_i/∂T + d ln p_i^sat/dT)
unfoldable pub weight_sum : List Float → Activity → Pures → ℕ → Float
weight_sum x a pure n = fold_to (active (at x) (λ i s. s ⊕ weight x a pure i)) 0f n

unfoldable pub weight_slope : List Float → Activity → Pures → ℕ → Float
weight_slope x a pure n = fold_to (active (at x) (λ i s. s ⊕ weight x a pure i ⊗ (at a.slopes i ⊕ at pure.slope i))) 0f n

-- f(T) = ln Σ w_i - ln p, from the activity of the feed on
unfoldable pub bubble_point_from : Float → List Float → ℕ → Activity → Out Pures → Out Point
bubble_point_from p x n a P =
    bind P (λ pure. ok (record { value = ln_of (weight_sum x a pure n) ⊖ ln_of p; slope = weight_slope x a pure n ⊘ weight_sum x a pure n }))

-- over positive y_i: Σ x_i (∂ ln γ_i/∂T + d ln p_i^sat/dT) of the incipient liquid
unfoldable pub dew_slope : List Float → Dew → Pures → ℕ → Float
dew_slope y d pure n = fold_to (active (at y) (λ i s. s ⊕ at d.liquid i ⊗ (at d.activity.slopes i ⊕ at pure.slope i))) 0f n

-- f(T) = ln p_dew(T) - ln p, from the pure liquids on
unfoldable pub dew_point_from : (List Float → Out Activity) → Pures → ℕ → ActivityOptions → Float → List Float → Out Point
dew_point_from E pure n o p y =
    bind (dew_at E pure.pressure n o y) (λ d. ok (record { value = ln_of d.pressure ⊖ ln_of p; slope = dew_slope y d pure n }))

-- ---- the answer at the temperature found, from the vapor pressures: the residual at the given pressure
module _ (E : List Float → Out Activity) (ps : List Float) (n : ℕ) where
  unfoldable pub bubble_saturation : Float → List Float → ℕ → Float → Out Saturation
  bubble_saturation p x iterations T =
      bind (bubble_at E ps n x) (λ b.
      bind (residual E ps n p x b.vapor) (λ r.
      ok (record {
        temperature = T;
        pressure = p;
        liquid = x;
        vapor = b.vapor;
        residual = max_of r (abs_of (ln_of (b.pressure ⊘ p)));
        iterations = iterations;
      })))

  -- iterations are the outer ones and the dew point's, as one 64-bit word
  unfoldable pub dew_saturation : ActivityOptions → Float → List Float → ℕ → Float → Out Saturation
  dew_saturation o p y outer T =
      bind (dew_at E ps n o y) (λ d.
      bind (residual_with d.activity.ln_gamma ps p d.liquid y n) (λ r.
      ok (record {
        temperature = T;
        pressure = p;
        liquid = d.liquid;
        vapor = y;
        residual = max_of r (abs_of (ln_of (d.pressure ⊘ p)));
        iterations = (outer + d.iterations) % 2 ^ 64;
      })))

-- a saturation temperature at p: the given pressure (23), the root of f, then the answer at the temperature found
unfoldable pub saturation_temperature : (Float → Out Point) → (ℕ → Float → Out Saturation) → ActivityOptions → Float → Out Saturation
saturation_temperature f found o p =
    need (pressure_in_domain p) 23
    (bind (solve_temperature f o) (λ root.
    bind (positive_of root.temperature 13) (found root.iterations)))

module _ (E : Activities) (L : Liquids) (n : ℕ) where
  -- ---- the bubble temperature: at T the activity (24, 25) comes before the pure liquids (22, 25)
  unfoldable pub bubble_point_at : Float → List Float → Float → Out Point
  bubble_point_at p x T = bind (E T x) (λ a. bubble_point_from p x n a (L T))

  -- `Temperature::new` (13) first
  unfoldable pub bubble_point : Float → List Float → Float → Out Point
  bubble_point p x t = bind (positive_of t 13) (bubble_point_at p x)

  unfoldable pub bubble_found : Float → List Float → ℕ → Float → Out Saturation
  bubble_found p x iterations T = bind (L T) (λ pure. bubble_saturation (E T) pure.pressure n p x iterations T)

  -- `activity_bubble_temperature`
  unfoldable pub bubble_temperature : ActivityOptions → Float → List Float → Out Saturation
  bubble_temperature o p x = saturation_temperature (bubble_point p x) (bubble_found p x) o p

  -- ---- the dew temperature: the pure liquids come first
  module _ (o : ActivityOptions) (p : Float) (y : List Float) where
    unfoldable pub dew_point_at : Float → Out Point
    dew_point_at T = bind (L T) (λ pure. dew_point_from (E T) pure n o p y)

    unfoldable pub dew_point : Float → Out Point
    dew_point t = bind (positive_of t 13) dew_point_at

    unfoldable pub dew_found : ℕ → Float → Out Saturation
    dew_found outer T = bind (L T) (λ pure. dew_saturation (E T) pure.pressure n o p y outer T)

    -- `activity_dew_temperature`
    unfoldable pub dew_temperature : Out Saturation
    dew_temperature = saturation_temperature dew_point dew_found o p
