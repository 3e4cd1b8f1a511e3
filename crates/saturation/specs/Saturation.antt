-- Bubble and dew points at a temperature by modified Raoult, y_i p = x_i γ_i p_i^sat, as rounded steps in the order of activity.rs. E is the activity at T,
-- any outcome of a composition; ps are the vapor pressures, n the count of solvents. Compositions are arrays of eight. Assumes nothing.
use Rattle.std.specs.Prelude.{ℕ, zero, suc, not, cond, ◌&&◌, List, Float}
use Rattle.std.specs.Float.Ieee.{lt, le}
use Rattle.floats.specs.Arithmetic.{◌⊕◌, ◌⊖◌, ◌⊗◌, ◌⊘◌, 0f, 1f}
use Rattle.floats.specs.Small.{is_finite, max_of, abs_of}
use Rattle.floats.specs.Fold.{fold_to, sum_to, active}
use Rattle.floats.specs.Vector.{at, vec, zeros8}
use Rattle.floats.specs.Outcome.{Out, ok, no, bind, need, choose}
use Rattle.numerics.specs.Numerics.{exp_of, ln_of}
use Rattle.thermo_types.specs.Composition.{normalize_of}
use Rattle.thermo_types.specs.declared.ActivityOptions.{ActivityOptions}
use Rattle.thermo_models.specs.Model.{Activity, Activities, Liquids, pressure_in_domain}
use Rattle.saturation.specs.declared.BubblePoint.{BubblePoint}
use Rattle.saturation.specs.declared.IncipientLiquid.{IncipientLiquid}
use Rattle.saturation.specs.declared.DewTurn.{DewTurn}
use Rattle.saturation.specs.declared.DewPoint.{DewPoint}
use Rattle.saturation.specs.declared.ActivitySaturation.{ActivitySaturation}

-- the pressure, Pa, and the incipient vapor
abbrev pub Bubble : Type 0
Bubble = BubblePoint

-- the pressure, Pa, the incipient liquid, the activity at that liquid, iterations, residual
abbrev pub Dew : Type 0
Dew = DewPoint

-- a saturation point: T (K), p (Pa), both compositions, max_i |ln(y_i p) - ln(x_i γ_i p_i^sat)|, iterations
abbrev pub Saturation : Type 0
Saturation = ActivitySaturation

-- x_i γ_i p_i^sat at positive x_i
unfoldable pub partial_of : List Float → List Float → List Float → ℕ → Float
partial_of x lg ps i = cond (lt 0f (at x i)) (at x i ⊗ exp_of (at lg i) ⊗ at ps i) 0f

-- p = Σ x_i γ_i p_i^sat
unfoldable pub partial_sum : List Float → List Float → List Float → ℕ → Float
partial_sum x lg ps n = sum_to (partial_of x lg ps) n

unfoldable pub bubble_from : List Float → List Float → List Float → ℕ → Out Bubble
bubble_from x lg ps n =
    need (is_finite (partial_sum x lg ps n)) 25
    (need (not (le (partial_sum x lg ps n) 0f)) 25
    (ok (record { pressure = partial_sum x lg ps n; vapor = vec (λ i. partial_of x lg ps i ⊘ partial_sum x lg ps n) n })))

-- |ln y_i + ln p - ln x_i - ln γ_i - ln p_i^sat|
abbrev pub gap_at : List Float → List Float → Float → List Float → List Float → ℕ → Float
gap_at lg ps p x y i = abs_of (ln_of (at y i) ⊕ ln_of p ⊖ ln_of (at x i) ⊖ at lg i ⊖ ln_of (at ps i))

-- the largest of them over solvents present in both phases; a NaN is passed over
unfoldable pub gap_of : List Float → List Float → Float → List Float → List Float → ℕ → Float
gap_of lg ps p x y n = fold_to (λ i r. cond (lt 0f (at x i) && lt 0f (at y i)) (max_of r (gap_at lg ps p x y i)) r) 0f n

unfoldable pub residual_with : List Float → List Float → Float → List Float → List Float → ℕ → Out Float
residual_with lg ps p x y n = need (is_finite (gap_of lg ps p x y n)) 25 (ok (gap_of lg ps p x y n))

-- y_i / (γ_i p_i^sat) at positive y_i
unfoldable pub dew_term : List Float → List Float → List Float → ℕ → Float
dew_term y ps lg i = cond (lt 0f (at y i)) (at y i ⊘ (exp_of (at lg i) ⊗ at ps i)) 0f

-- p = 1 / Σ y_i / (γ_i p_i^sat), and the incipient liquid x_i = p y_i / (γ_i p_i^sat), the terms brought to a sum of 1 (34)
unfoldable pub dew_pressure : List Float → List Float → List Float → ℕ → Float
dew_pressure y ps lg n = 1f ⊘ sum_to (dew_term y ps lg) n

unfoldable pub dew_liquid : List Float → List Float → List Float → ℕ → Out (List Float)
dew_liquid y ps lg n = normalize_of (dew_term y ps lg) n

-- what ln γ gives: the pressure and the incipient liquid
unfoldable pub incipient : List Float → ℕ → List Float → List Float → Out IncipientLiquid
incipient ps n y lg = bind (dew_liquid y ps lg n) (λ x. ok (record { pressure = dew_pressure y ps lg n; liquid = x }))

-- the largest change of ln γ where y is positive
unfoldable pub change_of : List Float → List Float → List Float → ℕ → Float
change_of y new old n = fold_to (active (at y) (λ i r. max_of r (abs_of (at new i ⊖ at old i)))) 0f n

-- a turn from ln γ: the largest change, and the new ln γ
abbrev pub turned : List Float → List Float → ℕ → Activity → DewTurn
turned y lg n a = record { change = change_of y a.ln_gamma lg n; ln_gamma = a.ln_gamma }

module _ (E : List Float → Out Activity) (ps : List Float) (n : ℕ) where
  -- `bubble_at`
  unfoldable pub bubble_at : List Float → Out Bubble
  bubble_at x = bind (E x) (λ a. bubble_from x a.ln_gamma ps n)

  -- `residual`
  unfoldable pub residual : Float → List Float → List Float → Out Float
  residual p x y = bind (E x) (λ a. residual_with a.ln_gamma ps p x y n)

  -- one turn of the dew iteration, from ln γ: the activity at the incipient liquid (25 where the change or the pressure isn't finite)
  unfoldable pub dew_turn : List Float → List Float → Out Activity
  dew_turn y lg =
      bind (dew_liquid y ps lg n) (λ x.
      bind (E x) (λ a.
      need (is_finite (change_of y a.ln_gamma lg n)) 25
      (need (is_finite (dew_pressure y ps lg n)) 25
      (ok a))))

  -- the dew point from converged ln γ
  unfoldable pub dew_point : List Float → List Float → ℕ → Out Dew
  dew_point y lg iteration =
      bind (dew_liquid y ps lg n) (λ x.
      bind (E x) (λ a.
      bind (residual_with a.ln_gamma ps (dew_pressure y ps lg n) x y n) (λ r.
      ok (record { pressure = dew_pressure y ps lg n; liquid = x; iterations = iteration; residual = r; activity = a }))))

  -- from ln γ after `done` turns, with `left` turns left; 27 where none is left
  unfoldable pub dew_loop : List Float → Float → ℕ → ℕ → List Float → Out Dew
  dew_loop y tolerance zero done lg = no 27
  dew_loop y tolerance (suc left) done lg =
      bind (dew_turn y lg) (λ a.
      choose (le (change_of y a.ln_gamma lg n) tolerance)
      (dew_point y a.ln_gamma (suc done))
      (dew_loop y tolerance left (suc done) a.ln_gamma))

  -- `dew_at`: from ln γ = 0
  unfoldable pub dew_at : ActivityOptions → List Float → Out Dew
  dew_at o y = dew_loop y o.tolerance o.max_iterations 0 zeros8

  -- task 2 from the vapor pressures: the bubble point, its pressure in the domain (23), its residual
  unfoldable pub bubble_task : Float → List Float → Out Saturation
  bubble_task t x =
      bind (bubble_at x) (λ b.
      need (pressure_in_domain b.pressure) 23
      (bind (residual b.pressure x b.vapor) (λ r.
      ok (record { temperature = t; pressure = b.pressure; liquid = x; vapor = b.vapor; residual = r; iterations = 0 }))))

  -- task 3 from the vapor pressures: the dew point, then its pressure in the domain (23)
  unfoldable pub dew_task : ActivityOptions → Float → List Float → Out Saturation
  dew_task o t y =
      bind (dew_at o y) (λ d.
      need (pressure_in_domain d.pressure) 23
      (ok (record { temperature = t; pressure = d.pressure; liquid = d.liquid; vapor = y; residual = d.residual; iterations = d.iterations })))

-- ---- tasks 2 and 3, over a model E and the pure liquids L (22, 25)
module _ (E : Activities) (L : Liquids) (n : ℕ) where
  -- `activity_bubble_pressure`
  unfoldable pub bubble_pressure : Float → List Float → Out Saturation
  bubble_pressure t x = bind (L t) (λ pure. bubble_task (E t) pure.pressure n t x)

  -- `activity_dew_pressure`
  unfoldable pub dew_pressure_point : ActivityOptions → Float → List Float → Out Saturation
  dew_pressure_point o t y = bind (L t) (λ pure. dew_task (E t) pure.pressure n o t y)
