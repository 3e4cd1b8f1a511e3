-- What the code works out on the way: sums, and f with what the answer at a root is worked out from. Assumes nothing.
use Rattle.std.specs.Prelude.{◌≡◌, ℕ, List, Float, Result}
use Rattle.floats.specs.Arithmetic.{◌⊖◌, ◌⊘◌}
use Rattle.floats.specs.Outcome.{Out, ok, no, bind}
use Rattle.outcome.specs.declared.Refusal.{Refusal}
use Rattle.outcome.specs.Refused.{outcome_of}
use Rattle.numerics.specs.Numerics.{ln_of}
use Rattle.thermo_types.specs.declared.ActivityOptions.{ActivityOptions}
use Rattle.thermo_types.specs.Quantities.{positive_of}
use Rattle.thermo_models.specs.Model.{Activity, Activities, Pures, Liquids}
use Rattle.saturation.specs.Saturation.{Dew, dew_at}
use Rattle.saturation_temperature.specs.Search.{Point}
use Rattle.saturation_temperature.specs.Boiling.{weight_sum, weight_slope, dew_slope}

-- as the code has them: two arrays
abbrev pub activity_from : List Float → List Float → Activity
activity_from lg sl = record { ln_gamma = lg; slopes = sl }

abbrev pub pures_from : List Float → List Float → Pures
pures_from ps dps = record { pressure = ps; slope = dps }

-- the sums over the first n solvents
pub record Weighed (x lg sl ps dps : List Float) (n : ℕ) (s slope : Float) : Type 0 where
  pub sum : s ≡ weight_sum x (activity_from lg sl) (pures_from ps dps) n
  pub slopes : slope ≡ weight_slope x (activity_from lg sl) (pures_from ps dps) n

-- the first part alone
abbrev pub first_of : {A B : Type 0} → Out (A × B) → Out A
first_of (ok v) = ok v.0
first_of (no r) = no r

abbrev pub first_in : {A B : Type 0} → Result (A × B) Refusal → Out A
first_in r = first_of (outcome_of r)

-- what calls answer, by P, is g's value first
abbrev pub Evaluates : {A : Type 0} → (Float → Result (Point × A) Refusal → Type 0) → (Float → Out Point) → Type 0
Evaluates {A} P g = (t : Float) (r : Result (Point × A) Refusal) → P t r → first_in r ≡ g t

module _ (E : Activities) (L : Liquids) (n : ℕ) where
  -- `bubble_point`, beside ln γ of the feed and the vapor pressures
  unfoldable pub bubble_tried : Float → List Float → Float → Out (Point × (List Float × List Float))
  bubble_tried p x t =
      bind (positive_of t 13) (λ T.
      bind (E T x) (λ a.
      bind (L T) (λ pure.
      ok (record { value = ln_of (weight_sum x a pure n) ⊖ ln_of p; slope = weight_slope x a pure n ⊘ weight_sum x a pure n }, (a.ln_gamma, pure.pressure)))))

  -- `dew_point`, beside the dew point and the vapor pressures
  unfoldable pub dew_tried : ActivityOptions → Float → List Float → Float → Out (Point × (Dew × List Float))
  dew_tried o p y t =
      bind (positive_of t 13) (λ T.
      bind (L T) (λ pure.
      bind (dew_at (E T) pure.pressure n o y) (λ d.
      ok (record { value = ln_of d.pressure ⊖ ln_of p; slope = dew_slope y d pure n }, (d, pure.pressure)))))
