-- What the solvers ask of the models: activity coefficients of a composition at a temperature, and the pure liquids at a temperature. The solvers' definitions
-- take both as parameters, so that they and their laws hold for any model. Assumes nothing.
use Rattle.std.specs.Prelude.{List, Bool, ◌&&◌, Float}
use Rattle.std.specs.Float.Ieee.{le}
use Rattle.floats.specs.Arithmetic.{#}
use Rattle.floats.specs.Outcome.{Out}
use Rattle.thermo_models.specs.declared.ActivityCoefficients.{ActivityCoefficients}
use Rattle.thermo_models.specs.declared.PurePressures.{PurePressures}

-- ln γ_i, and its slope ∂ ln γ_i / ∂T at fixed x, 1/K; arrays of eight
abbrev pub Activity : Type 0
Activity = ActivityCoefficients

-- p_i^sat, Pa, and d ln p_i^sat / dT, 1/K; arrays of eight
abbrev pub Pures : Type 0
Pures = PurePressures

-- the activity at T of x
abbrev pub Activities : Type 0
Activities = Float → List Float → Out Activity

-- the pure liquids at T
abbrev pub Liquids : Type 0
Liquids = Float → Out Pures

-- ACTIVITY_PRESSURE_RANGE_PA: 100 to 500000 Pa
abbrev pub lowest_pascal : Float
lowest_pascal = # 0x4059000000000000

abbrev pub highest_pascal : Float
highest_pascal = # 0x411e848000000000

unfoldable pub pressure_in_domain : Float → Bool
pressure_in_domain p = le lowest_pascal p && le p highest_pascal
