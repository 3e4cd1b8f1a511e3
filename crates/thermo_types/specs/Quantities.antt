-- `Temperature::new` and `Pressure::new`: finite and positive (13, 14). Assumes nothing.
use Rattle.std.specs.Prelude.{ℕ, Float}
use Rattle.std.specs.Float.Ieee.{lt}
use Rattle.floats.specs.Arithmetic.{#, 0f}
use Rattle.floats.specs.Small.{is_finite}
use Rattle.floats.specs.Outcome.{Out, ok, need, bind}
use Rattle.thermo_types.specs.declared.Temperature.{Temperature}
use Rattle.thermo_types.specs.declared.Pressure.{Pressure}

-- a finite positive number, or the refusal r
unfoldable pub positive_of : Float → ℕ → Out Float
positive_of v r = need (is_finite v) r (need (lt 0f v) r (ok v))

-- kelvin
abbrev pub kelvin : Float → Temperature
kelvin v = record { 0 = v }

-- pascals
abbrev pub pascal : Float → Pressure
pascal v = record { 0 = v }

-- ACTIVITY_TEMPERATURE_RANGE_K: 273.16 to 450 K
abbrev pub lowest_kelvin : Float
lowest_kelvin = # 0x4071128f5c28f5c3

abbrev pub highest_kelvin : Float
highest_kelvin = # 0x407c200000000000

-- `Temperature::new`
abbrev pub temperature_of : Float → Out Temperature
temperature_of v = bind (positive_of v 13) (λ x. ok (kelvin x))

-- `Pressure::new`
abbrev pub pressure_of : Float → Out Pressure
pressure_of v = bind (positive_of v 14) (λ x. ok (pascal x))
