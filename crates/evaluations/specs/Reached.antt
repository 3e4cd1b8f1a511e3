-- The bound is reached, by an accepted flash: two solvents in equal amounts at 100 kPa, M = 2, 12 evaluations of 12. The dew point takes two turns and its
-- last evaluation, the split two turns, and each trial of its liquid two. Assumes nothing.
use Rattle.std.specs.Prelude.{◌≡◌, Bool, true, cond, List, [], ◌∷◌, Float}
use Rattle.std.specs.Float.Ieee.{eq}
use Rattle.floats.specs.Arithmetic.{#, 0f, ½}
use Rattle.floats.specs.Vector.{at, zeros8}
use Rattle.floats.specs.Outcome.{ok}
use Rattle.counted.specs.Counted.{Counted}
use Rattle.thermo_types.specs.declared.ActivityOptions.{ActivityOptions}
use Rattle.thermo_models.specs.Model.{Activities, Liquids}
use Rattle.tp_flash.specs.Tp.{Flash}
use Rattle.tp_flash.specs.Counted.{flash_counted, most_evaluations}

-- the first two entries of eight
abbrev pub two : Float → Float → List Float
two a b = a ∷ b ∷ 0f ∷ 0f ∷ 0f ∷ 0f ∷ 0f ∷ 0f ∷ []

-- ln γ = -1/8
abbrev pub below_ideal : Float
below_ideal = # 0xbfc0000000000000

-- a model with ln γ = 0 at the feed and -1/8 elsewhere, whatever T
abbrev pub stepped : List Float → List Float
stepped x = cond (eq (at x 0) ½) zeros8 (two below_ideal below_ideal)

abbrev pub model : Activities
model t x = ok (record { ln_gamma = stepped x; slopes = zeros8 })

-- vapor pressures of 200 kPa and 50 kPa
abbrev pub pures : Liquids
pures t = ok (record { pressure = two (# 0x41086a0000000000) (# 0x40e86a0000000000); slope = zeros8 })

abbrev pub everywhere : Float → Bool
everywhere t = true

-- 2 ^ -20 for the tolerance, and below its negative for an unstable trial
abbrev pub twice : ActivityOptions
twice = record {
  max_iterations = 2;
  tolerance = # 0x3eb0000000000000;
  max_temperature_iterations = 2;
  tm_threshold = # 0xbeb0000000000000;
  minimum_temperature_k = 0f;
  maximum_temperature_k = 0f;
}

abbrev pub feed : List Float
feed = two ½ ½

-- 100 kPa
abbrev pub pressure : Float
pressure = # 0x40f86a0000000000

abbrev pub flash : Counted Flash
flash = flash_counted model pures everywhere 2 twice 0f feed pressure

pub record BoundReached : Type 0 where
  pub accepted : (f : Flash) × (flash.outcome ≡ ok f)
  pub twelve : flash.begun ≡ 12
  pub of_twelve : most_evaluations 2 twice feed ≡ 12
