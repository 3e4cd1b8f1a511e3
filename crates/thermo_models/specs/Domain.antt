-- The domain of temperatures and the pure liquids of a book (models/activity.rs). Assumes nothing.
use Rattle.std.specs.Prelude.{ℕ, zero, suc, ◌+◌, Bool, ◌&&◌, List, set, Float}
use Rattle.floats.specs.Fold.{all_to}
use Rattle.floats.specs.Vector.{zeros8}
use Rattle.floats.specs.Outcome.{Out, ok, bind, need}
use Rattle.thermo_types.specs.Quantities.{lowest_kelvin, highest_kelvin}
use Rattle.book.specs.Places.{words}
use Rattle.records.specs.declared.Ancillary.{Ancillary}
use Rattle.records.specs.declared.Range.{Range}
use Rattle.records.specs.Records.{ancillary_of, range_of}
use Rattle.liquid.specs.Vapor.{in_range, vapor_pressure_of}
use Rattle.thermo_models.specs.Model.{Pures}

-- solvent i's vapor pressure record, and the two ranges of its correlations
abbrev pub vapor_record : List ℕ → ℕ → Ancillary
vapor_record book i = ancillary_of (words book (i + 1)) 3

abbrev pub vapor_range : List ℕ → ℕ → Range
vapor_range book i = range_of (words book (i + 1)) 3

abbrev pub density_range : List ℕ → ℕ → Range
density_range book i = range_of (words book (i + 1)) 24

-- T in both ranges of solvent i
unfoldable pub solvent_covers : List ℕ → Float → ℕ → Bool
solvent_covers book t i = in_range (vapor_range book i).0 (vapor_range book i).1 t && in_range (density_range book i).0 (density_range book i).1 t

-- `check_temperature`: the model's temperatures, and both ranges of every solvent, absent ones too
unfoldable pub temperature_in_domain : List ℕ → ℕ → Float → Bool
temperature_in_domain book n t = in_range lowest_kelvin highest_kelvin t && all_to (solvent_covers book t) n

-- the vapor pressures and slopes of the solvents below k, in index order
unfoldable pub pures_to : List ℕ → Float → ℕ → Out Pures
pures_to book t zero = ok (record { pressure = zeros8; slope = zeros8 })
pures_to book t (suc k) =
    bind (pures_to book t k) (λ p.
    bind (vapor_pressure_of (vapor_record book k) t) (λ v.
    ok (record { pressure = set p.pressure k v.pressure; slope = set p.slope k v.ln.slope })))

-- `pure_liquids`: the domain (22), then each vapor pressure (25)
unfoldable pub pure_liquids_of : List ℕ → ℕ → Float → Out Pures
pure_liquids_of book n t = need (temperature_in_domain book n t) 22 (pures_to book t n)
