-- What a task asks of the liquid at a book's hand. Assumes nothing.
use Rattle.std.specs.Prelude.{ℕ, Bool, List, Float}
use Rattle.floats.specs.Outcome.{Out}
use Rattle.records.specs.Parameters.{parameters_of}
use Rattle.excess.specs.State.{Excess}
use Rattle.thermo_models.specs.declared.Assessment.{Assessment}
use Rattle.thermo_models.specs.Model.{Activities, Liquids}
use Rattle.thermo_models.specs.Domain.{temperature_in_domain, pure_liquids_of}
use Rattle.thermo_models.specs.Activity.{activity_in, excess_of}
use Rattle.thermo_models.specs.Validity.{validity_of}

-- n solvents; the excess state at T and x; the pure liquids at T; whether T is in the domain; validity at T and x
pub record Mixture : Type 0 where
  pub n : ℕ
  pub excess : Float → List Float → Out Excess
  pub liquids : Liquids
  pub domain : Float → Bool
  pub validity : Float → List Float → Assessment

abbrev pub activity : Mixture → Activities
activity m t x = activity_in (m.excess t x)

-- the book's, with the parameters P, and the intervals of the pairs in a copy of it
abbrev pub mixture_with : List ℕ → List Float → List ℕ → ℕ → Mixture
mixture_with book P copy n = record {
  n = n;
  excess = excess_of book P n;
  liquids = pure_liquids_of book n;
  domain = temperature_in_domain book n;
  validity = validity_of copy n;
}

abbrev pub mixture_of : List ℕ → ℕ → Mixture
mixture_of book n = mixture_with book (parameters_of book n) book n
