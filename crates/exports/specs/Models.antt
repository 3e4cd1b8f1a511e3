-- The models from a book's bytes, and the floats that they leave in a slice. Assumes nothing.
use Rattle.std.specs.Prelude.{ℕ, ◌≡◌, Bool, cond, List, set, Float}
use Rattle.floats.specs.Arithmetic.{0f, 1f, 2f}
use Rattle.floats.specs.Vector.{at, fill_from}
use Rattle.floats.specs.Outcome.{Out, ok, no, bind}
use Rattle.thermo_types.specs.Quantities.{temperature_of}
use Rattle.book.specs.Book.{book_of}
use Rattle.liquid.specs.Vapor.{Vapor, vapor_pressure_of}
use Rattle.excess.specs.declared.Energies.{Energies}
use Rattle.excess.specs.State.{Excess}
use Rattle.excess.specs.Answers.{energies_in}
use Rattle.thermo_models.specs.declared.Assessment.{Assessment}
use Rattle.thermo_models.specs.declared.ValidityStatus.{ValidityStatus}
use Rattle.thermo_models.specs.declared.ValidityStatus.TheVariants.{Unassessed, WithinDeclaredDomain, Extrapolated}
use Rattle.thermo_models.specs.Domain.{vapor_record}
use Rattle.thermo_models.specs.Mixture.{Mixture, mixture_of}
use Rattle.exports.specs.Slices.{eight_of, outcome_number}

-- ---- vapor pressure of solvent i at t

-- t (13), then the correlation's (22, 25)
unfoldable pub vapor_from : List ℕ → ℕ → Float → Out Vapor
vapor_from book i t = bind (temperature_of t) (λ T. vapor_pressure_of (vapor_record book i) T.0)

-- the book's questions first
unfoldable pub vapor_at : List ℕ → ℕ → Float → Out Vapor
vapor_at book i t = bind (book_of book) (λ h. vapor_from book i t)

-- p, ln p and its two derivatives in the first four entries; a refusal leaves the slice as it was
unfoldable pub vapor_written : Out Vapor → List Float → List Float
vapor_written (ok v) old = set (set (set (set old 0 v.pressure) 1 v.ln.value) 2 v.ln.slope) 3 v.ln.curvature
vapor_written (no r) old = old

pub record VaporGives (o : Out Vapor) (r : ℕ) (old new : List Float) : Type 0 where
  pub number : r ≡ outcome_number o
  pub floats : new ≡ vapor_written o old

-- ---- the excess state at t and x

pub record Assessed : Type 0 where
  pub excess : Excess
  pub assessment : Assessment

-- of the mixture, with its validity
unfoldable pub excess_in : Mixture → Float → List Float → Out Assessed
excess_in m t x = bind (m.excess t x) (λ e. ok (record { excess = e; assessment = m.validity t x }))

-- t (13) first
unfoldable pub excess_from : List ℕ → ℕ → Float → List Float → Out Assessed
excess_from book n t x = bind (temperature_of t) (λ T. excess_in (mixture_of book n) T.0 (eight_of x))

-- the book's questions first
unfoldable pub excess_at : List ℕ → Float → List Float → Out Assessed
excess_at book t x = bind (book_of book) (λ h. excess_from book h.n t x)

-- word 35 and word 36 as floats
unfoldable pub status_float : ValidityStatus → Float
status_float Unassessed = 0f
status_float WithinDeclaredDomain = 1f
status_float Extrapolated = 2f

unfoldable pub flag_float : Bool → Float
flag_float b = cond b 1f 0f

-- entries 16 to 22
unfoldable pub energies_stored : Energies → Assessment → List Float → List Float
energies_stored e a l =
    set (set (set (set (set (set (set l 16 e.reduced) 17 e.gibbs) 18 e.enthalpy) 19 e.entropy) 20 e.heat_capacity)
    21 (status_float a.status)) 22 (flag_float a.inferred)

-- ln γ in entries 0 to 7, its slopes in 8 to 15, then the rest; a refusal leaves the slice as it was
unfoldable pub excess_written : Out Assessed → List Float → List Float
excess_written (ok s) old =
    energies_stored (energies_in s.excess) s.assessment (fill_from (at s.excess.slopes) 8 8 (fill_from (at s.excess.ln_gamma) 0 8 old))
excess_written (no r) old = old

pub record ExcessGives (o : Out Assessed) (r : ℕ) (old new : List Float) : Type 0 where
  pub number : r ≡ outcome_number o
  pub floats : new ≡ excess_written o old
