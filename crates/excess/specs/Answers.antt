-- What the code gives for an outcome: its struct and the two arrays, which are zeros with a refusal. Assumes nothing.
use Rattle.std.specs.Prelude.{ℕ, ◌≡◌, Bool, ◌&&◌, List, Float, Result}
use Rattle.floats.specs.Small.{is_finite}
use Rattle.floats.specs.Vector.{zeros8}
use Rattle.floats.specs.Outcome.{Out, ok, no}
use Rattle.outcome.specs.declared.Refusal.{Refusal}
use Rattle.outcome.specs.Refused.{number, outcome_by}
use Rattle.jet.specs.declared.Jet.{Jet}
use Rattle.excess.specs.declared.Energies.{Energies}
use Rattle.excess.specs.State.{Excess, gibbs_of, enthalpy_of, entropy_of, heat_capacity_of}

-- the energies of an excess state
abbrev pub energies_in : Excess → Energies
energies_in s = record { reduced = s.reduced; gibbs = s.gibbs; enthalpy = s.enthalpy; entropy = s.entropy; heat_capacity = s.heat_capacity }

unfoldable pub energies_of : Out Excess → Out Energies
energies_of (ok s) = ok (energies_in s)
energies_of (no r) = no r

unfoldable pub excess_ln_gammas : Out Excess → List Float
excess_ln_gammas (ok s) = s.ln_gamma
excess_ln_gammas (no r) = zeros8

unfoldable pub excess_slopes : Out Excess → List Float
excess_slopes (ok s) = s.slopes
excess_slopes (no r) = zeros8

-- a call's result r, its no by the number that it says, and arrays lg, sl say the outcome o
pub record GivesBy {E : Type 0} (said : E → ℕ) (o : Out Excess) (r : Result Energies E) (lg sl : List Float) : Type 0 where
  pub energies : outcome_by said r ≡ energies_of o
  pub values : lg ≡ excess_ln_gammas o
  pub slopes : sl ≡ excess_slopes o

abbrev pub Gives : Out Excess → Result Energies Refusal → List Float → List Float → Type 0
Gives o r lg sl = GivesBy number o r lg sl

-- the energies, not yet tested, and their test
unfoldable pub energies_at : Jet → Float → Energies
energies_at e t = record {
  reduced = e.v;
  gibbs = gibbs_of e t;
  enthalpy = enthalpy_of e t;
  entropy = entropy_of e t;
  heat_capacity = heat_capacity_of e t;
}

unfoldable pub energies_finite : Energies → Bool
energies_finite e = is_finite e.gibbs && is_finite e.enthalpy && is_finite e.heat_capacity && is_finite e.entropy
