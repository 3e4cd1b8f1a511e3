-- What a longer and a shorter call of a model or a solver answer alike: kept entries at their new places, up to the sign of zero, all counts and notes equal. Assumes nothing.
use Rattle.std.specs.Prelude.{ℕ, ◌<◌, ◌≡◌, Bool, get_or, T, is_some}
use Rattle.floats.specs.Vector.{at}
use Rattle.thermo_models.specs.Model.{Activity, Pures}
use Rattle.rachford_rice.specs.declared.RachfordRice.{RachfordRice}
use Rattle.rachford_rice.specs.Rachford.{Solution}
use Rattle.saturation.specs.Saturation.{Saturation}
use Rattle.liquid_stability.specs.declared.LiquidStabilityTrial.{LiquidStabilityTrial}
use Rattle.liquid_stability.specs.Stability.{Trials, no_trial}
use Rattle.tp_flash.specs.Tp.{Flash, trials_of}
use Rattle.zeros.specs.Same.{◌≈◌}
use Rattle.striking.specs.Places.{cnt}
use Rattle.striking.specs.Related.{Fractions}

-- activity coefficients
pub record SameActivity (keep : ℕ → Bool) (n : ℕ) (a a' : Activity) : Type 0 where
  pub ln_gamma : (i : ℕ) → i < n → T (keep i) → at a.ln_gamma i ≈ at a'.ln_gamma (cnt keep i)
  pub slopes : (i : ℕ) → i < n → T (keep i) → at a.slopes i ≈ at a'.slopes (cnt keep i)

-- pure liquids: computed from a solvent's own data, so equal as they stand
pub record SamePures (keep : ℕ → Bool) (n : ℕ) (a a' : Pures) : Type 0 where
  pub pressure : (i : ℕ) → i < n → T (keep i) → at a.pressure i ≡ at a'.pressure (cnt keep i)
  pub slope : (i : ℕ) → i < n → T (keep i) → at a.slope i ≡ at a'.slope (cnt keep i)

-- splits at given K
pub record SameSolution (keep : ℕ → Bool) (n : ℕ) (a b : Solution) : Type 0 where
  pub vapor_fraction : a.vapor_fraction ≡ b.vapor_fraction
  pub liquid : Fractions keep n (at a.liquid) (at b.liquid)
  pub vapor : Fractions keep n (at a.vapor) (at b.vapor)
  pub residual : a.residual ≡ b.residual
  pub iterations : a.iterations ≡ b.iterations

pub record SameRice (keep : ℕ → Bool) (n : ℕ) (a b : RachfordRice) : Type 0 where
  pub outcome : a.outcome ≡ b.outcome
  pub liquid : Fractions keep n (at a.liquid) (at b.liquid)
  pub vapor : Fractions keep n (at a.vapor) (at b.vapor)

-- saturation points
pub record SameSaturation (keep : ℕ → Bool) (n : ℕ) (a b : Saturation) : Type 0 where
  pub temperature : a.temperature ≡ b.temperature
  pub pressure : a.pressure ≡ b.pressure
  pub liquid : Fractions keep n (at a.liquid) (at b.liquid)
  pub vapor : Fractions keep n (at a.vapor) (at b.vapor)
  pub residual : a.residual ≈ b.residual
  pub iterations : a.iterations ≡ b.iterations

-- a trial: its component is a kept solvent, given by its new place
pub record SameTrial (keep : ℕ → Bool) (n : ℕ) (a b : LiquidStabilityTrial) : Type 0 where
  pub below : a.component < n
  pub kept : T (keep a.component)
  pub component : cnt keep a.component ≡ b.component
  pub distance : a.distance ≈ b.distance
  pub composition : Fractions keep n (at a.composition) (at b.composition)
  pub iterations : a.iterations ≡ b.iterations
  pub trivial : a.trivial ≡ b.trivial

-- trials go in order; entries past the count are not compared
pub record SameTrials (keep : ℕ → Bool) (n : ℕ) (a b : Trials) : Type 0 where
  pub stable : a.stable ≡ b.stable
  pub count : a.count ≡ b.count
  pub trials : (k : ℕ) → k < a.count → SameTrial keep n (get_or a.trials k no_trial) (get_or b.trials k no_trial)

-- flashes
pub record SameFlash (keep : ℕ → Bool) (n : ℕ) (a b : Flash) : Type 0 where
  pub phases : a.phases ≡ b.phases
  pub bubble : a.bubble ≡ b.bubble
  pub dew : a.dew ≡ b.dew
  pub iterations : a.iterations ≡ b.iterations
  pub residual : a.residual ≈ b.residual
  pub balance : a.balance ≈ b.balance
  pub vapor_fraction : a.vapor_fraction ≡ b.vapor_fraction
  pub notes : a.notes ≡ b.notes
  pub liquid : Fractions keep n (at a.liquid) (at b.liquid)
  pub vapor : Fractions keep n (at a.vapor) (at b.vapor)
  pub tested : is_some a.trials ≡ is_some b.trials
  pub trials : SameTrials keep n (trials_of a) (trials_of b)
