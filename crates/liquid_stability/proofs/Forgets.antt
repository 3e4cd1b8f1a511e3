-- Without their count the trials are those of Stability.antt. Assumes nothing.
use Prim.Native.Nat.{ℕ, zero, suc}
use mathlib.Core.Path.{◌≡◌, refl}
use mathlib.Core.Bool.{Bool}
use mathlib.Core.List.{List}
use lib.Ieee.{Float}
use Rattle.floats.specs.Outcome.{Out}
use Rattle.counted.specs.Counted.{Counted, uncounted, evaluated}
use Rattle.counted.proofs.Laws.{forget_bind, forget_need, forget_choose}
use Rattle.thermo_types.specs.declared.ActivityOptions.{ActivityOptions}
use Rattle.thermo_models.specs.Model.{Activity}
use Rattle.liquid_stability.specs.declared.LiquidStabilityTrial.{LiquidStabilityTrial}
use Rattle.liquid_stability.specs.Stability.{next_of, judge, trial_from, trials_to, stability_of}
use Rattle.liquid_stability.specs.Counted.{judge_counted, trial_counted, trials_counted, stability_counted}

module _ (E : List Float → Out Activity) where
  judge-outcome : (threshold tm change : Float) (trivial : Bool) (found : Bool → LiquidStabilityTrial) (rest : Counted LiquidStabilityTrial)
      {r : Out LiquidStabilityTrial} → rest.outcome ≡ r
      → (judge_counted threshold tm change trivial found rest).outcome ≡ judge threshold tm change trivial found r
  unfolding judge_counted judge uncounted
  judge-outcome threshold tm change trivial found rest e = forget_need _ _ _ (forget_choose _ _ _ refl (forget_choose _ _ _ refl e))

  pub trial-outcome : (threshold : Float) (n : ℕ) (x d : List Float) (j left done : ℕ) (lnW : List Float)
      → (trial_counted E threshold n x d j left done lnW).outcome ≡ trial_from E threshold n x d j left done lnW
  unfolding trial_counted trial_from evaluated uncounted
  trial-outcome threshold n x d j zero done lnW = refl
  trial-outcome threshold n x d j (suc left) done lnW =
      forget_bind _ _ _ refl (λ a. judge-outcome _ _ _ _ _ _ (trial-outcome threshold n x d j left (suc done) (next_of d a.ln_gamma n)))

  module _ (n : ℕ) (o : ActivityOptions) (x : List Float) where
    pub trials-outcome : (d : List Float) (k : ℕ) → (trials_counted E n o x d k).outcome ≡ trials_to E n o x d k
    unfolding trials_counted trials_to uncounted
    trials-outcome d zero = refl
    trials-outcome d (suc k) =
        forget_bind _ _ _ (trials-outcome d k) (λ s. forget_choose _ _ _ (forget_bind _ _ _ (trial-outcome _ _ _ _ _ _ _ _) (λ r. refl)) refl)

    pub stability_outcome : (stability_counted E n o x).outcome ≡ stability_of E n o x
    unfolding stability_counted stability_of evaluated uncounted
    stability_outcome = forget_bind _ _ _ refl (λ a. forget_choose _ _ _ refl (trials-outcome _ n))
