-- The trials of a liquid with the evaluations of E that they begin: the steps of Stability.antt, counted. Assumes nothing.
use Rattle.std.specs.Prelude.{ℕ, zero, suc, Bool, false, List, ltb, Float}
use Rattle.std.specs.Float.Ieee.{lt, le}
use Rattle.floats.specs.Arithmetic.{0f}
use Rattle.floats.specs.Small.{is_finite}
use Rattle.floats.specs.Vector.{at}
use Rattle.floats.specs.Outcome.{Out, ok, no}
use Rattle.counted.specs.Counted.{Counted, uncounted, evaluated, bind_counted, need_counted, choose_counted}
use Rattle.thermo_types.specs.declared.ActivityOptions.{ActivityOptions}
use Rattle.thermo_models.specs.Model.{Activity}
use Rattle.liquid_stability.specs.declared.LiquidStabilityTrial.{LiquidStabilityTrial}
use Rattle.liquid_stability.specs.Stability.{Trials, ln_w_tolerance, unstable, present_count, tangent, start_of, trial_composition, distance_of, next_of, change_of, trivial_at, trial_with, no_trials, with_trial}

-- `judge`
unfoldable pub judge_counted : Float → Float → Float → Bool → (Bool → LiquidStabilityTrial) → Counted LiquidStabilityTrial → Counted LiquidStabilityTrial
judge_counted threshold tm change trivial found rest =
    need_counted (is_finite tm) 25
    (choose_counted (unstable threshold tm trivial)
    (uncounted (ok (found false)))
    (choose_counted (le change ln_w_tolerance)
    (uncounted (ok (found trivial)))
    rest))

-- `trial_from`: each turn begins one
unfoldable pub trial_counted : (List Float → Out Activity) → Float → ℕ → List Float → List Float → ℕ → ℕ → ℕ → List Float → Counted LiquidStabilityTrial
trial_counted E threshold n x d j zero done lnW = uncounted (no 27)
trial_counted E threshold n x d j (suc left) done lnW =
    let w = trial_composition x lnW n in
    bind_counted (evaluated (E w)) (λ a.
    let tm = distance_of x lnW a.ln_gamma d n in
    judge_counted threshold tm (change_of x lnW a.ln_gamma d n) (trivial_at x w n) (trial_with j tm w (suc done))
    (trial_counted E threshold n x d j left (suc done) (next_of d a.ln_gamma n)))

module _ (E : List Float → Out Activity) (n : ℕ) (o : ActivityOptions) (x : List Float) where
  -- `trials_to`
  unfoldable pub trials_counted : List Float → ℕ → Counted Trials
  trials_counted d zero = uncounted (ok no_trials)
  trials_counted d (suc k) =
      bind_counted (trials_counted d k) (λ s.
      choose_counted (lt 0f (at x k))
      (bind_counted (trial_counted E o.tm_threshold n x d k o.max_iterations 0 (start_of x n k)) (λ r. uncounted (ok (with_trial o.tm_threshold s r))))
      (uncounted (ok s)))

  -- `liquid_stability`
  unfoldable pub stability_counted : Counted Trials
  stability_counted =
      bind_counted (evaluated (E x)) (λ a.
      choose_counted (ltb (present_count x n) 2)
      (uncounted (ok no_trials))
      (trials_counted (tangent x a.ln_gamma n) n))
