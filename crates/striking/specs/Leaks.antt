-- Six ways in which an absent solvent could show, each a definition of the core with one line changed. None is used: crates/striking/proofs/Leaks.antt refutes the law of
-- striking for each of them. Assumes nothing.
use Rattle.std.specs.Prelude.{ℕ, zero, suc, not, cond, List, ltb, Float}
use Rattle.std.specs.Float.Ieee.{lt, le}
use Rattle.floats.specs.Arithmetic.{#, ◌⊕◌, ◌⊖◌, ◌⊗◌, ◌⊘◌, 0f, ½, 1f, ∞, -∞}
use Rattle.floats.specs.Small.{is_finite, max_of, min_of, abs_of}
use Rattle.floats.specs.Fold.{fold_to, sum_to}
use Rattle.floats.specs.Vector.{at, vec}
use Rattle.floats.specs.Outcome.{Out, ok, no, bind, need, choose}
use Rattle.numerics.specs.Numerics.{exp_of, ln_of}
use Rattle.thermo_types.specs.Quantities.{positive_of}
use Rattle.thermo_types.specs.declared.ActivityOptions.{ActivityOptions}
use Rattle.jet.specs.declared.Jet.{Jet}
use Rattle.jet.specs.Jets.{scale_j, ln_j, sum_jet_to}
use Rattle.excess.specs.State.{Excess, state_from, with_state}
use Rattle.wilson_tables.specs.Pair.{lambda_ij}
use Rattle.wilson.specs.Sums.{wilson_from, gibbs_of_ln}
use Rattle.thermo_models.specs.Model.{Activity, Pures, Activities, Liquids}
use Rattle.rachford_rice.specs.Rachford.{Solution, validate, iterate}
use Rattle.saturation.specs.Saturation.{Bubble, Dew, Saturation, dew_at}
use Rattle.saturation_temperature.specs.Search.{Point}
use Rattle.saturation_temperature.specs.Boiling.{dew_found, saturation_temperature}
use Rattle.liquid_stability.specs.Stability.{Trials, no_trials, with_trial, present_count, tangent, start_of, trial_from}
use Rattle.tp_flash.specs.Split.{Split, split_turn}

-- ---- 1. an absent solvent's vapor pressure in the bubble pressure's sum
-- `partial_of` of Saturation.antt, which has 0 in place of the last p_i^sat
unfoldable pub leaky_partial : List Float → List Float → List Float → ℕ → Float
leaky_partial x lg ps i = cond (lt 0f (at x i)) (at x i ⊗ exp_of (at lg i) ⊗ at ps i) (at ps i)

-- `bubble_from` over it
unfoldable pub leaky_bubble : List Float → List Float → List Float → ℕ → Out Bubble
leaky_bubble x lg ps n =
    need (is_finite (sum_to (leaky_partial x lg ps) n)) 25
    (need (not (le (sum_to (leaky_partial x lg ps) n) 0f)) 25
    (ok (record { pressure = sum_to (leaky_partial x lg ps) n; vapor = vec (λ i. leaky_partial x lg ps i ⊘ sum_to (leaky_partial x lg ps) n) n })))

-- ---- 2. K bounds over all solvents
module _ (z k : ℕ → Float) (n : ℕ) where
  -- `k_max` and `k_min` of Rachford.antt, which step at `active z` alone
  unfoldable pub leaky_max : Float
  leaky_max = fold_to (λ i s. max_of s (k i)) -∞ n

  unfoldable pub leaky_min : Float
  leaky_min = fold_to (λ i s. min_of s (k i)) ∞ n

  -- `negative` with `between` over them
  unfoldable pub leaky_negative : ℕ → Out Solution
  leaky_negative limit =
      validate z k n
      (need (not (le leaky_max 1f)) 28
      (need (not (le 1f leaky_min)) 28
      (iterate z k n limit 0 (1f ⊘ (1f ⊖ leaky_max)) (1f ⊘ (1f ⊖ leaky_min)) ½)))

-- ---- 3. the flash's convergence test over all solvents
-- the change of ln γ, which at a solvent present is the gap of ln fugacities before rounding. The gap itself leaks nothing (`gap_of_all` in proofs/Leaks.antt)
unfoldable pub leaky_change : List Float → List Float → ℕ → Float
leaky_change new old n = fold_to (λ i r. max_of r (abs_of (at new i ⊖ at old i))) 0f n

module _ (E : List Float → Out Activity) (ps : List Float) (n : ℕ) (p : Float) (z : List Float) where
  -- `split_from` of Split.antt, which tests `turn.split.residual`, over positive z
  unfoldable pub leaky_split : Float → ℕ → ℕ → List Float → Out Split
  leaky_split tolerance zero done lg = no 27
  leaky_split tolerance (suc left) done lg =
      bind (split_turn E ps n p z lg (suc done)) (λ turn.
      choose (le (leaky_change turn.activity.ln_gamma lg n) tolerance)
      (ok turn.split)
      (leaky_split tolerance left (suc done) turn.activity.ln_gamma))

-- ---- 4. a trial numbered by its place among the solvents present
module _ (E : List Float → Out Activity) (n : ℕ) (o : ActivityOptions) (x : List Float) where
  -- `trials_to` of Stability.antt, which has the solvent's index k in place of the count of trials before it
  unfoldable pub leaky_trials : List Float → ℕ → Out Trials
  leaky_trials d zero = ok no_trials
  leaky_trials d (suc k) =
      bind (leaky_trials d k) (λ s.
      choose (lt 0f (at x k))
      (bind (trial_from E o.tm_threshold n x d s.count o.max_iterations 0 (start_of x n k)) (λ r. ok (with_trial o.tm_threshold s r)))
      (ok s))

  -- `stability_of` over it
  unfoldable pub leaky_stability : Out Trials
  leaky_stability =
      bind (E x) (λ a.
      choose (ltb (present_count x n) 2)
      (ok no_trials)
      (leaky_trials (tangent x a.ln_gamma n) n))

-- ---- 5. the dew temperature's slope over all solvents
-- `dew_slope` of Boiling.antt, which steps at `active (at y)` alone
unfoldable pub leaky_slope : Dew → Pures → ℕ → Float
leaky_slope d pure n = sum_to (λ i. at d.liquid i ⊗ (at d.activity.slopes i ⊕ at pure.slope i)) n

module _ (E : Activities) (L : Liquids) (n : ℕ) (o : ActivityOptions) (p : Float) (y : List Float) where
  -- `dew_point` over it
  unfoldable pub leaky_point : Float → Out Point
  leaky_point t =
      bind (positive_of t 13) (λ T.
      bind (L T) (λ pure.
      bind (dew_at (E T) pure.pressure n o y) (λ d.
      ok (record { value = ln_of d.pressure ⊖ ln_of p; slope = leaky_slope d pure n }))))

  -- `dew_temperature` over it
  unfoldable pub leaky_temperature : Out Saturation
  leaky_temperature = saturation_temperature leaky_point (dew_found E L n o p y) o p

-- ---- 6. a floor under the fractions in Wilson's sums, so that no S is 0 and every ln S is finite
module _ (P : List Float) (n : ℕ) (t : Float) (x : ℕ → Float) where
  -- `row_s` of Sums.antt, which has x_j alone in place of the larger of x_j and 2^-40
  unfoldable pub leaky_s : ℕ → Jet
  leaky_s i = sum_jet_to (λ j. scale_j (lambda_ij P t i j) (max_of (x j) (# 0x3d70000000000000))) n

  abbrev pub leaky_ln_s : ℕ → Jet
  leaky_ln_s i = ln_j (leaky_s i)

  -- `wilson_of` over it
  unfoldable pub leaky_wilson : Out Excess
  leaky_wilson = with_state t x n (state_from (gibbs_of_ln leaky_ln_s x n) (wilson_from (lambda_ij P t) leaky_s leaky_ln_s x n) n t)
