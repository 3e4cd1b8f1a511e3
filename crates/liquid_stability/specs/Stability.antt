-- Near-pure tangent-plane trials of a liquid (Michelsen 1982), as rounded steps in the order of activity.rs, over an activity model E at T.
-- One trial starts near each solvent present; a solvent is named by its index in the book, never by its place among those present. Assumes nothing.
use Rattle.std.specs.Prelude.{ℕ, zero, suc, ◌-◌, Bool, true, false, not, cond, ◌&&◌, List, eqb, ltb, pos, set, replicate, Float}
use Rattle.std.specs.Float.{binary64}
use Rattle.std.specs.Float.Ieee.{lt, le, of_int}
use Rattle.floats.specs.Arithmetic.{◌⊕◌, ◌⊖◌, ◌⊗◌, ◌⊘◌, #, 0f, 1f}
use Rattle.floats.specs.Small.{is_finite, max_of, abs_of}
use Rattle.floats.specs.Fold.{fold_to, active}
use Rattle.floats.specs.Vector.{at, vec, zeros8}
use Rattle.floats.specs.Outcome.{Out, ok, no, bind, need, choose}
use Rattle.numerics.specs.Numerics.{exp_of, ln_of}
use Rattle.thermo_types.specs.declared.ActivityOptions.{ActivityOptions}
use Rattle.thermo_models.specs.Model.{Activity}
use Rattle.liquid_stability.specs.declared.LiquidStabilityTrial.{LiquidStabilityTrial}
use Rattle.liquid_stability.specs.declared.LiquidStability.{LiquidStability}

-- at the start 0.001 is shared by the solvents that the trial isn't near
abbrev pub start_rest : Float
start_rest = # 0x3f50624dd2f1a9fc

-- a trial is back at the tested composition within 1e-6
abbrev pub trivial_distance : Float
trivial_distance = # 0x3eb0c6f7a0b5ed8d

-- a trial has converged where ln W changes by at most 1e-10
abbrev pub ln_w_tolerance : Float
ln_w_tolerance = # 0x3ddb7cdfd9d7bdbb

-- how many solvents are present
unfoldable pub present_count : List Float → ℕ → ℕ
present_count x n = fold_to (active (at x) (λ i c. suc c)) 0 n

-- d_i = ln x_i + ln γ_i(x) at positive x_i
unfoldable pub tangent : List Float → List Float → ℕ → List Float
tangent x lg n = vec (λ i. cond (lt 0f (at x i)) (ln_of (at x i) ⊕ at lg i) 0f) n

-- ln W at the start of the trial near solvent j, with so many other solvents present
unfoldable pub start_from : Float → ℕ → ℕ → List Float
start_from others n j = vec (λ i. cond (eqb i j) (ln_of (1f ⊖ start_rest)) (ln_of (start_rest ⊘ others))) n

unfoldable pub others_in : List Float → ℕ → Float
others_in x n = of_int binary64 (pos (present_count x n - 1))

abbrev pub start_of : List Float → ℕ → ℕ → List Float
start_of x n j = start_from (others_in x n) n j

-- W_i = exp ln W_i, summed over the solvents present
unfoldable pub total_of : List Float → List Float → ℕ → Float
total_of x lnW n = fold_to (active (at x) (λ i s. s ⊕ exp_of (at lnW i))) 0f n

-- w_i = W_i / Σ W
unfoldable pub trial_composition : List Float → List Float → ℕ → List Float
trial_composition x lnW n = vec (λ i. cond (lt 0f (at x i)) (exp_of (at lnW i) ⊘ total_of x lnW n) 0f) n

-- tm = 1 + Σ W_i (ln W_i + ln γ_i(w) - d_i - 1)
unfoldable pub distance_of : List Float → List Float → List Float → List Float → ℕ → Float
distance_of x lnW lg d n = fold_to (active (at x) (λ i s. s ⊕ exp_of (at lnW i) ⊗ (at lnW i ⊕ at lg i ⊖ at d i ⊖ 1f))) 1f n

-- ln W_i = d_i - ln γ_i(w) next
unfoldable pub next_of : List Float → List Float → ℕ → List Float
next_of d lg n = vec (λ i. at d i ⊖ at lg i) n

-- the largest change of ln W, and of w from x, over the solvents present
unfoldable pub change_of : List Float → List Float → List Float → List Float → ℕ → Float
change_of x lnW lg d n = fold_to (active (at x) (λ i r. max_of r (abs_of (at d i ⊖ at lg i ⊖ at lnW i)))) 0f n

unfoldable pub apart_of : List Float → List Float → ℕ → Float
apart_of x w n = fold_to (active (at x) (λ i r. max_of r (abs_of (at w i ⊖ at x i)))) 0f n

abbrev pub trivial_at : List Float → List Float → ℕ → Bool
trivial_at x w n = le (apart_of x w n) trivial_distance

-- tm is below the threshold, and the trial isn't trivial
unfoldable pub unstable : Float → Float → Bool → Bool
unstable threshold tm trivial = lt tm threshold && not trivial

unfoldable pub trial_with : ℕ → Float → List Float → ℕ → Bool → LiquidStabilityTrial
trial_with j tm w iteration trivial = record { component = j; distance = tm; composition = w; iterations = iteration; trivial = trivial }

-- an entry of the array that no trial has filled
unfoldable pub no_trial : LiquidStabilityTrial
no_trial = trial_with 0 0f zeros8 0 false

-- the code's struct: whether the liquid is stable in the trials so far, their number, and the trials in order
abbrev pub Trials : Type 0
Trials = LiquidStability

unfoldable pub no_trials : Trials
no_trials = record { stable = true; count = 0; trials = replicate 8 no_trial }

unfoldable pub with_trial : Float → Trials → LiquidStabilityTrial → Trials
with_trial threshold s r = record {
  stable = s.stable && not (unstable threshold r.distance r.trivial);
  count = suc s.count;
  trials = set s.trials s.count r;
}

-- how a turn goes on: 25 where tm isn't finite; the trial `found` (trivial or not) where tm is below the threshold or the trial has converged; else the rest
unfoldable pub judge : Float → Float → Float → Bool → (Bool → LiquidStabilityTrial) → Out LiquidStabilityTrial → Out LiquidStabilityTrial
judge threshold tm change trivial found rest =
    need (is_finite tm) 25
    (choose (unstable threshold tm trivial)
    (ok (found false))
    (choose (le change ln_w_tolerance)
    (ok (found trivial))
    rest))

-- trial j from ln W after `done` turns, with `left` turns left; 27 where no turn is left
unfoldable pub trial_from : (List Float → Out Activity) → Float → ℕ → List Float → List Float → ℕ → ℕ → ℕ → List Float → Out LiquidStabilityTrial
trial_from E threshold n x d j zero done lnW = no 27
trial_from E threshold n x d j (suc left) done lnW =
    let w = trial_composition x lnW n in
    bind (E w) (λ a.
    let tm = distance_of x lnW a.ln_gamma d n in
    judge threshold tm (change_of x lnW a.ln_gamma d n) (trivial_at x w n) (trial_with j tm w (suc done))
    (trial_from E threshold n x d j left (suc done) (next_of d a.ln_gamma n)))

module _ (E : List Float → Out Activity) (n : ℕ) (o : ActivityOptions) (x : List Float) where
  -- the trials of the solvents present below k, in the order of their indices
  unfoldable pub trials_to : List Float → ℕ → Out Trials
  trials_to d zero = ok no_trials
  trials_to d (suc k) =
      bind (trials_to d k) (λ s.
      choose (lt 0f (at x k))
      (bind (trial_from E o.tm_threshold n x d k o.max_iterations 0 (start_of x n k)) (λ r. ok (with_trial o.tm_threshold s r)))
      (ok s))

  -- `liquid_stability`: the activity at x (24, 25) stands before "fewer than two solvents present: stable, no trials"
  unfoldable pub stability_of : Out Trials
  stability_of =
      bind (E x) (λ a.
      choose (ltb (present_count x n) 2)
      (ok no_trials)
      (trials_to (tangent x a.ln_gamma n) n))
