-- At most so many: the dew point, the trials of a liquid, and the split, whose liquid is positive only where the feed is. Assumes nothing.
use Prim.Native.Nat.{ℕ, zero, suc, ◌*◌, ◌≤◌}
use mathlib.Core.List.{List}
use lib.Ieee.{Float}
use Rattle.floats.specs.Fold.{fold_to}
use Rattle.floats.specs.Outcome.{Out}
use Rattle.floats.proofs.Outcomes.{Each, each-ok, each-no, each-need, each-choose, each-bind}
use Rattle.counted.proofs.Laws.{most-need, most-choose, most-after}
use Rattle.thermo_types.specs.declared.ActivityOptions.{ActivityOptions}
use Rattle.thermo_models.specs.Model.{Activity}
use Rattle.saturation.specs.Counted.{dew_turn_counted, dew_point_counted, dew_loop_counted, dew_counted}
use Rattle.liquid_stability.specs.Stability.{present_count, next_of}
use Rattle.liquid_stability.specs.Counted.{judge_counted, trial_counted, trials_counted, stability_counted}
use Rattle.tp_flash.specs.Split.{Split, Turn, turn_at, split_turn, split_from}
use Rattle.tp_flash.specs.Counted.{split_turn_counted, split_counted}
use Rattle.tp_flash.proofs.Forgets.{split-outcome}
use Rattle.evaluations.proofs.Counts.{none-most, one-most, after-most, most-turn, most-rest, most_then, most-more}
use Rattle.evaluations.proofs.Present.{Within, phase_within}

module _ (E : List Float → Out Activity) where
  -- ---- the dew point: one a turn, and one at its liquid
  module _ (ps : List Float) (n : ℕ) where
    most_loop : (y : List Float) (tolerance : Float) (left done : ℕ) (lg : List Float) → (dew_loop_counted E ps n y tolerance left done lg).begun ≤ suc left
    unfolding dew_loop_counted dew_turn_counted dew_point_counted
    most_loop y tolerance zero done lg = none-most _ _
    most_loop y tolerance (suc left) done lg =
        most-turn _ _ (most-after _ _) (λ a.
        most-choose _ _ _ (after-most _ _ left) (most_loop y tolerance left (suc done) a.ln_gamma))

    pub most-dew : (o : ActivityOptions) (y : List Float) → (dew_counted E ps n o y).begun ≤ suc o.max_iterations
    unfolding dew_counted
    most-dew o y = most_loop y _ _ 0 _

  -- ---- the trials: one a turn, a trial for each positive entry, and one at the liquid
  most-trial : (threshold : Float) (n : ℕ) (x d : List Float) (j left done : ℕ) (lnW : List Float)
      → (trial_counted E threshold n x d j left done lnW).begun ≤ left
  unfolding trial_counted judge_counted
  most-trial threshold n x d j zero done lnW = none-most _ _
  most-trial threshold n x d j (suc left) done lnW =
      most-turn _ _ (one-most _) (λ a.
      most-need _ _ _ (most-choose _ _ _ (none-most _ _) (most-choose _ _ _ (none-most _ _)
      (most-trial threshold n x d j left (suc done) (next_of d a.ln_gamma n)))))

  module _ (n : ℕ) (o : ActivityOptions) (x : List Float) where
    most-trials : (d : List Float) (k : ℕ) → (trials_counted E n o x d k).begun ≤ present_count x k * o.max_iterations
    unfolding trials_counted present_count fold_to
    most-trials d zero = none-most _ _
    most-trials d (suc k) = most-more _ _ _ _ _ (most-trials d k) (λ s. most_then _ _ (most-trial _ n x d k _ 0 _) (λ r. none-most _ 0)) (λ s. none-most _ 0)

    pub most_stability : (stability_counted E n o x).begun ≤ suc (present_count x n * o.max_iterations)
    unfolding stability_counted
    most_stability = most-turn _ _ (one-most _) (λ a. most-choose _ _ _ (none-most _ _) (most-trials _ n))

  -- ---- the split: one a turn
  module _ (ps : List Float) (n : ℕ) (p : Float) (z : List Float) where
    one-turn : (lg : List Float) (iteration : ℕ) → (split_turn_counted E ps n p z lg iteration).begun ≤ 1
    unfolding split_turn_counted
    one-turn lg iteration = most-rest _ _ (none-most _ 0) (λ rr. most-rest _ _ (none-most _ 0) (λ x. most-rest _ _ (none-most _ 0) (λ y. one-most _)))

    pub most-split : (tolerance : Float) (left done : ℕ) (lg : List Float) → (split_counted E ps n p z tolerance left done lg).begun ≤ left
    unfolding split_counted
    most-split tolerance zero done lg = none-most _ _
    most-split tolerance (suc left) done lg =
        most-turn _ _ (one-turn _ _) (λ turn.
        most-choose _ _ _ (none-most _ _) (most-split tolerance left (suc done) turn.activity.ln_gamma))

    -- its liquid is positive only where the feed is
    TurnWithin : Turn → Type 0
    TurnWithin t = Within z t.split.liquid

    abbrev pub SplitWithin : Split → Type 0
    SplitWithin s = Within z s.liquid

    turn-within : (lg : List Float) (iteration : ℕ) → Each TurnWithin (split_turn E ps n p z lg iteration)
    unfolding split_turn turn_at TurnWithin
    turn-within lg iteration =
        let P = TurnWithin in
        each-bind P _ _ (λ rr e.
        each-bind P _ _ (λ x u.
        each-bind P _ _ (λ y w.
        each-bind P _ _ (λ a q.
        each-need P _ 25 (each-ok P ((phase_within z rr.liquid n).each x u))))))

    from_within : (tolerance : Float) (left done : ℕ) (lg : List Float) → Each SplitWithin (split_from E ps n p z tolerance left done lg)
    unfolding split_from TurnWithin
    from_within tolerance zero done lg = each-no SplitWithin 27
    from_within tolerance (suc left) done lg =
        let P = SplitWithin in
        each-bind P _ _ (λ turn e.
        each-choose P _ (each-ok P ((turn-within lg (suc done)).each turn e)) (from_within tolerance left (suc done) turn.activity.ln_gamma))

    pub split-within : (tolerance : Float) (left done : ℕ) (lg : List Float) → Each SplitWithin (split_counted E ps n p z tolerance left done lg).outcome
    split-within tolerance left done lg = rw (split-outcome E ps n p z tolerance left done lg) (from_within tolerance left done lg)
