-- Liquid trials, for any activity model whose refusals are numbered. Assumes nothing.
use Prim.Native.Nat.{ℕ, zero, suc}
use mathlib.Core.List.{List}
use lib.Ieee.{Float}
use Rattle.floats.specs.Outcome.{Out}
use Rattle.thermo_types.specs.declared.ActivityOptions.{ActivityOptions}
use Rattle.thermo_models.specs.Model.{Activity}
use Rattle.liquid_stability.specs.Stability.{judge, trial_from, trials_to, stability_of}
use Rattle.refusals.specs.Numbered.{Among}
use Rattle.refusals.proofs.Laws.{numbers}
use mathlib.Core.Bool.{Bool}
use Rattle.book.specs.declared.Model.{Model}

-- for a book of model M
module _ {own : Bool} {M : Model} where
  module _ (E : List Float → Out Activity) (h : (x : List Float) → Among own M (E x)) (n : ℕ) where
    num_trial : (threshold : Float) (x d : List Float) (j left done : ℕ) (lnW : List Float) → Among own M (trial_from E threshold n x d j left done lnW)
    unfolding trial_from judge
    num_trial threshold x d j zero done lnW = search numbers
    num_trial threshold x d j (suc left) done lnW = search (numbers, num_trial threshold x d j left)

    module _ (o : ActivityOptions) (x : List Float) where
      num_trials : (d : List Float) (k : ℕ) → Among own M (trials_to E n o x d k)
      unfolding trials_to
      num_trials d zero = search numbers
      num_trials d (suc k) = let g = num_trials d k in search (numbers, num_trial)

      pub num_stability : Among own M (stability_of E n o x)
      unfolding stability_of
      num_stability = search (numbers, num_trials)
