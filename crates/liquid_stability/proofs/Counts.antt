-- At most n trials, in an array of eight. Assumes nothing.
use mathlib.Core.Path.{◌≡◌}
use mathlib.Core.List.{List}
use Prim.Native.Nat.{ℕ, zero, suc, ◌≤◌}
use native.Mathlib.Omega.{arith}
use lib.ListN.{length, length-set, length-replicate}
use lib.Ieee.{Float}
use Rattle.floats.specs.Outcome.{Out}
use Rattle.floats.proofs.Outcomes.{Each, each-ok, each-choose, each-bind}
use Rattle.thermo_types.specs.declared.ActivityOptions.{ActivityOptions}
use Rattle.thermo_models.specs.Model.{Activity}
use Rattle.liquid_stability.specs.Stability.{Trials, no_trial, no_trials, with_trial, trials_to, stability_of}

-- at most n trials in an array of eight
pub record Few (n : ℕ) (s : Trials) : Type 0 where
  pub count : s.count ≤ n
  pub eight : length s.trials ≡ 8

pub few-none : (n : ℕ) → Few n no_trials
unfolding no_trials
few-none n = record { count = omega arith; eight = length-replicate 8 no_trial }

few-more : (n k : ℕ) {s : Trials} → k ≤ n → Few k s → Few n s
few-more n k l h = record { count = omega (arith, h.count); eight = h.eight }

module _ (E : List Float → Out Activity) (n : ℕ) (o : ActivityOptions) (x : List Float) where
  trials-few : (d : List Float) (k : ℕ) → Each (Few k) (trials_to E n o x d k)
  unfolding trials_to with_trial
  trials-few d zero = each-ok (Few 0) (few-none 0)
  trials-few d (suc k) =
      each-bind (Few (suc k)) _ _ (λ s e.
      let h = (trials-few d k).each s e in
      each-choose (Few (suc k)) _
      (each-bind (Few (suc k)) _ _ (λ r q. each-ok (Few (suc k)) (record { count = omega (arith, h.count); eight = rw length-set h.eight })))
      (each-ok (Few (suc k)) (few-more (suc k) k (omega arith) h)))

  pub stability_few : Each (Few n) (stability_of E n o x)
  unfolding stability_of
  stability_few = each-bind (Few n) _ _ (λ a e. each-choose (Few n) _ (each-ok (Few n) (few-none n)) (trials-few _ n))
