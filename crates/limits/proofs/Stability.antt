-- Trials of a liquid that end within M are the same at any greater limit, their evaluations too. Assumes nothing.
use mathlib.Core.Path.{refl}
use mathlib.Core.List.{List}
use Prim.Native.Nat.{ℕ, zero, suc, ◌≤◌}
use lib.Ieee.{Float}
use Rattle.floats.specs.Outcome.{Out}
use Rattle.thermo_types.specs.declared.ActivityOptions.{ActivityOptions}
use Rattle.thermo_models.specs.Model.{Activity}
use Rattle.liquid_stability.specs.Stability.{stability_of}
use Rattle.liquid_stability.specs.Counted.{judge_counted, trial_counted, trials_counted, stability_counted}
use Rattle.liquid_stability.proofs.Forgets.{stability_outcome}
use Rattle.limits.specs.Kept.{Kept, KeptCounted, Spent, options_with}
use Rattle.limits.proofs.Kept.{raised, counting, counted_refl, counted-no, counted-need, counted-choose, counted-bind, counted-outcome}

module _ (E : List Float → Out Activity) (n : ℕ) (x : List Float) where
  -- trial j from ln W after `done` turns
  pub kept-trial : (threshold : Float) (d : List Float) (j M M' : ℕ) → M ≤ M' → (done : ℕ) (lnW : List Float)
      → KeptCounted Spent (trial_counted E threshold n x d j M done lnW) (trial_counted E threshold n x d j M' done lnW)
  unfolding trial_counted judge_counted
  kept-trial threshold d j M M' h done lnW =
      raised {S = ℕ × List Float} (KeptCounted Spent) (λ l s. trial_counted E threshold n x d j l s.0 s.1) (λ s. counted-no 27 refl)
      (λ l m rest s. counted-bind counted_refl (λ a. counted-need _ 25 (counted-choose _ counted_refl (counted-choose _ counted_refl (rest (_, _))))))
      M M' h (done, lnW)

  module _ (o : ActivityOptions) (M M' N N' : ℕ) (h : M ≤ M') where
    kept-trials : (d : List Float) (k : ℕ) → KeptCounted Spent (trials_counted E n (options_with o M N) x d k) (trials_counted E n (options_with o M' N') x d k)
    unfolding trials_counted
    kept-trials d zero = counted_refl
    kept-trials d (suc k) = let rest = kept-trials d k in search (counting, kept-trial)

    pub kept_stability : KeptCounted Spent (stability_counted E n (options_with o M N) x) (stability_counted E n (options_with o M' N') x)
    unfolding stability_counted
    kept_stability = search (counting, kept-trials)

    pub kept-stability_of : Kept Spent (stability_of E n (options_with o M N) x) (stability_of E n (options_with o M' N') x)
    kept-stability_of = rw (← stability_outcome E n (options_with o M N) x, ← stability_outcome E n (options_with o M' N') x) (counted-outcome kept_stability)
