-- A dew point found within M is the same at any greater limit, its evaluations too. Assumes nothing.
use mathlib.Core.Path.{refl}
use mathlib.Core.List.{List}
use Prim.Native.Nat.{ℕ, ◌≤◌}
use lib.Ieee.{Float}
use Rattle.floats.specs.Outcome.{Out}
use Rattle.thermo_types.specs.declared.ActivityOptions.{ActivityOptions}
use Rattle.thermo_models.specs.Model.{Activity, Activities, Liquids}
use Rattle.saturation.specs.Saturation.{dew_at, dew_task, dew_pressure_point}
use Rattle.saturation.specs.Counted.{dew_loop_counted, dew_counted}
use Rattle.saturation.proofs.Forgets.{dew-outcome}
use Rattle.limits.specs.Kept.{Kept, KeptCounted, Spent, options_with}
use Rattle.limits.proofs.Kept.{raised, keeping, counted_refl, counted-no, counted-choose, counted-bind, counted-outcome}

module _ (E : List Float → Out Activity) (ps : List Float) (n : ℕ) where
  -- from ln γ after `done` turns
  pub kept-dew_loop : (y : List Float) (tolerance : Float) (M M' : ℕ) → M ≤ M' → (done : ℕ) (lg : List Float)
      → KeptCounted Spent (dew_loop_counted E ps n y tolerance M done lg) (dew_loop_counted E ps n y tolerance M' done lg)
  unfolding dew_loop_counted
  kept-dew_loop y tolerance M M' h done lg =
      raised {S = ℕ × List Float} (KeptCounted Spent) (λ l s. dew_loop_counted E ps n y tolerance l s.0 s.1) (λ s. counted-no 27 refl)
      (λ l m rest s. counted-bind counted_refl (λ a. counted-choose _ counted_refl (rest (_, _)))) M M' h (done, lg)

  module _ (o : ActivityOptions) (M M' N N' : ℕ) (h : M ≤ M') where
    pub kept-dew : (y : List Float) → KeptCounted Spent (dew_counted E ps n (options_with o M N) y) (dew_counted E ps n (options_with o M' N') y)
    unfolding dew_counted
    kept-dew y = kept-dew_loop y o.tolerance M M' h 0 _

    pub kept-dew_at : (y : List Float) → Kept Spent (dew_at E ps n (options_with o M N) y) (dew_at E ps n (options_with o M' N') y)
    kept-dew_at y = rw (← dew-outcome E ps n (options_with o M N) y, ← dew-outcome E ps n (options_with o M' N') y) (counted-outcome (kept-dew y))

    kept-dew_task : (t : Float) (y : List Float) → Kept Spent (dew_task E ps n (options_with o M N) t y) (dew_task E ps n (options_with o M' N') t y)
    unfolding dew_task
    kept-dew_task t y = search (keeping, kept-dew_at)

module _ (E : Activities) (L : Liquids) (n : ℕ) (o : ActivityOptions) (M M' N N' : ℕ) (h : M ≤ M') where
  pub kept-dew_pressure : (t : Float) (y : List Float)
      → Kept Spent (dew_pressure_point E L n (options_with o M N) t y) (dew_pressure_point E L n (options_with o M' N') t y)
  unfolding dew_pressure_point
  kept-dew_pressure t y = search (keeping, kept-dew_task)
