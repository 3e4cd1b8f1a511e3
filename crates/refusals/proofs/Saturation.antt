-- Bubble and dew points at a temperature, for any activity model and pure liquids whose refusals are numbered. Assumes nothing.
use Prim.Native.Nat.{ℕ, zero, suc}
use mathlib.Core.List.{List}
use lib.Ieee.{Float}
use Rattle.floats.specs.Outcome.{Out}
use Rattle.thermo_types.specs.declared.ActivityOptions.{ActivityOptions}
use Rattle.thermo_models.specs.Model.{Activity, Activities, Liquids}
use Rattle.saturation.specs.Saturation.{bubble_from, residual_with, dew_liquid, bubble_at, residual, dew_turn, dew_point, dew_loop, dew_at, bubble_task, dew_task, bubble_pressure, dew_pressure_point}
use Rattle.refusals.specs.Numbered.{Among}
use Rattle.refusals.proofs.Laws.{numbers}
use Rattle.refusals.proofs.Models.{num_normalize}
use mathlib.Core.Bool.{Bool}
use Rattle.book.specs.declared.Model.{Model}

-- for a book of model M
module _ {own : Bool} {M : Model} where
  pub num_residual_with : (lg ps : List Float) (p : Float) (x y : List Float) (n : ℕ) → Among own M (residual_with lg ps p x y n)
  unfolding residual_with
  num_residual_with lg ps p x y n = search numbers

  module _ (E : List Float → Out Activity) (h : (x : List Float) → Among own M (E x)) (ps : List Float) (n : ℕ) where
    pub num_bubble_at : (x : List Float) → Among own M (bubble_at E ps n x)
    unfolding bubble_at bubble_from
    num_bubble_at x = search numbers

    pub num_residual : (p : Float) (x y : List Float) → Among own M (residual E ps n p x y)
    unfolding residual
    num_residual p x y = search (numbers, num_residual_with)

    num_dew_point : (y lg : List Float) (iteration : ℕ) → Among own M (dew_point E ps n y lg iteration)
    unfolding dew_point dew_liquid
    num_dew_point y lg iteration = search (numbers, num_normalize, num_residual_with)

    num_dew_loop : (y : List Float) (tolerance : Float) (left done : ℕ) (lg : List Float) → Among own M (dew_loop E ps n y tolerance left done lg)
    unfolding dew_loop dew_turn dew_liquid
    num_dew_loop y tolerance zero done lg = search numbers
    num_dew_loop y tolerance (suc left) done lg = search (numbers, num_normalize, num_dew_point, num_dew_loop y tolerance left) depth 8

    pub num_dew_at : (o : ActivityOptions) (y : List Float) → Among own M (dew_at E ps n o y)
    unfolding dew_at
    num_dew_at o y = num_dew_loop y _ _ 0 _

  module _ (E : Activities) (h : (t : Float) (x : List Float) → Among own M (E t x)) (L : Liquids) (g : (t : Float) → Among own M (L t)) (n : ℕ) where
    pub num_bubble_pressure : (t : Float) (x : List Float) → Among own M (bubble_pressure E L n t x)
    unfolding bubble_pressure bubble_task
    num_bubble_pressure t x = search (numbers, num_bubble_at, num_residual) depth 6

    pub num_dew_pressure : (o : ActivityOptions) (t : Float) (y : List Float) → Among own M (dew_pressure_point E L n o t y)
    unfolding dew_pressure_point dew_task
    num_dew_pressure o t y = search (numbers, num_dew_at)
