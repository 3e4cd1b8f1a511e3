-- The search for a temperature, bubble and dew temperatures, for any activity model and pure liquids whose refusals are numbered. Assumes nothing.
use Prim.Native.Nat.{ℕ, zero, suc}
use mathlib.Core.List.{List}
use lib.Ieee.{Float}
use Rattle.floats.specs.Outcome.{Out}
use Rattle.thermo_types.specs.declared.ActivityOptions.{ActivityOptions}
use Rattle.thermo_models.specs.Model.{Activities, Liquids}
use Rattle.saturation.specs.Saturation.{Saturation}
use Rattle.saturation_temperature.specs.Search.{Point, search_from, solve_temperature}
use Rattle.saturation_temperature.specs.Boiling.{bubble_point_from, dew_point_from, bubble_saturation, dew_saturation, saturation_temperature}
use Rattle.saturation_temperature.specs.Boiling.{bubble_point_at, bubble_point, bubble_found, bubble_temperature, dew_point_at, dew_point, dew_found, dew_temperature}
use Rattle.refusals.specs.Numbered.{Among}
use Rattle.refusals.proofs.Laws.{numbers}
use Rattle.refusals.proofs.Models.{num_positive}
use Rattle.refusals.proofs.Saturation.{num_residual_with, num_bubble_at, num_residual, num_dew_at}
use mathlib.Core.Bool.{Bool}
use Rattle.book.specs.declared.Model.{Model}

-- for a book of model M
module _ {own : Bool} {M : Model} where
  module _ (f : Float → Out Point) (h : (t : Float) → Among own M (f t)) where
    num_search : (tolerance : Float) (left done : ℕ) (b : _) → Among own M (search_from f tolerance left done b)
    unfolding search_from
    num_search tolerance zero done b = search numbers
    num_search tolerance (suc left) done b = search (numbers, num_search tolerance left)

    num_solve : (o : ActivityOptions) → Among own M (solve_temperature f o)
    unfolding solve_temperature
    num_solve o = search (numbers, num_search) depth 7

    num_temperature : (found : ℕ → Float → Out Saturation) → ((k : ℕ) (t : Float) → Among own M (found k t)) → (o : ActivityOptions) (p : Float) → Among own M (saturation_temperature f found o p)
    unfolding saturation_temperature
    num_temperature found g o p = search (numbers, num_positive, num_solve)

  module _ (E : Activities) (h : (t : Float) (x : List Float) → Among own M (E t x)) (L : Liquids) (g : (t : Float) → Among own M (L t)) (n : ℕ) where
    num_bubble_point : (p : Float) (x : List Float) (t : Float) → Among own M (bubble_point E L n p x t)
    unfolding bubble_point bubble_point_at bubble_point_from
    num_bubble_point p x t = search (numbers, num_positive)

    num_bubble_found : (p : Float) (x : List Float) (k : ℕ) (t : Float) → Among own M (bubble_found E L n p x k t)
    unfolding bubble_found bubble_saturation
    num_bubble_found p x k t = search (numbers, num_bubble_at, num_residual)

    pub num_bubble_temperature : (o : ActivityOptions) (p : Float) (x : List Float) → Among own M (bubble_temperature E L n o p x)
    unfolding bubble_temperature
    num_bubble_temperature o p x = num_temperature _ (num_bubble_point p x) _ (num_bubble_found p x) o p

    module _ (o : ActivityOptions) (p : Float) (y : List Float) where
      num_dew_point : (t : Float) → Among own M (dew_point E L n o p y t)
      unfolding dew_point dew_point_at dew_point_from
      num_dew_point t = search (numbers, num_positive, num_dew_at)

      num_dew_found : (k : ℕ) (t : Float) → Among own M (dew_found E L n o p y k t)
      unfolding dew_found dew_saturation
      num_dew_found k t = search (numbers, num_dew_at, num_residual_with)

      pub num_dew_temperature : Among own M (dew_temperature E L n o p y)
      unfolding dew_temperature
      num_dew_temperature = num_temperature _ num_dew_point _ num_dew_found o p
