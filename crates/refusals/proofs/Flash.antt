-- The flash at T and p, for any activity model and pure liquids whose refusals are numbered. Assumes nothing.
use Prim.Native.Nat.{ℕ, zero, suc}
use mathlib.Core.Bool.{Bool}
use mathlib.Core.List.{List}
use lib.Ieee.{Float}
use Rattle.floats.specs.Outcome.{Out}
use Rattle.thermo_types.specs.declared.ActivityOptions.{ActivityOptions}
use Rattle.thermo_models.specs.Model.{Activity, Activities, Liquids}
use Rattle.tp_flash.specs.Split.{Split, phase_of, turn_at, split_turn, split_from}
use Rattle.tp_flash.specs.Tp.{stable_liquid, dew_of, as_vapor, as_liquid, as_both, boundary_of, from_split, split_feed, between_of, from_dew, phases_of, tp_flash}
use Rattle.tp_flash.specs.Counted.{flash_counted}
use Rattle.tp_flash.proofs.Forgets.{flash-outcome}
use Rattle.refusals.specs.Numbered.{Among}
use Rattle.refusals.proofs.Laws.{numbers}
use Rattle.refusals.proofs.Models.{num_fractions, num_normalize}
use Rattle.refusals.proofs.Rice.{num_negative}
use Rattle.refusals.proofs.Saturation.{num_bubble_at, num_dew_at}
use Rattle.refusals.proofs.Stability.{num_stability}
use Rattle.book.specs.declared.Model.{Model}

-- for a book of model M
module _ {own : Bool} {M : Model} where
  num_vapor : (n : ℕ) (z : List Float) (bubble dew : Float) (notes : ℕ) → Among own M (as_vapor n z bubble dew notes)
  unfolding as_vapor
  num_vapor n z bubble dew notes = search (numbers, num_fractions)

  module _ (E : List Float → Out Activity) (h : (x : List Float) → Among own M (E x)) where
    num_split : (ps : List Float) (n : ℕ) (p : Float) (z : List Float) (tolerance : Float) (left done : ℕ) (lg : List Float) → Among own M (split_from E ps n p z tolerance left done lg)
    unfolding split_from split_turn phase_of turn_at
    num_split ps n p z tolerance zero done lg = search numbers
    num_split ps n p z tolerance (suc left) done lg = search (numbers, num_negative, num_normalize, num_split ps n p z tolerance left) depth 8

    module _ (n : ℕ) (o : ActivityOptions) (z : List Float) where
      num_liquid : (bubble dew : Float) (notes : ℕ) → Among own M (as_liquid E n o z bubble dew notes)
      unfolding as_liquid stable_liquid
      num_liquid bubble dew notes = search (numbers, num_fractions, num_stability)

      num_from_split : (bubble dew : Float) (s : Split) → Among own M (from_split E n o z bubble dew s)
      unfolding from_split boundary_of as_both stable_liquid
      num_from_split bubble dew s = search (numbers, num_fractions, num_stability, num_vapor, num_liquid) depth 7

      num_phases : (p : Float) (ps : List Float) → Among own M (phases_of E n o z p ps)
      unfolding phases_of from_dew dew_of between_of split_feed
      num_phases p ps = search (numbers, num_bubble_at, num_dew_at, num_vapor, num_liquid, num_split, num_from_split) depth 8

  num_tp_flash : (E : Activities) → ((t : Float) (x : List Float) → Among own M (E t x)) → (L : Liquids) → ((t : Float) → Among own M (L t))
      → (D : Float → Bool) (n : ℕ) (o : ActivityOptions) (t : Float) (z : List Float) (p : Float) → Among own M (tp_flash E L D n o t z p)
  unfolding tp_flash
  num_tp_flash E h L g D n o t z p = search (numbers, num_phases)

  -- with its count
  pub num_flash : (E : Activities) → ((t : Float) (x : List Float) → Among own M (E t x)) → (L : Liquids) → ((t : Float) → Among own M (L t))
      → (D : Float → Bool) (n : ℕ) (o : ActivityOptions) (t : Float) (z : List Float) (p : Float) → Among own M (flash_counted E L D n o t z p).outcome
  num_flash E h L g D n o t z p = rw (flash-outcome E L D n o t z p) (num_tp_flash E h L g D n o t z p)
