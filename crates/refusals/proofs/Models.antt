-- Quantities, mole fractions, pure liquids and activity: their refusals are numbered. Assumes nothing.
use Prim.Native.Nat.{ℕ, zero, suc}
use mathlib.Core.List.{List}
use lib.Dec.{T}
use lib.Ieee.{Float}
use Rattle.floats.specs.Vector.{at}
use Rattle.floats.specs.Outcome.{Out}
use Rattle.thermo_types.specs.Quantities.{positive_of}
use Rattle.thermo_types.specs.Composition.{with_fractions, normalize_of}
use Rattle.records.specs.declared.Ancillary.{Ancillary}
use Rattle.liquid.specs.Vapor.{representable, vapor_pressure_of}
use Rattle.excess.specs.State.{state_with, state_from, with_state}
use Rattle.nrtl.specs.State.{nrtl_of}
use Rattle.thermo_models.specs.Domain.{pures_to, pure_liquids_of}
use Rattle.wilson.specs.State.{wilson_of}
use Rattle.thermo_models.specs.Activity.{excess_by, excess_of}
use Rattle.refusals.specs.Numbered.{has_alphas, is_among, Among}
use Rattle.refusals.proofs.Laws.{numbers}
use mathlib.Core.Bool.{Bool}
use Rattle.book.specs.declared.Model.{Model}
use Rattle.book.specs.declared.Model.TheVariants.{Nrtl, Wilson}
use Rattle.book.specs.Book.{model_of}

-- for a book of model M
module _ {own : Bool} {M : Model} where
  pub num_positive : (v : Float) (r : ℕ) → T (is_among own M r) → Among own M (positive_of v r)
  unfolding positive_of
  num_positive v r k = search numbers

  pub num_fractions : {A : Type 0} (x : ℕ → Float) (n : ℕ) {o : Out A} → Among own M o → Among own M (with_fractions x n o)
  unfolding with_fractions
  num_fractions x n h = search numbers

  pub num_normalize : (x : ℕ → Float) (n : ℕ) → Among own M (normalize_of x n)
  unfolding normalize_of
  num_normalize x n = search numbers

  num_vapor : (a : Ancillary) (t : Float) → Among own M (vapor_pressure_of a t)
  unfolding vapor_pressure_of representable
  num_vapor a t = search numbers

  num_pures : (book : List ℕ) (t : Float) (k : ℕ) → Among own M (pures_to book t k)
  unfolding pures_to
  num_pures book t zero = search numbers
  num_pures book t (suc k) = let h = num_pures book t k in search (numbers, num_vapor)

  pub num_liquids : (book : List ℕ) (n : ℕ) (t : Float) → Among own M (pure_liquids_of book n t)
  unfolding pure_liquids_of
  num_liquids book n t = search (numbers, num_pures)

  pub num_wilson : (P : List Float) (n : ℕ) (t : Float) (x : ℕ → Float) → Among own M (wilson_of P n t x)
  unfolding wilson_of with_state state_from state_with
  num_wilson P n t x = search (numbers, num_fractions) depth 12

-- 24 is NRTL's
num_nrtl : {own : Bool} (P : List Float) (n : ℕ) (t : Float) (x : ℕ → Float) → Among own Nrtl (nrtl_of P n t x)
unfolding nrtl_of with_state state_from state_with has_alphas
num_nrtl P n t x = search (numbers, num_fractions) depth 12

num_by : {own : Bool} (M : Model) (P : List Float) (n : ℕ) (t : Float) (x : List Float) → Among own M (excess_by M P n t x)
unfolding excess_by
num_by Nrtl P n t x = num_nrtl P n t (at x)
num_by Wilson P n t x = num_wilson P n t (at x)

pub num_excess : {own : Bool} (book : List ℕ) (P : List Float) (n : ℕ) (t : Float) (x : List Float) → Among own (model_of book) (excess_of book P n t x)
unfolding excess_of
num_excess book P n t x = num_by (model_of book) P n t x
