-- Rachford-Rice: its refusals are numbered. Assumes nothing.
use Prim.Native.Nat.{ℕ, zero, suc}
use lib.Ieee.{Float}
use Rattle.floats.specs.Outcome.{Out}
use Rattle.rachford_rice.specs.Rachford.{validate, iterate, between, negative, constrained}
use Rattle.refusals.specs.Numbered.{Among}
use Rattle.refusals.proofs.Laws.{numbers}
use mathlib.Core.Bool.{Bool}
use Rattle.book.specs.declared.Model.{Model}

-- for a book of model M
module _ {own : Bool} {M : Model} where
  module _ (z k : ℕ → Float) (n : ℕ) where
    num_validate : {A : Type 0} {o : Out A} → Among own M o → Among own M (validate z k n o)
    unfolding validate
    num_validate h = search numbers

    num_iterate : (left done : ℕ) (lo hi β : Float) → Among own M (iterate z k n left done lo hi β)
    unfolding iterate
    num_iterate zero done lo hi β = search numbers
    num_iterate (suc left) done lo hi β = search (numbers, num_iterate left)

    pub num_negative : (limit : ℕ) → Among own M (negative z k n limit)
    unfolding negative between
    num_negative limit = search (numbers, num_validate, num_iterate)

    pub num_constrained : (limit : ℕ) → Among own M (constrained z k n limit)
    unfolding constrained
    num_constrained limit = search (numbers, num_validate, num_negative)
