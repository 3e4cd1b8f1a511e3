-- What stands for the same thing in a longer and a shorter call: keep k says that index k is kept, cnt keep k is its new place. Assumes nothing.
use Rattle.std.specs.Prelude.{ℕ, ◌<◌, Bool, not, T, Float}
use Rattle.std.specs.Float.{binary64}
use Rattle.std.specs.Float.Ieee.{fits}
use Rattle.floats.specs.Arithmetic.{0f}
use Rattle.floats.specs.Vector.{at}
use Rattle.zeros.specs.Same.{◌≈◌}
use Rattle.zeros.specs.Below.{◌⊑◌}
use Rattle.excess.specs.State.{Excess}
use Rattle.striking.specs.Places.{cnt}

-- fractions: an absent one is a zero (or a NaN, which no accepted call has), a kept one is the same up to the sign of zero; every entry is an f64
pub record Fractions (keep : ℕ → Bool) (n : ℕ) (x x' : ℕ → Float) : Type 0 where
  pub absent : (k : ℕ) → k < n → T (not (keep k)) → x k ⊑ 0f
  pub fraction : (k : ℕ) → k < n → T (keep k) → x k ≈ x' (cnt keep k)
  pub fit : (k : ℕ) → T (fits binary64 (x k))
  pub fit' : (k : ℕ) → T (fits binary64 (x' k))

-- excess states
pub record SameExcess (keep : ℕ → Bool) (n : ℕ) (e e' : Excess) : Type 0 where
  pub ln_gamma : (i : ℕ) → i < n → T (keep i) → at e.ln_gamma i ≈ at e'.ln_gamma (cnt keep i)
  pub slopes : (i : ℕ) → i < n → T (keep i) → at e.slopes i ≈ at e'.slopes (cnt keep i)
  pub reduced : e.reduced ≈ e'.reduced
  pub gibbs : e.gibbs ≈ e'.gibbs
  pub enthalpy : e.enthalpy ≈ e'.enthalpy
  pub entropy : e.entropy ≈ e'.entropy
  pub heat_capacity : e.heat_capacity ≈ e'.heat_capacity
