-- The questions ahead of the model, one after the other. Assumes nothing.
use Prim.Native.Nat.{ℕ}
use mathlib.Core.Path.{◌≡◌, ◌∙◌}
use mathlib.Core.List.{List}
use lib.Ieee.{Float}
use Rattle.floats.specs.Outcome.{Out, ok, no, bind}
use Rattle.excess.specs.State.{with_state, state_from}
use Rattle.excess.proofs.Passing.{state_first}
use Rattle.nrtl.specs.On.{ln_gamma_on, reduced_on, passing, nrtl_on}

module _ (m : List Float) (n : ℕ) (t : Float) (x : ℕ → Float) where
  pub fractions-refused : (alphas : Out (Unit {0})) {k : ℕ} → no k ≡ with_state t x n (ok (tt {0})) → nrtl_on m alphas n t x ≡ no k
  unfolding nrtl_on bind
  fractions-refused alphas e = state_first t x n _ ∙ rw (← e)

  pub alphas-refused : {u : Unit {0}} (k : ℕ) → ok u ≡ with_state t x n (ok (tt {0})) → nrtl_on m (no k) n t x ≡ no k
  unfolding nrtl_on passing bind
  alphas-refused k e = state_first t x n _ ∙ rw (← e)

  pub asked : {u : Unit {0}} (v : Unit {0}) → ok u ≡ with_state t x n (ok (tt {0})) → nrtl_on m (ok v) n t x ≡ state_from (reduced_on m x n) (ln_gamma_on m x n) n t
  unfolding nrtl_on passing bind
  asked v e = state_first t x n _ ∙ rw (← e)
