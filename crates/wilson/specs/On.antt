-- Wilson's excess state of any table of planes. Assumes nothing.
use Rattle.std.specs.Prelude.{ℕ, List, Float}
use Rattle.floats.specs.Outcome.{Out}
use Rattle.jet.specs.declared.Jet.{Jet}
use Rattle.jet.specs.Jets.{ln_j}
use Rattle.jet.specs.Planes.{jets, twos, first_two}
use Rattle.excess.specs.State.{Excess, state_from, with_state}
use Rattle.wilson.specs.Sums.{row_s, wilson_from, gibbs_of_ln}

-- S and ln S
abbrev pub s_on : List Float → (ℕ → Float) → ℕ → ℕ → Jet
s_on m x n i = row_s (jets m 0) x n i

abbrev pub ln_s_on : List Float → (ℕ → Float) → ℕ → ℕ → Jet
ln_s_on m x n i = ln_j (s_on m x n i)

-- ln γ_i without its second derivative
abbrev pub ln_gamma_on : List Float → (ℕ → Float) → ℕ → ℕ → Jet
ln_gamma_on m x n i = wilson_from (twos m 0) (λ k. first_two (s_on m x n k)) (λ k. first_two (ln_s_on m x n k)) x n i

abbrev pub reduced_on : List Float → (ℕ → Float) → ℕ → Jet
reduced_on m x n = gibbs_of_ln (ln_s_on m x n) x n

unfoldable pub wilson_on : List Float → ℕ → Float → (ℕ → Float) → Out Excess
wilson_on m n t x = with_state t x n (state_from (reduced_on m x n) (ln_gamma_on m x n) n t)
