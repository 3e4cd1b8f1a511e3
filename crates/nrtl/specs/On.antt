-- NRTL's excess state of any table of planes. Assumes nothing.
use Rattle.std.specs.Prelude.{ℕ, List, Float}
use Rattle.floats.specs.Outcome.{Out, bind}
use Rattle.jet.specs.declared.Jet.{Jet}
use Rattle.jet.specs.Jets.{div_j}
use Rattle.jet.specs.Planes.{jets, twos, first_two}
use Rattle.excess.specs.State.{Excess, state_from, with_state}
use Rattle.nrtl_tables.specs.Table.{g_plane, h_plane, tau_plane}
use Rattle.nrtl.specs.Columns.{col_s, ln_from, gibbs_from}
use Rattle.nrtl.specs.Lanes.{two_in}

-- S and C / S, with H = τ G from the table
abbrev pub s_on : List Float → (ℕ → Float) → ℕ → ℕ → Jet
s_on m x n i = col_s (jets m g_plane) x n i

abbrev pub r_on : List Float → (ℕ → Float) → ℕ → ℕ → Jet
r_on m x n i = div_j (col_s (jets m h_plane) x n i) (s_on m x n i)

-- ln γ_i from arrays that hold S and R
abbrev pub ln_in : List Float → List Float → List Float → (ℕ → Float) → ℕ → ℕ → Jet
ln_in m s r x n = ln_from (twos m tau_plane) (twos m g_plane) (two_in s) (two_in r) x n

-- ln γ_i without its second derivative
abbrev pub ln_gamma_on : List Float → (ℕ → Float) → ℕ → ℕ → Jet
ln_gamma_on m x n i = ln_from (twos m tau_plane) (twos m g_plane) (λ j. first_two (s_on m x n j)) (λ j. first_two (r_on m x n j)) x n i

abbrev pub reduced_on : List Float → (ℕ → Float) → ℕ → Jet
reduced_on m x n = gibbs_from (r_on m x n) x n

-- go on if the tables passed, else refuse as they did
unfoldable pub passing : {A : Type 0} → Out (Unit {0}) → Out A → Out A
passing alphas next = bind alphas (λ _. next)

unfoldable pub nrtl_on : List Float → Out (Unit {0}) → ℕ → Float → (ℕ → Float) → Out Excess
nrtl_on m alphas n t x = with_state t x n (passing alphas (state_from (reduced_on m x n) (ln_gamma_on m x n) n t))
