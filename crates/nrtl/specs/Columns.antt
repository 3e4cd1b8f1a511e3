-- The sums of NRTL, in index order and for every n, over τ and G as functions of two indices (Renon and Prausnitz 1968). Assumes nothing.
use Rattle.std.specs.Prelude.{ℕ, Float}
use Rattle.jet.specs.declared.Jet.{Jet}
use Rattle.jet.specs.Jets.{scale_j, mul_j, sub_j, div_j, sum_jet_from, sum_jet_to}

-- S_i = Σ_k G_ki x_k
unfoldable pub col_s : (ℕ → ℕ → Jet) → (ℕ → Float) → ℕ → ℕ → Jet
col_s G x n i = sum_jet_to (λ k. scale_j (G k i) (x k)) n

-- C_i = Σ_k τ_ki G_ki x_k
unfoldable pub col_c : (ℕ → ℕ → Jet) → (ℕ → ℕ → Jet) → (ℕ → Float) → ℕ → ℕ → Jet
col_c T G x n i = sum_jet_to (λ k. scale_j (mul_j (T k i) (G k i)) (x k)) n

abbrev pub ratio : (ℕ → ℕ → Jet) → (ℕ → ℕ → Jet) → (ℕ → Float) → ℕ → ℕ → Jet
ratio T G x n i = div_j (col_c T G x n i) (col_s G x n i)

-- term j of ln γ_i, from r = C_j / S_j
unfoldable pub term_j : Jet → Jet → Jet → Jet → Float → Jet
term_j tau g s r x = mul_j (div_j (scale_j g x) s) (sub_j tau r)

-- from S and R = C / S
unfoldable pub ln_from : (ℕ → ℕ → Jet) → (ℕ → ℕ → Jet) → (ℕ → Jet) → (ℕ → Jet) → (ℕ → Float) → ℕ → ℕ → Jet
ln_from T G S R x n i = sum_jet_from (R i) (λ j. term_j (T i j) (G i j) (S j) (R j) (x j)) n

unfoldable pub gibbs_from : (ℕ → Jet) → (ℕ → Float) → ℕ → Jet
gibbs_from R x n = sum_jet_to (λ i. scale_j (R i) (x i)) n

-- ln γ_i = C_i / S_i + Σ_j (G_ij x_j / S_j) (τ_ij - C_j / S_j)
abbrev pub ln_gamma_j : (ℕ → ℕ → Jet) → (ℕ → ℕ → Jet) → (ℕ → Float) → ℕ → ℕ → Jet
ln_gamma_j T G x n i = ln_from T G (col_s G x n) (ratio T G x n) x n i

-- g^E / RT = Σ_i x_i C_i / S_i
abbrev pub reduced_j : (ℕ → ℕ → Jet) → (ℕ → ℕ → Jet) → (ℕ → Float) → ℕ → Jet
reduced_j T G x n = gibbs_from (ratio T G x n) x n
